use Rattle.std.proofs.Common.{◌∙◌, sym, ap, Err}
use Rattle.std.proofs.lemmas.Result.{err_from_is_err_and}
use Rattle.registers.proofs.Ways.{way-refused, way-through}
use Rattle.registers.proofs.obey_board.Goals as goal

pub returns-in_err-allowed : goal.returns-in_err-allowed
returns-in_err-allowed c =
    let a = c.args in
    let p = err_from_is_err_and c.from_residual.result c.from_residual.ensures.1 in
    let told = way-refused a.b.now a.asked _ (sym c.allowed.ensures ∙ c.in_err-allowed.was) in
    (p.1 ∙ ap Err p.2 ∙ told.0, told.1)

pub returns : goal.returns
returns c =
    let told = way-through c.args.b.now c.args.asked _ (sym c.allowed.ensures ∙ c.in_ok-allowed.was) in
    (c.carry_out.ensures.0 ∙ told.0, c.carry_out.ensures.1 ∙ told.1)
