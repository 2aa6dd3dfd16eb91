-- What the look finds comes to the sample.
use Rattle.std.proofs.Common.{◌∙◌, sym, ap, Ok, Err}
use Rattle.std.proofs.lemmas.Result.{err_from_is_err_and}
use Rattle.board.specs.declared.Found.TheVariants.{Quiet, Grows, Changes}
use Rattle.board.proofs.Looking.{look-comes}
use Rattle.board.proofs.sample_board.Goals as goal

pub returns-in_err-span : goal.returns-in_err-span
returns-in_err-span c =
    let a = c.args in
    let p = err_from_is_err_and c.from_residual.result c.from_residual.ensures.1 in
    let came = look-comes a.b.now a.x a.mv.now (Err c.in_err-span.field-0.0) (sym c.look.ensures ∙ c.in_err-span.was) in
    rw (p.1, p.2) came

pub returns-in-Quiet : goal.returns-in-Quiet
returns-in-Quiet c =
    let a = c.args in
    let came = look-comes a.b.now a.x a.mv.now (Ok (Quiet c.in-Quiet.span)) (sym c.look.ensures ∙ c.in_ok-span.was ∙ ap Ok c.in-Quiet.is) in
    (ap Ok c.rest_board.ensures.0 ∙ came.0, c.rest_board.ensures.1 ∙ came.1)

pub returns-in-Grows : goal.returns-in-Grows
returns-in-Grows c =
    let a = c.args in
    let came = look-comes a.b.now a.x a.mv.now (Ok (Grows c.in-Grows.span)) (sym c.look.ensures ∙ c.in_ok-span.was ∙ ap Ok c.in-Grows.is) in
    (ap Ok c.grow_board.ensures.0 ∙ came.0, c.grow_board.ensures.1 ∙ came.1)

pub returns-in-Changes : goal.returns-in-Changes
returns-in-Changes c =
    let a = c.args in
    let came = look-comes a.b.now a.x a.mv.now (Ok (Changes c.in-Changes.span)) (sym c.look.ensures ∙ c.in_ok-span.was ∙ ap Ok c.in-Changes.is) in
    (ap Ok c.accept_board.ensures.0 ∙ came.0, c.accept_board.ensures.1 ∙ came.1)
