-- A refusal's number is never the 0 of an accepted act.
-- Assumes nothing.
use Rattle.std.proofs.lemmas.Result.{err_from_is_err_and}
use Rattle.refusal.proofs.Laws.{number-not-zero}
use Rattle.replay.specs.Way.{padded}
use Rattle.replay.proofs.answer_of.Goals as goal

pub returns-in_err-told : goal.returns-in_err-told
unfolding padded
returns-in_err-told c =
    let p = err_from_is_err_and c.from_residual.result c.from_residual.ensures.1 in
    rw (p.1, p.2, c.in_err-told.was, number-not-zero c.in_err-told.field-0.0)
