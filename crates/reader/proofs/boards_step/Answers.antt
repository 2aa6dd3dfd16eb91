-- `boards_step`: board by board, until one is refused.
-- Assumes nothing.
use Rattle.std.proofs.Common.{◌∙◌}
use Rattle.std.proofs.lemmas.Result.{err_from_is_err_and}
use Rattle.reader.proofs.Many.{boards-over, boards-ends, boards-next}
use Rattle.reader.proofs.boards_step.Goals as goal

pub returns-in_err-at : goal.returns-in_err-at
returns-in_err-at c =
    let h = c.loop in
    let p = err_from_is_err_and c.from_residual.result c.from_residual.ensures.1 in
    rw (p.1, p.2) (boards-ends c.args.bytes.now c.args.boards h.counter h.at c.loop-test.true _ c.in_err-at.ensures ∙ h.invariant.1)

pub loop-preserved : goal.loop-preserved
loop-preserved c =
    let h = c.loop in
    let next = boards-next c.args.bytes.now c.args.boards h.counter h.at c.loop-test.true _ c.in_ok-at.ensures h.invariant.0 in
    (next.0, next.1 ∙ h.invariant.1)

pub returns : goal.returns
returns c =
    let h = c.loop in
    boards-over c.args.bytes.now c.args.boards h.counter h.at c.loop-test.false ∙ h.invariant.1
