-- `acts_step`: act by act, until one is refused.
-- Assumes nothing.
use Rattle.std.proofs.Common.{◌≡◌, ◌∙◌, drop, arith}
use Rattle.std.proofs.lemmas.Result.{err_from_is_err_and}
use Rattle.reader.specs.Reader.{stop, acts_step}
use Rattle.reader.proofs.Many.{acts-over, acts-more, acts-ends, acts-next}
use Rattle.reader.proofs.acts_step.Goals as goal

pub returns-in_err-at : goal.returns-in_err-at
returns-in_err-at c =
    let h = c.loop in
    let p = err_from_is_err_and c.from_residual.result c.from_residual.ensures.1 in
    rw (p.1, p.2) (acts-ends c.args.bytes.now c.args.acts h.counter h.at c.loop-test.true _ c.in_err-at.ensures ∙ h.invariant.1)

pub loop-preserved : goal.loop-preserved
loop-preserved c =
    let h = c.loop in
    let next = acts-next c.args.bytes.now c.args.acts h.counter h.at c.loop-test.true _ c.in_ok-at.ensures h.invariant.0 in
    (next.0, next.1 ∙ h.invariant.1)

pub returns-then-at-bytes : goal.returns-then-at-bytes
returns-then-at-bytes c =
    let h = c.loop in
    let told : stop 19 h.at ≡ acts_step c.args.acts c.args.from (drop c.args.from c.args.bytes.now) = acts-more c.args.bytes.now c.args.acts h.counter h.at c.loop-test.false c.if-at-bytes.true ∙ h.invariant.1 in
    grind arith

pub returns : goal.returns
returns c =
    let h = c.loop in
    acts-over c.args.bytes.now c.args.acts h.counter h.at c.loop-test.false c.if-at-bytes.false ∙ h.invariant.1
