-- Act by act, until one is answered otherwise.
-- Assumes nothing.
use Rattle.std.proofs.Common.{◌≡◌, ◌∙◌, ◌+◌, ◌-◌, sym, ap, drop}
use Rattle.format.specs.Read.{acts_from}
use Rattle.replay.specs.Check.{wrong_after, row_after}
use Rattle.replay.specs.Way.{padded, told_said}
use Rattle.reader.specs.Reader.{stop, act_step}
use Rattle.reader.specs.Told.{step_told}
use Rattle.reader.proofs.Told.{told-ok}
use Rattle.replay.proofs.Same.{same-answer, other-answer}
use Rattle.replay.proofs.Again.{shown-whole, goes-on, act-wrong, act-right, next-inside, next-whole, acts-over}
use Rattle.replay.proofs.first_wrong.Goals as goal

pub act_in-requires : goal.act_in-requires
act_in-requires c =
    let h = c.loop-done in
    shown-whole h.row c.args.bytes.now c.args.acts h.done h.at c.loop-done-test.true h.invariant.0 h.invariant.1

pub recorded_in-requires : goal.recorded_in-requires
recorded_in-requires c =
    let h = c.loop-done in
    shown-whole h.row c.args.bytes.now c.args.acts h.done h.at c.loop-done-test.true h.invariant.0 h.invariant.1

pub returns-then-ne : goal.returns-then-ne
returns-then-ne c =
    let h = c.loop-done in
    let told = c.answer_of.ensures ∙ ap (λ t. padded (told_said t)) c.act_row-told.ensures.0 in
    let wrong = act-wrong h.row c.args.bytes.now c.args.acts h.done h.at c.loop-done-test.true h.invariant.0 h.invariant.1 _ c.act_in.ensures _ told _ c.recorded_in.ensures
    (other-answer c.answer_of.result c.recorded_in.result c.ne.result c.ne.ensures c.if-ne.true) in
    (wrong.0 ∙ h.invariant.2, c.act_row-told.ensures.1 ∙ wrong.1 ∙ h.invariant.3)

pub unwrap-at-requires : goal.unwrap-at-requires
unwrap-at-requires c =
    let h = c.loop-done in
    told-ok c.act_step.result c.act_step.ensures (goes-on h.row c.args.bytes.now c.args.acts h.done h.at c.loop-done-test.true h.invariant.0 h.invariant.1)

pub loop-done-preserved : goal.loop-done-preserved
loop-done-preserved c =
    let h = c.loop-done in
    let bytes = c.args.bytes.now in
    let acts = c.args.acts in
    let told = c.answer_of.ensures ∙ ap (λ t. padded (told_said t)) c.act_row-told.ensures.0 in
    let right = same-answer c.answer_of.result c.recorded_in.result c.ne.result c.ne.ensures c.if-ne.false in
    let on : stop 0 c.unwrap-at.result ≡ act_step h.at (drop h.at bytes) = sym (ap step_told c.unwrap-at.ensures) ∙ c.act_step.ensures in
    let next = act-right h.row bytes acts h.done h.at c.loop-done-test.true h.invariant.0 h.invariant.1 _ c.act_in.ensures _ told _ c.recorded_in.ensures right _ on in (
      next-inside h.row bytes acts h.done h.at c.loop-done-test.true h.invariant.0 h.invariant.1 _ c.act_in.ensures _ told _ c.recorded_in.ensures right _ on,
      next-whole h.row bytes acts h.done h.at c.loop-done-test.true h.invariant.0 h.invariant.1 _ c.act_in.ensures _ told _ c.recorded_in.ensures right _ on,
      ap (λ row. wrong_after (h.done + 1) row (acts_from (acts - (h.done + 1)) (drop c.unwrap-at.result bytes))) c.act_row-told.ensures.1 ∙ next.0 ∙ h.invariant.2,
      ap (λ row. row_after row (acts_from (acts - (h.done + 1)) (drop c.unwrap-at.result bytes))) c.act_row-told.ensures.1 ∙ next.1 ∙ h.invariant.3,
    )

pub returns : goal.returns
returns c =
    let h = c.loop-done in
    let over = acts-over h.row c.args.bytes.now c.args.acts h.done h.at c.loop-done-test.false in
    (over.0 ∙ h.invariant.2, over.1 ∙ h.invariant.3)
