-- `digits_from`: what is read from the start is what the sum so far and the digits from next on come to.
-- Assumes nothing.
use Rattle.std.proofs.Common.{sym, ◌∙◌, rules}
use Rattle.lines.proofs.Numbers.{digits-over, digits-turn, digits-end}
use Rattle.lines.proofs.digits_from.Goals as goal

pub returns-then-top-sum : goal.returns-then-top-sum
returns-then-top-sum c =
    let h = c.loop-at in
    sym (h.invariant.1 ∙ digits-turn _ _ _ h.next c.byte_at-b.ensures _ (sym c.is_ascii_digit.ensures.value ∙ c.if-not-is_ascii_digit.false) ∙ digits-over _ _ _ _ _ (rw (c.from.ensures, c.from-top.ensures) at c.if-top-sum.true))

pub loop-at-preserved : goal.loop-at-preserved
loop-at-preserved c =
    let h = c.loop-at in
    (search rules, rw c.from.ensures (h.invariant.1 ∙ digits-turn _ _ _ h.next c.byte_at-b.ensures _ (sym c.is_ascii_digit.ensures.value ∙ c.if-not-is_ascii_digit.false)))

pub returns-then-not-is_ascii_digit : goal.returns-then-not-is_ascii_digit
returns-then-not-is_ascii_digit c =
    let h = c.loop-at in
    sym (h.invariant.1 ∙ digits-end _ _ _ h.next c.byte_at-b.ensures _ (sym c.is_ascii_digit.ensures.value ∙ c.if-not-is_ascii_digit.true) h.invariant.0)
