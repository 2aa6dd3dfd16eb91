-- `number_at`: by its first byte, a 0, another digit, or none.
-- Assumes nothing.
use Rattle.std.proofs.Common.{sym, ◌∙◌}
use Rattle.lines.proofs.Numbers.{number_more, number-nought, number-none}
use Rattle.lines.proofs.number_at.Goals as goal

pub returns-then-minus : goal.returns-then-minus
returns-then-minus c =
    let a = c.args in
    rw (number-nought _ _ a.s.now a.at c.byte_at-first.ensures c.if-first-eq48.true, c.if-minus.true)

pub returns-then-first-eq48 : goal.returns-then-first-eq48
returns-then-first-eq48 c =
    let a = c.args in
    rw (number-nought _ _ a.s.now a.at c.byte_at-first.ensures c.if-first-eq48.true, c.if-minus.false)

pub returns-then-is_ascii_digit : goal.returns-then-is_ascii_digit
returns-then-is_ascii_digit c =
    let a = c.args in
    (rw c.from.ensures at c.digits_from.ensures) ∙ sym (number_more _ _ a.s.now a.at c.byte_at-first.ensures (sym c.is_ascii_digit.ensures.value ∙ c.if-is_ascii_digit.true) c.if-first-eq48.false)

pub returns : goal.returns
returns c =
    let a = c.args in
    sym (number-none _ _ a.s.now a.at c.byte_at-first.ensures (sym c.is_ascii_digit.ensures.value ∙ c.if-is_ascii_digit.false))
