-- `line_at`: the line is what the numbers stored so far and the words behind at come to, and at is still in the line.
-- Assumes nothing.
use Rattle.std.proofs.Common.{◌≡◌, refl, sym, ◌∙◌, arith}
use lib.ListN.{set, length-set}
use Rattle.lines.specs.Line.{blank}
use Rattle.lines.proofs.Words.{byte-within, end_on}
use Rattle.lines.proofs.Fields.{on_field, words-none, words-start, found-malformed, found-wrong, found_right, after-full, after-space, after-field, field_past, row-limits, set_past}
use Rattle.lines.proofs.line_at.Goals as goal
use Rattle.lines.proofs.line_at.Goals.{then-n-lt21, else-n-lt21}

pub returns-then-first-eq10 : goal.returns-then-first-eq10
returns-then-first-eq10 c =
    let a = c.args in
    c.malformed_from.ensures ∙ sym (found-malformed a.s.now a.start (words-none a.s.now a.start c.byte_at-first.ensures c.if-first-eq10.true))

pub loop-rules-init : goal.loop-rules-init
unfolding blank
loop-rules-init c =
    let a = c.args in
    let rules = c.rules_of-rules.ensures in
    let limits = row-limits c.from-kind.result in
    (rw rules limits.0, rw rules limits.1, omega arith, omega arith, end_on a.s.now a.start c.byte_at-first.ensures c.if-first-eq10.false, rw (rules, c.from-kind.ensures) (words-start a.s.now a.start c.byte_at-first.ensures c.if-first-eq10.false), refl)

pub returns-then-b-n : goal.returns-then-b-n
returns-then-b-n c =
    let h = c.loop-rules in
    let a = c.args in
    rw (c.malformed_from-then-b-n.ensures, h.invariant.4)
    (sym (found-wrong _ _ _ _ _ a.s.now h.at c.byte_at-b.ensures a.start c.if-b-ne32.true h.invariant.2 h.invariant.3 h.invariant.4 h.invariant.5 c.if-b-n.true))

pub returns-then-b-ne32 : goal.returns-then-b-ne32
returns-then-b-ne32 c =
    let h = c.loop-rules in
    let a = c.args in
    sym (found_right _ _ _ _ _ a.s.now h.at c.byte_at-b.ensures a.start c.if-b-ne32.true h.invariant.2 h.invariant.3 h.invariant.4 h.invariant.5 c.if-b-n.false)

pub returns-then-rules-n : goal.returns-then-rules-n
returns-then-rules-n c =
    let h = c.loop-rules in
    let a = c.args in
    rw (c.malformed_from-then-rules-n.ensures, h.invariant.4)
    (sym (found-malformed a.s.now a.start (h.invariant.5 ∙ after-full _ _ _ _ _ _ h.at c.byte_at-b.ensures c.if-b-ne32.false c.if-rules-n.true)))

pub returns-in_default : goal.returns-in_default
unfolding on_field
returns-in_default c =
    let h = c.loop-rules in
    let a = c.args in
    rw (c.malformed_from-in_default.ensures, h.invariant.4)
    (sym (found-malformed a.s.now a.start (h.invariant.5 ∙ rw (after-space _ _ _ _ _ _ h.at c.byte_at-b.ensures c.if-b-ne32.false, ← c.field_at.ensures, c.in_default.is))))

-- a field was read behind a space, and lies in the line
pub loop-rules-smaller : goal.loop-rules-smaller
loop-rules-smaller c =
    let h = c.loop-rules in
    let a = c.args in
    omega (arith, byte-within a.s.now h.at c.byte_at-b.ensures (λ e. omega (arith, c.if-b-ne32.false)), (field_past _ _ _ _ (rw c.field_at.ensures at c.in-Some.is)).0)

pub loop-rules-preserved : goal.loop-rules-preserved
loop-rules-preserved c =
    let h = c.loop-rules in
    let a = c.args in
    let past = field_past _ _ _ _ (rw c.field_at.ensures at c.in-Some.is) in
    let long = h.invariant.6 in
    let stored : c.if-n-lt21.numbers ≡ set h.numbers h.n c.in-Some.number.size =
    elim c.if-n-lt21.branch [
      | then-n-lt21 w ↦ w.numbers-is
      | else-n-lt21 w ↦ w.numbers-is ∙ sym (set_past h.numbers h.n _ (omega (arith, long, w.if-n-lt21.false)))
    ] in
    (h.invariant.0, h.invariant.1, omega arith, omega (arith, past.0, h.invariant.3), past.1 ∙ end_on a.s.now h.at c.byte_at-b.ensures (λ e. omega (arith, c.if-b-ne32.false)) ∙ h.invariant.4, h.invariant.5 ∙ after-field _ _ _ _ _ _ h.at c.byte_at-b.ensures c.if-b-ne32.false c.field_at.ensures c.in-Some.is stored, rw (stored, length-set) long)
