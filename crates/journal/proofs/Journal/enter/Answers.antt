-- `enter`: cause by cause, the new entry where the next goes.
-- Assumes nothing.
use Rattle.std.proofs.Common.{◌≡◌, ℕ, ◌+◌, ◌-◌, min, Bool, cond, get_or, sym, ap, ◌∙◌, arith}
use Rattle.lists.specs.Marks.{marked}
use Rattle.journal.specs.Ring.{latching, entered, entered_all, noted}
use Rattle.journal.proofs.Laws.{noted-sound, noted-turn}
use Rattle.journal.proofs.Journal.enter.Goals as goal
use Rattle.journal.proofs.Journal.enter.Goals.{then-mark_at, else-mark_at}

pub loop-cause-preserved : goal.loop-cause-preserved
unfolding entered
loop-cause-preserved c =
    let a = c.args in
    let h = c.loop-cause in
    let up : ℕ → Bool = marked a.causes in
    let cell : ℕ → ℕ = λ k. get_or a.cells k 0 in
    let latched = latching h.cause (cell h.cause) a.number in
    let asked : c.mark_at.result ≡ up h.cause = c.mark_at.ensures in
    let full : min (min (h.self.len + 1) 255) 128 ≡ min 128 (h.self.len + 1) = omega arith in
    let next : c.if-mark_at.self ≡ cond (up h.cause) (entered h.self latched) h.self =
    elim c.if-mark_at.branch [
      | then-mark_at w ↦ w.self-is ∙ rw (w.min-self.ensures, w.saturating_add.ensures, w.what_of.ensures, w.from-at.ensures, sym asked ∙ w.if-mark_at.true, full)
      | else-mark_at w ↦ w.self-is ∙ rw (sym asked ∙ w.if-mark_at.false)
    ] in
    (noted-sound (up h.cause) latched h.self c.if-mark_at.self next h.invariant.0, noted-turn up cell a.number h.cause h.self c.if-mark_at.self (omega arith) next ∙ h.invariant.1)

pub returns : goal.returns
unfolding noted
returns c =
    let h = c.loop-cause in
    let up : ℕ → Bool = marked c.args.causes in
    let cell : ℕ → ℕ = λ k. get_or c.args.cells k 0 in
    let none : 5 - h.cause ≡ 0 = omega arith in
    sym (ap (λ (n : ℕ). entered_all h.self (noted up cell c.args.number h.cause n)) none) ∙ h.invariant.1
