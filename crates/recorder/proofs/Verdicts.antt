-- The verdict on an act that can be recorded: where it is 16, 15 and 0.
-- Assumes nothing.
use Prim.Native.Nat.{ℕ, ◌+◌, ◌<◌, ◌≤◌}
use mathlib.Core.Path.{◌≡◌, refl}
use mathlib.Core.Bool.{Bool, true, false, not, ◌||◌}
use mathlib.Core.List.{[], ◌∷◌}
use lib.Dec.{eqb}
use borrow.Author.Tests.{eqb-true, ne_eqb, lt-ltb, le-ltb}
use Rattle.lists.proofs.Split.{split}
use Rattle.refusal.specs.Said.{bar, first}
use Rattle.recorder.specs.declared.Recorder.{Recorder}
use Rattle.recorder.specs.Recorder.{end, never_begun, no_room, note_bars, after}

-- the recorder says its verdict
pub verdict-is : (r : Recorder) (size v : ℕ) → (after r size v).verdict ≡ v
verdict-is r size v = split (eqb v 0) (λ e. rw (e, eqb-true v 0 e)) (λ e. rw e)

module _ (r : Recorder) (size lent : ℕ) where
  abbrev pub says : ℕ
  says = first (note_bars r true size lent)

  pub stopped-full : r.stopped ≡ 16 → says ≡ 16
  stopped-full e = rw e

  pub stopped-other : (r.stopped ≡ 16 → ⊥) → (r.stopped ≡ 0 → ⊥) → says ≡ 15
  stopped-other e f = rw (ne_eqb r.stopped 16 e, ne_eqb r.stopped 0 f)

  pub strange-full : r.stopped ≡ 0 → never_begun r ≡ true → says ≡ 16
  strange-full e f = rw (e, f)

  pub past-full : r.stopped ≡ 0 → never_begun r ≡ false → end lent < r.used + size → says ≡ 16
  past-full e f p = rw (e, f, lt-ltb (end lent) (r.used + size) p)

  pub room : r.stopped ≡ 0 → never_begun r ≡ false → r.used + size ≤ end lent → says ≡ 0
  room e f p = rw (e, f, le-ltb (end lent) (r.used + size) p)

-- ---- what can not be recorded gets 15
pub barred : (r : Recorder) (size lent : ℕ) → first (note_bars r false size lent) ≡ 15
barred r size lent = by (not (eqb r.stopped 0 || eqb r.stopped 16))
  where
    by : (b : Bool) → first (bar 15 (b || true) ∷ bar 16 (no_room r size lent) ∷ []) ≡ 15
    by true = refl
    by false = refl
