-- What a board keeps of a run is enough: it follows the paper's run sample by sample, and no delay can tell the two apart.
-- Assumes nothing.
use Prim.Native.Nat.{ℕ, ◌+◌, ◌≤◌, ◌<◌, min}
use native.Mathlib.Omega.{arith}
use mathlib.Core.Path.{◌≡◌, refl, sym, ◌∙◌}
use mathlib.Core.Bool.{Bool, true, false, cond}
use mathlib.Core.List.{List, [], ◌∷◌, drop_last}
use mathlib.Core.Option.{Option, some, none}
use lib.Dec.{ltb, eqb}
use borrow.Author.Tests.{lt-ltb, le-ltb, ltb-true, ltb-false, ne_eqb}
use Rattle.lists.proofs.Split.{split}
use Rattle.settings.specs.declared.Settings.{Settings}
use Rattle.settings.specs.Faults.{Fault, delay}
use Rattle.settings.proofs.Laws.{delay-within}
use Rattle.runs.specs.Run.{stretch, total, lasting, run, past}
use Rattle.runs.specs.Stored.{run_cap, stored, run_next, stood}

-- no run has stood no delay
pub none-stood : (delay : ℕ) → stood delay 0 ≡ false
unfolding stood
none-stood delay = le-ltb (cond (eqb delay 0) 0 (delay + 1)) 0 (omega arith)

-- a delay with room for a longer run below the cap has been stood by the kept run exactly if it has by the paper's
pub kept-stood : (delay : ℕ) (r : Option ℕ) → delay + 1 < run_cap → stood delay (stored r) ≡ past delay r
unfolding stood
kept-stood delay none h = none-stood delay
kept-stood delay (some t) h = split (eqb delay 0) zero-delay longer
  where
    zero-delay : eqb delay 0 ≡ true → stood delay (stored (some t)) ≡ past delay (some t)
    zero-delay e = rw e (lt-ltb 0 (min run_cap (t + 1)) (omega arith))

    by : (b : Bool) → ltb delay t ≡ b → ltb (delay + 1) (min run_cap (t + 1)) ≡ ltb delay t
    by true e = let at : delay < t = ltb-true delay t e in lt-ltb (delay + 1) (min run_cap (t + 1)) (omega arith) ∙ sym e
    by false e = let at : t ≤ delay = ltb-false delay t e in le-ltb (delay + 1) (min run_cap (t + 1)) (omega arith) ∙ sym e

    longer : eqb delay 0 ≡ false → stood delay (stored (some t)) ≡ past delay (some t)
    longer e = rw e (by (ltb delay t) refl)

-- no fault's delay reaches the cap, with room for a run that is longer than any of them
pub cap-beyond : (f : Fault) (s : Settings) → delay f s + 1 < run_cap
cap-beyond f s = omega (arith, delay-within f s)

-- and so of every fault's delay, whatever the settings
pub stood-delay : (f : Fault) (s : Settings) (r : Option ℕ) → stood (delay f s) (stored r) ≡ past (delay f s) r
stood-delay f s r = kept-stood (delay f s) r (cap-beyond f s)

module _ {X : Type 0} (elapsed : X → ℕ) (holds : X → Bool) where
  grows : (x : X) (held : List X) → run_next (stored (lasting elapsed held)) true (elapsed x) ≡ stored (lasting elapsed (x ∷ held))
  unfolding run_next
  grows x [] = refl
  grows x (y ∷ held) =
      let t = total elapsed (drop_last (y ∷ held)) in
      rw (ne_eqb (min run_cap (t + 1)) 0 (λ e. omega arith)) (omega arith)

  -- the kept run follows the paper's run, sample by sample
  pub kept_run : (x : X) (older : List X) → run_next (stored (run elapsed holds older)) (holds x) (elapsed x) ≡ stored (run elapsed holds (x ∷ older))
  unfolding run_next
  kept_run x older = by (holds x)
    where
      by : (b : Bool) → run_next (stored (run elapsed holds older)) b (elapsed x) ≡ stored (lasting elapsed (cond b (x ∷ stretch holds older) []))
      by true = grows x (stretch holds older)
      by false = refl
