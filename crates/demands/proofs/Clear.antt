-- An act that no row of the table refuses: what that shows of each condition, and what it is asked for.
-- Assumes nothing.
use Prim.Native.Nat.{ℕ}
use mathlib.Core.Path.{◌≡◌, refl, sym, ap, ◌∙◌}
use mathlib.Core.Bool.{Bool, true, false, true≢false, cond, not, ◌&&◌}
use mathlib.Core.List.{List, [], ◌∷◌}
use lib.Dec.{eqb}
use Rattle.refusal.specs.Said.{Bar, first, accepts, refuses, judged, unless_refused}

-- no refusal has number 0, so where none is given the first condition fails, and none of the others is given
pub clear : (b : Bar) (bars : List Bar) → eqb b.number 0 ≡ false → eqb (first (b ∷ bars)) 0 ≡ true → (b.when ≡ false) × (eqb (first bars) 0 ≡ true)
clear b bars n = by b.when
  where
    by : (t : Bool) → eqb (cond t b.number (first bars)) 0 ≡ true → (t ≡ false) × (eqb (first bars) 0 ≡ true)
    by true e = absurd (true≢false (sym e ∙ n))
    by false e = (refl, e)

-- a table in which no row has number 0
abbrev pub numbered : List Bar → Bool
numbered [] = true
numbered (b ∷ bars) = not (eqb b.number 0) && numbered bars

-- values and new states matter only where the act is accepted
pub judged-same : (bars : List Bar) (vs ws : List ℕ) → (eqb (first bars) 0 ≡ true → vs ≡ ws) → judged bars vs ≡ judged bars ws
judged-same bars vs ws = by (eqb (first bars) 0)
  where
    by : (t : Bool) → (t ≡ true → vs ≡ ws) → cond t (accepts vs) (refuses (first bars)) ≡ cond t (accepts ws) (refuses (first bars))
    by true e = ap accepts (e refl)
    by false e = refl

pub kept_same : {A B : Type 0} (f : B → A) (bars : List Bar) (old : B) (new : A) (other : B) → (eqb (first bars) 0 ≡ true → new ≡ f other) → unless_refused bars (f old) new ≡ f (unless_refused bars old other)
kept_same f bars old new other = by (eqb (first bars) 0)
  where
    by : (t : Bool) → (t ≡ true → new ≡ f other) → cond t new (f old) ≡ f (cond t other old)
    by true e = e refl
    by false e = refl
