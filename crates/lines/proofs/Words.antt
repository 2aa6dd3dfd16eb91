-- The rest of a line by its first byte, and from a place further on.
-- Assumes nothing.
use Prim.Native.Nat.{ℕ, zero, suc, ◌+◌, ◌-◌, ◌<◌, ◌≤◌, suc-le-suc}
use native.Mathlib.Nat.{not-suc-le-zero, le_of_suc-le-suc}
use native.Mathlib.Numerals.{add-one}
use native.Mathlib.Omega.{arith}
use mathlib.Core.Path.{◌≡◌, refl, sym, ap, ◌∙◌}
use mathlib.Core.Bool.{cond}
use mathlib.Core.List.{List, [], ◌∷◌}
use lib.Dec.{eqb}
use lib.ListN.{length, get_or, drop, length-drop}
use lib.Seq.{drop-drop}
use borrow.Author.Tests.{eq-eqb, ne_eqb}
use Rattle.lists.proofs.Split.{split}
use Rattle.lines.specs.Lines.{before}
use Rattle.lines.specs.Way.{rest_at, end_at}

within : (s : List ℕ) (i d : ℕ) → (get_or s i d ≡ d → ⊥) → i < length s
within [] i d p = absurd (p refl)
within (b ∷ s) zero d p = omega arith
within (b ∷ s) (suc i) d p = suc-le-suc (within s i d p)

rest-here : (s : List ℕ) (i : ℕ) → rest_at s i ≡ cond (eqb (get_or s i 10) 10) [] (get_or s i 10 ∷ rest_at s (i + 1))
unfolding before
rest-here [] zero = refl
rest-here [] (suc i) = refl
rest-here (b ∷ s) zero = refl
rest-here (b ∷ s) (suc i) = rw (rest-here s i, add-one i, add-one (suc i))

-- ---- at a place with the byte b
module _ (s : List ℕ) (i : ℕ) {b : ℕ} (e : b ≡ get_or s i 10) where
  pub rest-at : rest_at s i ≡ cond (eqb b 10) [] (b ∷ rest_at s (i + 1))
  rest-at = rw e (rest-here s i)

  pub rest_end : b ≡ 10 → rest_at s i ≡ []
  rest_end t = rw (rest-at, eq-eqb b 10 t)

  module _ (inside : b ≡ 10 → ⊥) where
    pub rest-on : rest_at s i ≡ b ∷ rest_at s (i + 1)
    rest-on = rw (rest-at, ne_eqb b 10 inside)

    -- a byte other than a newline is there, and the line ends behind it
    pub byte-within : i < length s
    byte-within = within s i 10 (rw e at inside)

    pub end_on : end_at s (i + 1) ≡ end_at s i
    end_on = rw rest-on (omega arith)

-- ---- further on in a line

pub before-long : (c : ℕ) (t : List ℕ) → length (before c t) ≤ length t
unfolding before
before-long c [] = omega arith
before-long c (b ∷ t) = split (eqb b c) (λ e. rw e (omega arith)) (λ e. rw e (omega (arith, before-long c t)))

-- bytes of which none is c are all before the first
pub all-before : (c : ℕ) (t : List ℕ) → length t ≤ length (before c t) → before c t ≡ t
unfolding before
all-before c [] h = refl
all-before c (b ∷ t) h =
    split (eqb b c)
    (λ e. absurd (not-suc-le-zero (rw e at h)))
    (λ e. let l : suc (length t) ≤ suc (length (before c t)) = rw e at h in rw e (ap (λ (r : List ℕ). b ∷ r) (all-before c t (le_of_suc-le-suc l))))

before-drop : (c k : ℕ) (t : List ℕ) → k ≤ length (before c t) → drop k (before c t) ≡ before c (drop k t)
unfolding before
before-drop c zero t h = refl
before-drop c (suc k) [] h = refl
before-drop c (suc k) (b ∷ t) h =
    split (eqb b c)
    (λ e. absurd (not-suc-le-zero (rw e at h)))
    (λ e. let l : suc k ≤ suc (length (before c t)) = rw e at h in rw e (before-drop c k t (le_of_suc-le-suc l)))

module _ (s : List ℕ) (i : ℕ) where
  pub rest-drop : (k : ℕ) → k ≤ length (rest_at s i) → drop k (rest_at s i) ≡ rest_at s (i + k)
  rest-drop k h = before-drop 10 k (drop i s) h ∙ rw (drop-drop k i s)

  -- and the line ends where it did
  pub end-behind : (k : ℕ) → k ≤ length (rest_at s i) → end_at s (i + k) ≡ end_at s i
  end-behind k few =
      let some : length (rest_at s (i + k)) ≡ length (rest_at s i) - k = rw (sym (rest-drop k few)) (length-drop k (rest_at s i)) in
      omega arith
