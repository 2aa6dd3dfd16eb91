-- The laws of lists by places: one place more at the front, none, how long they are, and the entry at a place.
-- Assumes nothing.
use Prim.Native.Nat.{ℕ, zero, suc, ◌+◌, ◌-◌, ◌<◌, ◌≤◌}
use native.Mathlib.Nat.{not-suc-le-zero, le_of_suc-le-suc}
use native.Mathlib.Omega.{arith}
use mathlib.Core.Path.{◌≡◌, refl, ap, ◌∙◌}
use mathlib.Core.Bool.{Bool}
use mathlib.Core.List.{List, [], ◌∷◌, ◌++◌}
use lib.ListN.{length, get_or, take, drop, set, drop_of_length-le}
use lib.Seq.{drop-cons}
use Rattle.lists.specs.Every.{every}
use Rattle.lists.specs.Each.{each, all}

module _ {A : Type 0} (f : ℕ → A) where
  pub each-length : (i n : ℕ) → length (each i n f) ≡ n
  unfolding each
  each-length i zero = refl
  each-length i (suc n) = ap suc (each-length (suc i) n)

  pub each_at : (i n k : ℕ) (d : A) → k < n → get_or (each i n f) k d ≡ f (i + k)
  unfolding each
  each_at i zero k d p = absurd (not-suc-le-zero p)
  each_at i (suc n) zero d p = ap f (omega arith)
  each_at i (suc n) (suc k) d p = each_at (suc i) n k d (le_of_suc-le-suc p) ∙ ap f (omega arith)

  pub each-place : (n k : ℕ) (d : A) → k < n → get_or (each 0 n f) k d ≡ f k
  each-place n k d p = each_at 0 n k d p ∙ ap f (omega arith)

  -- the places from i up to n, and none
  pub each-down : (i n : ℕ) → 0 < i → i ≤ n → each (i - 1) (n - (i - 1)) f ≡ f (i - 1) ∷ each i (n - i) f
  unfolding each
  each-down zero n p q = absurd (not-suc-le-zero p)
  each-down (suc j) n p q =
      let back : suc j - 1 ≡ j = omega arith in
      let more : n - j ≡ suc (n - suc j) = omega arith in
      rw (back, more)

  pub each_none : (n : ℕ) → each n (n - n) f ≡ []
  unfolding each
  each_none n = let none : n - n ≡ 0 = omega arith in rw none

-- a store at the last place of a front part
pub set_front : {A : Type 0} (xs ys : List A) (i : ℕ) (v : A) → i < length xs → set (take (suc i) xs ++ ys) i v ≡ take i xs ++ (v ∷ ys)
set_front [] ys i v p = absurd (not-suc-le-zero p)
set_front (x ∷ xs) ys zero v p = refl
set_front {A} (x ∷ xs) ys (suc i) v p = ap (λ (l : List A). x ∷ l) (set_front xs ys i v (le_of_suc-le-suc p))

-- the same at every place
pub each_same : {A : Type 0} (f g : ℕ → A) (i n : ℕ) → ((k : ℕ) → k < i + n → f k ≡ g k) → each i n f ≡ each i n g
unfolding each
each_same f g i zero h = refl
each_same {A} f g i (suc n) h = (λ j. h i (omega arith) j ∷ each (suc i) n f) ∙ ap (λ (l : List A). g i ∷ l) (each_same f g (suc i) n (λ k p. h k (omega arith)))

-- a test of the entry at each place is that of every entry
all_from : {A : Type 0} (test : A → Bool) (xs : List A) (d : A) (i n : ℕ) → i + n ≡ length xs → all (each i n (λ k. test (get_or xs k d))) ≡ every test (drop i xs)
unfolding each every
all_from test xs d i zero e = rw (drop_of_length-le xs {i = i} (omega arith))
all_from test xs d i (suc n) e = rw (drop-cons xs i d (omega arith), all_from test xs d (suc i) n (omega arith))

pub all-places : {A : Type 0} (test : A → Bool) (xs : List A) (d : A) (n : ℕ) → n ≡ length xs → all (each 0 n (λ k. test (get_or xs k d))) ≡ every test xs
all-places test xs d n e = all_from test xs d 0 n (omega arith)
