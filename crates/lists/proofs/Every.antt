-- A loop that tests every entry of a list from the front; what the whole test says of one entry; and the library's tests of a list.
-- Assumes nothing.
use Prim.Native.Nat.{ℕ, zero, suc, ◌+◌, ◌<◌, ◌≤◌}
use native.Mathlib.Nat.{not-suc-le-zero, le_of_suc-le-suc}
use native.Mathlib.Numerals.{add-one}
use mathlib.Core.Path.{◌≡◌, refl, sym, ◌∙◌}
use mathlib.Core.Bool.{Bool, true, false, not, ◌&&◌, ◌||◌, and_assoc, and-true}
use mathlib.Core.List.{List, [], ◌∷◌}
use lib.ListN.{length, get_or, drop, drop_of_length-le}
use lib.Seq.{drop-cons}
use Rattle.std.specs.List.{list_all, list_any}
use Rattle.lists.proofs.Split.{both}
use Rattle.lists.specs.Every.{every}

module _ {A : Type 0} (passes : A → Bool) where
  -- the entries before i passed, or not; one more
  pub every-turn : (xs : List A) (i : ℕ) (d : A) (sofar : Bool) → every passes xs ≡ (sofar && every passes (drop i xs)) → i < length xs
      → every passes xs ≡ ((sofar && passes (get_or xs i d)) && every passes (drop (i + 1) xs))
  unfolding every
  every-turn xs i d sofar e h = e ∙ rw (drop-cons xs i d h, add-one i, and_assoc)

  pub every-done : (xs : List A) (i : ℕ) (sofar : Bool) → every passes xs ≡ (sofar && every passes (drop i xs)) → length xs ≤ i → sofar ≡ every passes xs
  unfolding every
  every-done xs i sofar e h = sym (e ∙ rw (drop_of_length-le xs h, and-true))

  pub every-at : (xs : List A) (i : ℕ) (d : A) → every passes xs ≡ true → i < length xs → passes (get_or xs i d) ≡ true
  unfolding every
  every-at [] i d e p = absurd (not-suc-le-zero p)
  every-at (x ∷ xs) zero d e p = (both (passes x) (every passes xs) e).0
  every-at (x ∷ xs) (suc i) d e p = every-at xs i d (both (passes x) (every passes xs) e).1 (le_of_suc-le-suc p)

-- a test of every entry is the library's; and one that some entry passes
pub every-all : {A : Type 0} (passes : A → Bool) (xs : List A) → list_all passes xs ≡ every passes xs
unfolding every
every-all passes [] = refl
every-all passes (x ∷ xs) = rw (every-all passes xs)

pub every-any : {A : Type 0} (hits : A → Bool) (xs : List A) → list_any hits xs ≡ not (every (λ x. not (hits x)) xs)
unfolding every
every-any hits [] = refl
every-any hits (x ∷ xs) = rw (every-any hits xs) (by (hits x))
  where
    by : (b : Bool) → (b || not (every (λ y. not (hits y)) xs)) ≡ not (not b && every (λ y. not (hits y)) xs)
    by true = refl
    by false = refl
