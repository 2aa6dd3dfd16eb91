-- A list filled from the front, with one default behind: one entry more.
-- Assumes nothing.
use Prim.Native.Nat.{ℕ, zero, suc, ◌+◌, ◌-◌, ◌<◌}
use native.Mathlib.Nat.{not-suc-le-zero, le_of_suc-le-suc}
use native.Mathlib.Numerals.{add-one}
use native.Mathlib.Omega.{arith}
use mathlib.Core.Path.{◌≡◌, sym, ◌∙◌}
use mathlib.Core.List.{List, [], ◌∷◌, ◌++◌, map}
use lib.ListN.{length, get_or, take, set, replicate, length-map, get_or-map}
use lib.Seq.{take_all}

module _ {A : Type 0} (d : A) where
  abbrev pub filled : ℕ → List A → ℕ → List A
  filled n xs i = take i xs ++ replicate (n - i) d

  fill-next : (n : ℕ) (xs : List A) (i : ℕ) → i < length xs → i < n → set (filled n xs i) i (get_or xs i d) ≡ filled n xs (suc i)
  fill-next n [] i p q = absurd (not-suc-le-zero p)
  fill-next zero (x ∷ xs) i p q = absurd (not-suc-le-zero q)
  fill-next (suc m) (x ∷ xs) zero p q =
      let all : suc m - 0 ≡ suc m = omega arith in
      let rest : suc m - 1 ≡ m = omega arith in
      rw (all, rest)
  fill-next (suc m) (x ∷ xs) (suc i) p q =
      let here : suc m - suc i ≡ m - i = omega arith in
      let next : suc m - suc (suc i) ≡ m - suc i = omega arith in
      rw (here, next, fill-next m xs i (le_of_suc-le-suc p) (le_of_suc-le-suc q))

  -- v is the next entry
  pub fill-turn : (n : ℕ) (xs : List A) (i : ℕ) (out : List A) (v : A) → out ≡ filled n xs i → v ≡ get_or xs i d → i < length xs → i < n → set out i v ≡ filled n xs (i + 1)
  fill-turn n xs i out v o e p q = rw (o, e, add-one i) (fill-next n xs i p q)

  pub fill_none : (n : ℕ) (xs : List A) → replicate n d ≡ filled n xs 0
  fill_none n xs = let all : n - 0 ≡ n = omega arith in rw all

  -- every entry is there
  pub fill-all : (n : ℕ) (xs : List A) (i : ℕ) → i ≡ length xs → filled n xs i ≡ xs ++ replicate (n - length xs) d
  fill-all n xs i e = rw (e, take_all (length xs) xs (omega arith))

-- the same of a list that a function makes of another
pub fill-map : {A B : Type 0} (f : B → A) (e : B) (n : ℕ) (ys : List B) (i : ℕ) (out : List A) (v : A) → out ≡ filled (f e) n (map f ys) i → v ≡ f (get_or ys i e)
    → i < length ys → i < n → set out i v ≡ filled (f e) n (map f ys) (i + 1)
fill-map f e n ys i out v o r p q = fill-turn (f e) n (map f ys) i out v o (r ∙ sym (get_or-map f ys i e)) (rw (length-map ys f) p) q
