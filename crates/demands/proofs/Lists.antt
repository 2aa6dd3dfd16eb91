-- Lists by places: two rules that agree, one value throughout, what stands behind, and tests that hold at each place or at some.
-- Assumes nothing.
use Prim.Native.Nat.{ℕ, zero, suc, ◌+◌, ◌<◌, ◌≤◌}
use native.Mathlib.Nat.{not-suc-le-zero, le_of_suc-le-suc}
use native.Mathlib.Omega.{arith}
use mathlib.Core.Path.{◌≡◌, refl, sym, ap, ap₂, ◌∙◌}
use mathlib.Core.Bool.{Bool, true, true≢false}
use mathlib.Core.List.{List, ◌∷◌, ◌++◌}
use lib.ListN.{length, get_or, drop, replicate, get_or-append}
use Rattle.lists.proofs.Split.{split, both}
use Rattle.lists.specs.Each.{each, some, all}
use Rattle.lists.proofs.Each.{each-length, each-place}

-- two rules that agree at every place
each_from : {A : Type 0} (i n : ℕ) (f g : ℕ → A) → ((k : ℕ) → k < i + n → f k ≡ g k) → each i n f ≡ each i n g
unfolding each
each_from i zero f g e = refl
each_from i (suc n) f g e = ap₂ (λ x l. x ∷ l) (e i (omega arith)) (each_from (suc i) n f g (λ k p. e k (omega arith)))

pub each_same : {A : Type 0} (n : ℕ) (f g : ℕ → A) → ((k : ℕ) → k < n → f k ≡ g k) → each 0 n f ≡ each 0 n g
each_same n f g e = each_from 0 n f g (λ k p. e k (omega arith))

-- what is appended is what stands behind
pub each-behind : {A : Type 0} (i n : ℕ) (f : ℕ → A) (behind : List A) → drop n (each i n f ++ behind) ≡ behind
unfolding each
each-behind i zero f behind = refl
each-behind i (suc n) f behind = each-behind (suc i) n f behind

pub each-before : {A : Type 0} (n : ℕ) (f : ℕ → A) (behind : List A) (k : ℕ) (d : A) → k < n → get_or (each 0 n f ++ behind) k d ≡ f k
each-before n f behind k d p =
    let long : k < length (each 0 n f) = rw (each-length f 0 n) p in
    get_or-append (each 0 n f) behind d k long ∙ each-place f n k d p

-- one value at each of n places, with the rest of m behind
pub each-one : {A : Type 0} (i n m : ℕ) (v : A) → n ≤ m → each i n (λ k. v) ++ drop n (replicate m v) ≡ replicate m v
unfolding each
each-one i zero m v p = refl
each-one i (suc n) zero v p = absurd (not-suc-le-zero p)
each-one {A} i (suc n) (suc m) v p = ap (λ (l : List A). v ∷ l) (each-one (suc i) n m v (le_of_suc-le-suc p))

-- a test that holds at each of n places
all_from : (i n : ℕ) (f : ℕ → Bool) → all (each i n f) ≡ true → (k : ℕ) → k < n → f (i + k) ≡ true
unfolding each
all_from i zero f e k p = absurd (not-suc-le-zero p)
all_from i (suc n) f e zero p = ap f (omega arith) ∙ (both (f i) (all (each (suc i) n f)) e).0
all_from i (suc n) f e (suc k) p = ap f (omega arith) ∙ all_from (suc i) n f (both (f i) (all (each (suc i) n f)) e).1 k (le_of_suc-le-suc p)

pub all-at : (n : ℕ) (f : ℕ → Bool) → all (each 0 n f) ≡ true → (k : ℕ) → k < n → f k ≡ true
all-at n f e k p = ap f (omega arith) ∙ all_from 0 n f e k p

all-on : (i n : ℕ) (f : ℕ → Bool) → ((k : ℕ) → k < i + n → f k ≡ true) → all (each i n f) ≡ true
unfolding each
all-on i zero f h = refl
all-on i (suc n) f h = rw (h i (omega arith)) (all-on (suc i) n f (λ k p. h k (omega arith)))

pub all_yes : (n : ℕ) (f : ℕ → Bool) → ((k : ℕ) → k < n → f k ≡ true) → all (each 0 n f) ≡ true
all_yes n f h = all-on 0 n f (λ k p. h k (omega arith))

-- and one that holds at some
some-from : (i n : ℕ) (f : ℕ → Bool) → some (each i n f) ≡ true → (k : ℕ) × (k < i + n) × (f k ≡ true)
unfolding each
some-from i zero f e = absurd (true≢false (sym e))
some-from i (suc n) f e =
    split (f i)
    (λ h. (i, omega arith, h))
    (λ h. let later = some-from (suc i) n f (rw h at e) in (later.0, omega (arith, later.1), later.2))

pub some_at : (n : ℕ) (f : ℕ → Bool) → some (each 0 n f) ≡ true → (k : ℕ) × (k < n) × (f k ≡ true)
some_at n f e = let there = some-from 0 n f e in (there.0, omega (arith, there.1), there.2)

some-on : (i n : ℕ) (f : ℕ → Bool) (k : ℕ) → k < n → f (i + k) ≡ true → some (each i n f) ≡ true
unfolding each
some-on i zero f k p h = absurd (not-suc-le-zero p)
some-on i (suc n) f zero p h = let here : f i ≡ true = ap f (omega arith) ∙ h in rw here
some-on i (suc n) f (suc k) p h =
    split (f i) (λ e. rw e) (λ e. rw e (some-on (suc i) n f k (le_of_suc-le-suc p) (ap f (omega arith) ∙ h)))

pub some-yes : (n : ℕ) (f : ℕ → Bool) (k : ℕ) → k < n → f k ≡ true → some (each 0 n f) ≡ true
some-yes n f k p h = some-on 0 n f k p (ap f (omega arith) ∙ h)

-- no cell at all is 0
