-- A shuffle by places is one by taking out, and a list of images is shuffled as its list is.
-- Assumes nothing.
use Prim.Native.Nat.{ℕ, zero, suc, ◌+◌, ◌<◌}
use native.Mathlib.Nat.{not-suc-le-zero, le_of_suc-le-suc}
use native.Mathlib.Omega.{arith}
use mathlib.Core.Path.{◌≡◌, refl, sym, ap, ap₂, ◌∙◌, subst}
use mathlib.Core.Bool.{Bool, true, false, cond}
use mathlib.Core.List.{List, [], ◌∷◌, ◌++◌, map}
use lib.Dec.{ltb, eqb, leb-suc-suc}
use lib.ListN.{length, get_or, take, drop, length-map, get_or-map}
use lib.Seq.{split_at}
use borrow.Author.Tests.{ltb-true, lt-ltb, eqb-true, eqb-false, eq-eqb, ne_eqb}
use Rattle.lists.proofs.Split.{split}
use Rattle.lists.specs.Marks.{bit}
use Rattle.demands.specs.Shuffle.{picked, times, turn, Shuffle, Free, TakenOut}

-- ---- an order whose places are called otherwise

module _ (f : ℕ → ℕ) where
  -- where `g` takes a name back
  pub same_place : (g : ℕ → ℕ) → ((i : ℕ) → f (g i) ≡ i) → (i q : ℕ) → g (f q) ≡ q → eqb i (f q) ≡ eqb (g i) q
  same_place g there i q back =
      split (eqb (g i) q)
      (λ e. eq-eqb i (f q) (sym (there i) ∙ ap f (eqb-true (g i) q e)) ∙ sym e)
      (λ e. ne_eqb i (f q) (λ z. eqb-false (g i) q e (ap g z ∙ back)) ∙ sym e)

  named : (q : ℕ) (order : List ℕ) → 0 < times q (q ∷ order)
  named q order = rw (eq-eqb q q refl) (omega arith)

  -- place i is named as often as place j was, and as early, where of the named ones just j is called i now
  pub renamed-times : (i j : ℕ) (order : List ℕ) → ((q : ℕ) → 0 < times q order → eqb i (f q) ≡ eqb j q) → times i (map f order) ≡ times j order
  renamed-times i j [] called = refl
  renamed-times i j (q ∷ order) called =
      ap₂ (λ (t : Bool) (k : ℕ). bit t + k) (called q (named q order)) (renamed-times i j order (λ r m. called r (omega arith)))

  pub renamed-turn : (i j : ℕ) (order : List ℕ) → ((q : ℕ) → 0 < times q order → eqb i (f q) ≡ eqb j q) → turn i (map f order) ≡ turn j order
  renamed-turn i j [] called = refl
  renamed-turn i j (q ∷ order) called =
      ap₂ (λ (t : Bool) (k : ℕ). cond t 0 (suc k)) (called q (named q order)) (renamed-turn i j order (λ r m. called r (omega arith)))

  -- the entries of another list, if each stands where the new name says
  pub renamed-picked : {A : Type 0} (none : A) (xs ys : List A) (order : List ℕ) → ((q : ℕ) → 0 < times q order → get_or ys (f q) none ≡ get_or xs q none)
      → picked none (map f order) ys ≡ picked none order xs
  renamed-picked none xs ys [] stands = refl
  renamed-picked {A} none xs ys (q ∷ order) stands =
      ap₂ (λ (x : A) (l : List A). x ∷ l) (stands q (named q order)) (renamed-picked none xs ys order (λ r m. stands r (omega arith)))

-- ---- a list without the entry at a place: where another place is in it, and where it was

abbrev without : {A : Type 0} → ℕ → List A → List A
without p xs = take p xs ++ drop (suc p) xs

abbrev down : ℕ → ℕ → ℕ
down zero zero = zero
down zero (suc i) = i
down (suc p) zero = zero
down (suc p) (suc i) = suc (down p i)

abbrev up : ℕ → ℕ → ℕ
up zero i = suc i
up (suc p) zero = zero
up (suc p) (suc i) = suc (up p i)

down-up : (p i : ℕ) → down p (up p i) ≡ i
down-up zero i = refl
down-up (suc p) zero = refl
down-up (suc p) (suc i) = ap suc (down-up p i)

up-down : (p i : ℕ) → (i ≡ p → ⊥) → up p (down p i) ≡ i
up-down zero zero n = absurd (n refl)
up-down zero (suc i) n = refl
up-down (suc p) zero n = refl
up-down (suc p) (suc i) n = ap suc (up-down p i (λ e. n (ap suc e)))

up-other : (p i : ℕ) → up p i ≡ p → ⊥
up-other zero i e = omega arith
up-other (suc p) zero e = omega arith
up-other (suc p) (suc i) e = up-other p i (omega arith)

up-later : (p i j : ℕ) → i < j → up p i < up p j
up-later zero i j h = omega arith
up-later (suc p) zero zero h = omega arith
up-later (suc p) zero (suc j) h = omega arith
up-later (suc p) (suc i) zero h = omega arith
up-later (suc p) (suc i) (suc j) h = let later = up-later p i j (omega arith) in omega arith

module _ {A : Type 0} (none : A) where
  without_at : (xs : List A) (p i : ℕ) → get_or (without p xs) i none ≡ get_or xs (up p i) none
  without_at [] zero i = refl
  without_at [] (suc p) zero = refl
  without_at [] (suc p) (suc i) = refl
  without_at (x ∷ xs) zero i = refl
  without_at (x ∷ xs) (suc p) zero = refl
  without_at (x ∷ xs) (suc p) (suc i) = without_at xs p i

  -- a place is inside what is left exactly if it was inside the whole
  without-inside : (xs : List A) (p i : ℕ) → p < length xs → ltb (up p i) (length xs) ≡ ltb i (length (without p xs))
  without-inside [] p i h = absurd (not-suc-le-zero h)
  without-inside (x ∷ xs) zero i h = leb-suc-suc (suc i) (length xs)
  without-inside (x ∷ xs) (suc p) zero h = lt-ltb 0 (suc (length xs)) (omega arith) ∙ sym (lt-ltb 0 (suc (length (without p xs))) (omega arith))
  without-inside (x ∷ xs) (suc p) (suc i) h =
      leb-suc-suc (suc (up p i)) (length xs) ∙ without-inside xs p i (le_of_suc-le-suc h) ∙ sym (leb-suc-suc (suc i) (length (without p xs)))

-- ---- a list of images is shuffled as its list is

pub picked-map : {A B : Type 0} (f : A → B) (none : A) (order : List ℕ) (xs : List A) → map f (picked none order xs) ≡ picked (f none) order (map f xs)
picked-map f none [] xs = refl
picked-map {A} {B} f none (p ∷ order) xs = ap₂ (λ (x : B) (l : List B). x ∷ l) (sym (get_or-map f xs p none)) (picked-map f none order xs)

pub shuffle-map : {A B : Type 0} (f : A → B) (tied : B → B → Bool) (none : A) (xs : List A) (order : List ℕ)
    → Shuffle tied (f none) (map f xs) order → Shuffle (λ a b. tied (f a) (f b)) none xs order
shuffle-map f tied none xs order w =
    let long = length-map xs f in
    record {
      once = λ p. w.once p ∙ ap (λ (n : ℕ). bit (ltb p n)) long;
      stays = λ p q h k t. w.stays p q h (omega arith) (ap₂ tied (get_or-map f xs p none) (get_or-map f xs q none) ∙ t);
    }

-- ---- by places, then by taking out

module _ {A : Type 0} (tied : A → A → Bool) (none : A) where
  free-front : (a : A) (k : ℕ) (xs : List A) → ((i : ℕ) → i < k → tied (get_or xs i none) a ≡ false) → Free tied a (take k xs)
  free-front a zero xs f = tt
  free-front a (suc k) [] f = tt
  free-front a (suc k) (x ∷ xs) f = (f 0 (omega arith), free-front a k xs (λ i h. f (suc i) (omega arith)))

  module _ (xs : List A) (p : ℕ) (order : List ℕ) (w : Shuffle tied none xs (p ∷ order)) where
    names-first : times p (p ∷ order) ≡ suc (times p order)
    names-first = rw (eq-eqb p p refl) (omega arith)

    first-inside : ltb p (length xs) ≡ true
    first-inside = by (ltb p (length xs)) (w.once p)
      where
        by : (t : Bool) → times p (p ∷ order) ≡ bit t → t ≡ true
        by true e = refl
        by false e = let one = names-first in absurd (omega arith)

    here : p < length xs
    here = ltb-true p (length xs) first-inside

    not-again : times p order ≡ 0
    not-again = let one : times p (p ∷ order) ≡ 1 = w.once p ∙ ap bit first-inside in let first = names-first in omega arith

    -- the places that are left, each called as in the list without the first
    up-back : (q : ℕ) → 0 < times q order → up p (down p q) ≡ q
    up-back q m = up-down p q (λ e. let some : 0 < times p order = subst (λ (r : ℕ). 0 < times r order) e m in let None-more = not-again in omega arith)

    called : (i q : ℕ) → 0 < times q order → eqb i (down p q) ≡ eqb (up p i) q
    called i q m = same_place (down p) (up p) (down-up p) i q (up-back q m)

    rest-picked : picked none (map (down p) order) (without p xs) ≡ picked none order xs
    rest-picked =
        renamed-picked (down p) none xs (without p xs) order
        (λ q m. without_at none xs p (down p q) ∙ ap (λ (k : ℕ). get_or xs k none) (up-back q m))

    other : (i : ℕ) → eqb (up p i) p ≡ false
    other i = ne_eqb (up p i) p (up-other p i)

    first-free : Free tied (get_or xs p none) (take p xs)
    first-free = free-front (get_or xs p none) p xs passed
      where
        passed : (i : ℕ) → i < p → tied (get_or xs i none) (get_or xs p none) ≡ false
        passed i h =
            split (tied (get_or xs i none) (get_or xs p none))
            (λ e. let late : turn i (p ∷ order) < 0 = rw (eq-eqb p p refl) at (w.stays i p h here e) in absurd (omega arith))
            (λ e. e)

    others : Shuffle tied none (without p xs) (map (down p) order)
    others =
        record {
          once = λ i. renamed-times (down p) i (up p i) order (called i) ∙ once-left i ∙ ap bit (without-inside none xs p i here);
          stays = λ i j h k t. stays-left i j h k t;
        }
      where
        once-left : (i : ℕ) → times (up p i) order ≡ bit (ltb (up p i) (length xs))
        once-left i = let all_of = w.once (up p i) in let step : times (up p i) (p ∷ order) ≡ times (up p i) order = rw (other i) (omega arith) in sym step ∙ all_of

        stays-left : (i j : ℕ) → i < j → j < length (without p xs) → tied (get_or (without p xs) i none) (get_or (without p xs) j none) ≡ true
            → turn i (map (down p) order) < turn j (map (down p) order)
        stays-left i j h k t =
            let in_all : up p j < length xs = ltb-true (up p j) (length xs) (without-inside none xs p j here ∙ lt-ltb j (length (without p xs)) k) in
            let so : tied (get_or xs (up p i) none) (get_or xs (up p j) none) ≡ true = ap₂ tied (sym (without_at none xs p i)) (sym (without_at none xs p j)) ∙ t in
            let later : suc (turn (up p i) order) < suc (turn (up p j) order) = rw (other i, other j) at (w.stays (up p i) (up p j) (up-later p i j h) in_all so) in
            let a = renamed-turn (down p) i (up p i) order (called i) in
            let b = renamed-turn (down p) j (up p j) order (called j) in
            omega arith

  none_left : (xs : List A) → Shuffle tied none xs [] → xs ≡ []
  none_left [] w = refl
  none_left (x ∷ xs) w = let some : ◌≡◌ {A = ℕ} 0 1 = w.once 0 ∙ ap bit (lt-ltb 0 (suc (length xs)) (omega arith)) in absurd (omega arith)

  -- orders that name n places
  abbrev Outs : ℕ → Type 0
  Outs n = (xs : List A) (order : List ℕ) → length order ≡ n → Shuffle tied none xs order → TakenOut tied xs (picked none order xs)

  none_out : Outs 0
  none_out xs [] e w = none_left xs w
  none_out xs (p ∷ order) e w = absurd (omega arith)

  one_out : (n : ℕ) → Outs n → Outs (suc n)
  one_out n rest xs [] e w = absurd (omega arith)
  one_out n rest xs (p ∷ order) e w =
      let left = rest (without p xs) (map (down p) order) (length-map order (down p) ∙ omega arith) (others xs p order w) in (
        take p xs,
        drop (suc p) xs,
        split_at xs p none (here xs p order w),
        first-free xs p order w,
        subst (λ (l : List A). TakenOut tied (without p xs) l) (rest-picked xs p order w) left,
      )

  outs : (n : ℕ) → Outs n
  outs zero = none_out
  outs (suc n) = one_out n (outs n)

  pub taken_out : (xs : List A) (order : List ℕ) → Shuffle tied none xs order → TakenOut tied xs (picked none order xs)
  taken_out xs order = outs (length order) xs order refl
