-- Shuffles by places, by taking out and by swaps of neighbours are the same.
-- Assumes nothing.
use Prim.Native.Nat.{ℕ, zero, suc, ◌<◌}
use native.Mathlib.Omega.{arith}
use mathlib.Core.Path.{◌≡◌, refl, sym, ap, ap₂, ◌∙◌, subst}
use mathlib.Core.Logic.{◌↔◌}
use mathlib.Core.Bool.{Bool, true, false, true≢false}
use mathlib.Core.List.{List, [], ◌∷◌, ◌++◌, map}
use lib.Dec.{ltb, eqb, leb-suc-suc, eqb-zero-suc, eqb-suc-zero, eqb-suc-suc}
use lib.ListN.{length, get_or}
use borrow.Author.Tests.{ltb-true, lt-ltb, le-ltb}
use Rattle.lists.specs.Marks.{bit}
use Rattle.demands.specs.Shuffle.{picked, times, turn, Shuffle, Shuffled, Free, TakenOut, Swaps, as-it-is, swap}
use Rattle.demands.proofs.Places.{same_place, renamed-times, renamed-turn, renamed-picked, taken_out}

-- ---- taken out, then by swaps

module _ {A : Type 0} (tied : A → A → Bool) where
  then : (xs ys zs : List A) → Swaps tied xs ys → Swaps tied ys zs → Swaps tied xs zs
  then xs ys zs as-it-is v = v
  then xs ys zs (swap before a b after f u) v = swap before a b after f (then (before ++ (b ∷ a ∷ after)) ys zs u v)

  behind : (x : A) (xs ys : List A) → Swaps tied xs ys → Swaps tied (x ∷ xs) (x ∷ ys)
  behind x xs ys as-it-is = as-it-is
  behind x xs ys (swap before a b after f u) = swap (x ∷ before) a b after f (behind x (before ++ (b ∷ a ∷ after)) ys u)

  to_front : (a : A) (before after : List A) → Free tied a before → Swaps tied (before ++ (a ∷ after)) (a ∷ (before ++ after))
  to_front a [] after f = as-it-is
  to_front a (b ∷ before) after f =
      then (b ∷ (before ++ (a ∷ after))) (b ∷ a ∷ (before ++ after)) (a ∷ b ∷ (before ++ after))
      (behind b (before ++ (a ∷ after)) (a ∷ (before ++ after)) (to_front a before after f.1))
      (swap [] b a (before ++ after) f.0 as-it-is)

  swapped : (xs ys : List A) → TakenOut tied xs ys → Swaps tied xs ys
  swapped xs [] w = subst (λ (l : List A). Swaps tied xs l) w as-it-is
  swapped xs (a ∷ ys) (before, after, e, f, w) =
      subst (λ (l : List A). Swaps tied l (a ∷ ys)) (sym e)
      (then (before ++ (a ∷ after)) (a ∷ (before ++ after)) (a ∷ ys) (to_front a before after f) (behind a (before ++ after) ys (swapped (before ++ after) ys w)))

  pub swaps : (none : A) (xs : List A) (order : List ℕ) → Shuffle tied none xs order → Swaps tied xs (picked none order xs)
  swaps none xs order w = swapped xs (picked none order xs) (taken_out tied none xs order w)

-- ---- and back: two neighbours change places

-- where place i of a list is once the entry at k and the one behind it have changed places
abbrev crossed : ℕ → ℕ → ℕ
crossed zero zero = 1
crossed zero (suc zero) = 0
crossed zero (suc (suc i)) = suc (suc i)
crossed (suc k) zero = zero
crossed (suc k) (suc i) = suc (crossed k i)

crossed-back : (k i : ℕ) → crossed k (crossed k i) ≡ i
crossed-back zero zero = refl
crossed-back zero (suc zero) = refl
crossed-back zero (suc (suc i)) = refl
crossed-back (suc k) zero = refl
crossed-back (suc k) (suc i) = ap suc (crossed-back k i)

-- any two but these two keep their turn
crossed-later : (k p q : ℕ) → p < q → (p ≡ k → q ≡ suc k → ⊥) → crossed k p < crossed k q
crossed-later zero zero zero h n = omega arith
crossed-later zero zero (suc zero) h n = absurd (n refl refl)
crossed-later zero zero (suc (suc q)) h n = omega arith
crossed-later zero (suc p) zero h n = omega arith
crossed-later zero (suc zero) (suc zero) h n = omega arith
crossed-later zero (suc (suc p)) (suc zero) h n = omega arith
crossed-later zero (suc zero) (suc (suc q)) h n = omega arith
crossed-later zero (suc (suc p)) (suc (suc q)) h n = h
crossed-later (suc k) zero zero h n = omega arith
crossed-later (suc k) zero (suc q) h n = omega arith
crossed-later (suc k) (suc p) zero h n = omega arith
crossed-later (suc k) (suc p) (suc q) h n =
    let later = crossed-later k p q (omega arith) (λ a b. n (ap suc a) (ap suc b)) in omega arith

both-inside : (i j n m : ℕ) → i < n → j < m → ltb i n ≡ ltb j m
both-inside i j n m p q = lt-ltb i n p ∙ sym (lt-ltb j m q)

module _ {A : Type 0} (none a b : A) (after : List A) where
  abbrev stood : List A → List A
  stood before = before ++ (a ∷ b ∷ after)

  abbrev stands : List A → List A
  stands before = before ++ (b ∷ a ∷ after)

  crossed-at : (before : List A) (i : ℕ) → get_or (stood before) i none ≡ get_or (stands before) (crossed (length before) i) none
  crossed-at [] zero = refl
  crossed-at [] (suc zero) = refl
  crossed-at [] (suc (suc i)) = refl
  crossed-at (x ∷ before) zero = refl
  crossed-at (x ∷ before) (suc i) = crossed-at before i

  crossed-inside : (before : List A) (i : ℕ) → ltb (crossed (length before) i) (length (stands before)) ≡ ltb i (length (stood before))
  crossed-inside [] zero = both-inside 1 0 (length (stands [])) (length (stood [])) (omega arith) (omega arith)
  crossed-inside [] (suc zero) = both-inside 0 1 (length (stands [])) (length (stood [])) (omega arith) (omega arith)
  crossed-inside [] (suc (suc i)) = refl
  crossed-inside (x ∷ before) zero = both-inside 0 0 (length (stands (x ∷ before))) (length (stood (x ∷ before))) (omega arith) (omega arith)
  crossed-inside (x ∷ before) (suc i) =
      leb-suc-suc (suc (crossed (length before) i)) (length (stands before)) ∙ crossed-inside before i ∙ sym (leb-suc-suc (suc i) (length (stood before)))

  module _ (tied : A → A → Bool) where
    the-two : (before : List A) → tied (get_or (stood before) (length before) none) (get_or (stood before) (suc (length before)) none) ≡ tied a b
    the-two [] = refl
    the-two (x ∷ before) = the-two before

    -- a shuffle of the list after a swap is one of the list before it
    swapped-before : (before : List A) (order : List ℕ) → tied a b ≡ false → Shuffle tied none (stands before) order
        → Shuffle tied none (stood before) (map (crossed (length before)) order)
    swapped-before before order f w =
        record {
          once = λ p. renamed-times c p (c p) order (λ q m. called p q) ∙ w.once (c p) ∙ ap bit (crossed-inside before p);
          stays = λ p q h k t.
              let later = w.stays (c p) (c q) (crossed-later (length before) p q h (not-these p q t)) (in_both q k) (ap₂ tied (sym (crossed-at before p)) (sym (crossed-at before q)) ∙ t) in
              let was-p = renamed-turn c p (c p) order (λ r m. called p r) in
              let was-q = renamed-turn c q (c q) order (λ r m. called q r) in
              omega arith;
        }
      where
        c : ℕ → ℕ
        c = crossed (length before)

        called : (i q : ℕ) → eqb i (c q) ≡ eqb (c i) q
        called i q = same_place c c (crossed-back (length before)) i q (crossed-back (length before) q)

        in_both : (q : ℕ) → q < length (stood before) → c q < length (stands before)
        in_both q k = ltb-true (c q) (length (stands before)) (crossed-inside before q ∙ lt-ltb q (length (stood before)) k)

        not-these : (p q : ℕ) → tied (get_or (stood before) p none) (get_or (stood before) q none) ≡ true → p ≡ length before → q ≡ suc (length before) → ⊥
        not-these p q t at_a at_b =
            true≢false (sym t ∙ ap₂ (λ (i j : ℕ). tied (get_or (stood before) i none) (get_or (stood before) j none)) at_a at_b ∙ the-two before ∙ f)

-- ---- a list as it is, by places

abbrev in_turn : {A : Type 0} → List A → List ℕ
in_turn [] = []
in_turn (x ∷ xs) = 0 ∷ map suc (in_turn xs)

-- no later place is the first
first-once : (order : List ℕ) → times 0 (map suc order) ≡ 0
first-once [] = refl
first-once (q ∷ order) = rw (eqb-zero-suc q) (let rest = first-once order in omega arith)

module _ {A : Type 0} (tied : A → A → Bool) (none : A) where
  -- one more entry in front, which stays there
  one_more : (x : A) (xs : List A) (order : List ℕ) → Shuffle tied none xs order → Shuffle tied none (x ∷ xs) (0 ∷ map suc order)
  one_more x xs order w = record { once = named-once; stays = kept }
    where
      named-once : (p : ℕ) → times p (0 ∷ map suc order) ≡ bit (ltb p (suc (length xs)))
      named-once zero =
          let None-more = first-once order in
          let here = ap bit (lt-ltb 0 (suc (length xs)) (omega arith)) in
          omega arith
      named-once (suc p) =
          let same = renamed-times suc (suc p) p order (λ q m. eqb-suc-suc p q) in
          let once = w.once p in
          let inside = ap bit (leb-suc-suc (suc p) (length xs)) in
          rw (eqb-suc-zero p) (omega arith)

      kept : (p q : ℕ) → p < q → q < suc (length xs) → tied (get_or (x ∷ xs) p none) (get_or (x ∷ xs) q none) ≡ true → turn p (0 ∷ map suc order) < turn q (0 ∷ map suc order)
      kept p zero h k t = absurd (omega arith)
      kept zero (suc q) h k t = rw (eqb-suc-zero q) (omega arith)
      kept (suc p) (suc q) h k t =
          let later = w.stays p q (omega arith) (omega arith) t in
          let was-p = renamed-turn suc (suc p) p order (λ r m. eqb-suc-suc p r) in
          let was-q = renamed-turn suc (suc q) q order (λ r m. eqb-suc-suc q r) in
          rw (eqb-suc-zero p, eqb-suc-zero q) (omega arith)

  in-turn : (xs : List A) → Shuffle tied none xs (in_turn xs)
  in-turn [] = record { once = λ p. ap bit (sym (le-ltb p 0 (omega arith))); stays = λ p q h k t. absurd (omega arith) }
  in-turn (x ∷ xs) = one_more x xs (in_turn xs) (in-turn xs)

  picked-in-turn : (xs : List A) → picked none (in_turn xs) xs ≡ xs
  picked-in-turn [] = refl
  picked-in-turn (x ∷ xs) = ap (λ (l : List A). x ∷ l) (renamed-picked suc none xs (x ∷ xs) (in_turn xs) (λ q m. refl) ∙ picked-in-turn xs)

  -- ---- the three are the same

  by-places : (xs ys : List A) → Swaps tied xs ys → Shuffled tied none xs ys
  by-places xs ys as-it-is = (in_turn xs, in-turn xs, picked-in-turn xs)
  by-places xs ys (swap before a b after f u) =
      let then = by-places (before ++ (b ∷ a ∷ after)) ys u in
      let order = then.0 in
      let c = crossed (length before) in (
        map c order,
        swapped-before none a b after tied before order f then.1,
        renamed-picked c none (before ++ (b ∷ a ∷ after)) (before ++ (a ∷ b ∷ after)) order
            (λ q m. crossed-at none a b after before (c q) ∙ ap (λ (i : ℕ). get_or (before ++ (b ∷ a ∷ after)) i none) (crossed-back (length before) q)) ∙ then.2,
      )

  pub same-as-swaps : (xs ys : List A) → Shuffled tied none xs ys ↔ Swaps tied xs ys
  same-as-swaps xs ys = (λ (order, w, is). subst (λ (l : List A). Swaps tied xs l) is (swaps tied none xs order w), by-places xs ys)

  pub same-as-taken-out : (xs ys : List A) → Shuffled tied none xs ys ↔ TakenOut tied xs ys
  same-as-taken-out xs ys = (λ (order, w, is). subst (λ (l : List A). TakenOut tied xs l) is (taken_out tied none xs order w), λ w. by-places xs ys (swapped tied xs ys w))
