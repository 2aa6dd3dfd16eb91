-- Decimal numbers: their digits.
-- Assumes nothing.
use Prim.Native.Nat.{ℕ, zero, suc, ◌+◌, ◌/◌, ◌%◌, ◌*◌, ◌<◌, ◌≤◌}
use native.Mathlib.Omega.{arith}
use native.Mathlib.Numerals.{add-one}
use mathlib.Core.Path.{◌≡◌, refl, ap, ◌∙◌}
use mathlib.Core.Bool.{Bool, true, false}
use mathlib.Core.List.{List, [], ◌∷◌, ◌++◌, append_assoc, append-nil}
use lib.Dec.{leb}
use lib.ListN.{length, length-append, take, get_or}
use borrow.Author.Tests.{leb-false, le-leb, lt-leb}
use borrow.Table.Steps.{cases}
use mir.Val.{bool_byte}
use Rattle.lists.specs.Marks.{bit}
use Rattle.text.specs.Text.{digit, place_of, decimal}

-- a place takes one digit at most, so five are enough
place-long : (place n : ℕ) → length (place_of place n) ≤ 1
unfolding place_of
place-long place n = cases (leb place n) (λ e. rw e (omega arith)) (λ e. rw e (omega arith))

pub decimal-five : (n : ℕ) → length (decimal n) ≤ 5
unfolding decimal
decimal-five n = simp length-append (omega (arith, place-long 10000 n, place-long 1000 n, place-long 100 n, place-long 10 n))

-- the digits in some places, and one place more
unfoldable pub reached : ℕ → List ℕ → List ℕ
reached n [] = []
reached n (place ∷ places) = place_of place n ++ reached n places

pub reached-more : (n i : ℕ) (places : List ℕ) → i < length places → reached n (take (i + 1) places) ≡ reached n (take i places) ++ place_of (get_or places i 0) n
unfolding reached
reached-more n i [] h = absurd (omega arith)
reached-more n zero (place ∷ places) h = append-nil (place_of place n)
reached-more n (suc i) (place ∷ places) h =
    let more : reached n (take (suc i) places) ≡ reached n (take i places) ++ place_of (get_or places i 0) n = rw (add-one i) at (reached-more n i places (omega arith)) in
    rw (add-one (suc i), more, append_assoc)

pub place-there : (place n : ℕ) → place ≤ n → place_of place n ≡ digit (n / place % 10) ∷ []
unfolding place_of
place-there place n h = rw (le-leb place n h)

pub place_none : (place n : ℕ) → n < place → place_of place n ≡ []
unfolding place_of
place_none place n h = rw (lt-leb place n h)

-- the places of a number's digits but the last
abbrev pub all_places : List ℕ
all_places = 10000 ∷ 1000 ∷ 100 ∷ 10 ∷ []

pub reached-all : (n : ℕ) → reached n all_places ++ (digit (n % 10) ∷ []) ≡ decimal n
unfolding reached decimal
reached-all n = simp append_assoc

-- a flag is one digit
pub flag-digit : (b : Bool) → decimal (bit b) ≡ digit (bool_byte b) ∷ []
unfolding decimal place_of
flag-digit true = refl
flag-digit false = refl

-- whatever takes the digits of a number one by one into the number, as reading does, comes to the number
module _ {A : Type 0} (f : ℕ → List ℕ → A) (step : (v d : ℕ) (s : List ℕ) → d < 10 → f v (digit d ∷ s) ≡ f (v * 10 + d) s) where
  -- from what is in front of a place to what is in front of the next
  place-fold : (place n v w : ℕ) (s : List ℕ) → v * 10 + n / place % 10 ≡ w → (n < place → v ≡ w) → f v (place_of place n ++ s) ≡ f w s
  unfolding place_of
  place-fold place n v w s sum same =
      cases (leb place n)
      (λ e. rw e (step v (n / place % 10) s (omega arith) ∙ ap (λ (x : ℕ). f x s) sum))
      (λ e. rw e (ap (λ (x : ℕ). f x s) (same (leb-false place n e))))

  pub decimal-fold : (n : ℕ) (s : List ℕ) → n < 65536 → f 0 (decimal n ++ s) ≡ f n s
  unfolding decimal
  decimal-fold n s h =
      let last = digit (n % 10) ∷ s in
      rw (append_assoc, append_assoc, append_assoc, append_assoc)
      (place-fold 10000 n 0 (n / 10000) _ (omega arith) (λ l. omega arith) ∙ place-fold 1000 n (n / 10000) (n / 1000) _ (omega arith) (λ l. omega arith)
      ∙ place-fold 100 n (n / 1000) (n / 100) _ (omega arith) (λ l. omega arith) ∙ place-fold 10 n (n / 100) (n / 10) last (omega arith) (λ l. omega arith)
      ∙ step (n / 10) (n % 10) s (omega arith) ∙ ap (λ (x : ℕ). f x s) (omega arith))
