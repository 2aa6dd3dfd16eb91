-- The reading of a number and of a field: a digit more, no further one, too much, a 0, a minus sign.
-- Assumes nothing.
use Prim.Native.Nat.{ℕ, suc, ◌+◌, ◌-◌, ◌*◌, ◌<◌, ◌≤◌}
use native.Mathlib.Omega.{arith}
use mathlib.Core.Path.{◌≡◌, refl, sym, ap, ◌∙◌}
use mathlib.Core.Bool.{Bool, true, false, true≢false, cond, and-true, and-false}
use mathlib.Core.List.{List, [], ◌∷◌}
use lib.Dec.{eqb, leb}
use lib.ListN.{length, get_or}
use borrow.Author.Tests.{eqb-true, eqb-false, ne_eqb, le-leb, lt-leb, leb-true}
use Rattle.lists.specs.Every.{every}
use Rattle.lists.proofs.Split.{split, both}
use Rattle.std.proofs.Common.{Some, None}
use Rattle.lines.specs.Line.{is_digit, worth, starts_well, is_number}
use Rattle.lines.specs.Way.{rest_at, digits, front, number, digits_from, number_at, field_at}
use Rattle.lines.proofs.Words.{rest-at, rest_end, rest-on}

-- digits more make no number smaller
pub worth-grows : (v : ℕ) (w : List ℕ) → v ≤ worth v w
unfolding worth
worth-grows v [] = omega arith
worth-grows v (b ∷ w) = omega (arith, worth-grows (v * 10 + (b - 48)) w)

-- a digit is worth 9 at most, and ends no word and no line
pub digit-range : (b : ℕ) → is_digit b ≡ true → (48 ≤ b) × (b ≤ 57)
digit-range b d = let parts = both (leb 48 b) (leb b 57) d in (leb-true 48 b parts.0, leb-true b 57 parts.1)

pub digit-on : {b : ℕ} → is_digit b ≡ true → b ≡ 10 → ⊥
digit-on {b} d e = omega (arith, digit-range b d)

-- digits are all digits, and a number's word is nothing else than them
digits-all : (t : List ℕ) → every is_digit (digits t) ≡ true
unfolding digits every
digits-all [] = refl
digits-all (b ∷ t) = split (is_digit b) (λ d. rw (d, d) (digits-all t)) (λ d. rw d)

front-nothing : front [] ≡ []
unfolding front
front-nothing = refl

-- at a byte that is none, there are none
module _ (s : List ℕ) (i : ℕ) {b : ℕ} (e : b ≡ get_or s i 10) (d : is_digit b ≡ false) where
  digits-here : digits (rest_at s i) ≡ []
  unfolding digits
  digits-here = rw (rest-at s i e) (split (eqb b 10) (λ t. rw t) (λ t. rw (t, d)))

  front-here : front (rest_at s i) ≡ []
  unfolding front digits
  front-here =
      let other : b ≡ 48 → ⊥ = λ z. true≢false (sym (ap is_digit z) ∙ d) in
      rw (rest-at s i e) (split (eqb b 10) (λ t. rw t) (λ t. rw (t, ne_eqb b 48 other, d)))

module _ (largest : ℕ) (m : Bool) where
  pub digits-over : (i v : ℕ) (t : List ℕ) → largest < v → digits_from largest m i v t ≡ None
  unfolding digits_from
  digits-over i v t h =
      let over : largest < worth v (digits t) = omega (arith, worth-grows v (digits t)) in
      rw (lt-leb (worth v (digits t)) largest over)

  -- a digit in front, and none
  digits_more : (i v b : ℕ) (t : List ℕ) → is_digit b ≡ true → digits_from largest m i v (b ∷ t) ≡ digits_from largest m (i + 1) (v * 10 + (b - 48)) t
  unfolding digits_from digits worth
  digits_more i v b t d =
      let one : i + suc (length (digits t)) ≡ i + 1 + length (digits t) = omega arith in
      rw (d, one)

  digits-none : (i v : ℕ) (t : List ℕ) → digits t ≡ [] → v ≤ largest → digits_from largest m i v t ≡ Some (number m v i)
  unfolding digits_from worth
  digits-none i v t e h = let here : i + 0 ≡ i = omega arith in rw (e, le-leb v largest h, here)

  -- the number of a first digit, which is not 0, so neither is the number
  number_digits : (at b : ℕ) (t : List ℕ) → is_digit b ≡ true → (b ≡ 48 → ⊥) → number_at largest m at (b ∷ t) ≡ digits_from largest m (at + 1) (b - 48) t
  unfolding number_at front digits is_number starts_well every worth digits_from
  number_digits at b t d p =
      let w = digits t in
      let one : at + suc (length w) ≡ at + 1 + length w = omega arith in
      let start : worth (0 * 10 + (b - 48)) w ≡ worth (b - 48) w = ap (λ (v : ℕ). worth v w) (omega arith) in
      let some : worth (b - 48) w ≡ 0 → ⊥ = λ z. p (omega (arith, worth-grows (b - 48) w, digit-range b d)) in
      rw (ne_eqb b 48 p, d, ne_eqb b 48 p, d, digits-all t, start, ne_eqb (worth (b - 48) w) 0 some, and-false m, and-true, one)

  number-wrong : (at : ℕ) (t : List ℕ) → front t ≡ [] → number_at largest m at t ≡ None
  unfolding number_at is_number starts_well
  number-wrong at t e = rw e

  number-zero : (at : ℕ) (t : List ℕ) → number_at largest m at (48 ∷ t) ≡ cond m None (Some (number false 0 (at + 1)))
  unfolding number_at front is_number starts_well every worth
  number-zero at t = rw (le-leb 0 largest (omega arith)) (split m (λ k. rw k) (λ k. rw k))

  -- at a place with the byte b
  module _ (s : List ℕ) (i : ℕ) {b : ℕ} (e : b ≡ get_or s i 10) where
    pub digits-turn : (v : ℕ) → is_digit b ≡ true → digits_from largest m i v (rest_at s i) ≡ digits_from largest m (i + 1) (v * 10 + (b - 48)) (rest_at s (i + 1))
    digits-turn v d = rw (rest-on s i e (digit-on d)) (digits_more i v b (rest_at s (i + 1)) d)

    pub digits-end : (v : ℕ) → is_digit b ≡ false → v ≤ largest → digits_from largest m i v (rest_at s i) ≡ Some (number m v i)
    digits-end v d h = digits-none i v (rest_at s i) (digits-here s i e d) h

    pub number_more : is_digit b ≡ true → (b ≡ 48 → ⊥) → number_at largest m i (rest_at s i) ≡ digits_from largest m (i + 1) (b - 48) (rest_at s (i + 1))
    number_more d p = rw (rest-on s i e (digit-on d)) (number_digits i b (rest_at s (i + 1)) d p)

    pub number-nought : b ≡ 48 → number_at largest m i (rest_at s i) ≡ cond m None (Some (number false 0 (i + 1)))
    number-nought z = rw (rest-on s i e (λ t. omega arith), z) (number-zero i (rest_at s (i + 1)))

    pub number-none : is_digit b ≡ false → number_at largest m i (rest_at s i) ≡ None
    number-none d = number-wrong i (rest_at s i) (front-here s i e d)

-- a field by its first byte, the minus sign or another
module _ (largest : ℕ) (signed : Bool) (s : List ℕ) (at : ℕ) {b : ℕ} (e : b ≡ get_or s at 10) where
  pub field_in : field_at largest signed at (rest_at s at) ≡ cond (eqb b 45) (cond signed (number_at largest true (at + 1) (rest_at s (at + 1))) None) (number_at largest false at (rest_at s at))
  unfolding field_at
  field_in =
      split (eqb b 10)
      (λ t. rw (rest_end s at e (eqb-true b 10 t), eqb-true b 10 t) (sym (number-wrong largest false at [] front-nothing)))
      (λ t. rw (rest-on s at e (eqb-false b 10 t)))
