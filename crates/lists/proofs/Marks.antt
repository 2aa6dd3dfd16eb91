-- The laws of a set of cells: its list and its number say the same, cell by cell; and two sets joined or parted.
-- Assumes nothing.
use Prim.Native.Nat.{ℕ, zero, suc, ◌+◌, ◌*◌, ◌/◌, ◌%◌, ◌^◌, ◌<◌, ◌≤◌, min, max}
use native.Mathlib.Nat.{two-pow-succ, two-mul, zero-add, div-one, div-eq_of_lt, div-div-eq-div-mul, lt_of_lt_of_le, not-suc-le-zero, le_of_suc-le-suc}
use native.Mathlib.Numerals.{add-one}
use native.Mathlib.Omega.{arith}
use mathlib.Core.Path.{◌≡◌, refl, ap, sym, ◌∙◌}
use mathlib.Core.Bool.{Bool, true, false, not, ◌&&◌, ◌||◌}
use mathlib.Core.List.{List, [], ◌∷◌}
use borrow.Author.Tests.{eqb-true, eqb-false, eq-eqb, ne_eqb, le-ltb}
use lib.Bits.{bit_and, bit_or, bit_xor, differ, and_step, or_step, xor_step}
use lib.Dec.{eqb, ltb, lit<}
use lib.ListN.{length, get_or}
use lib.Pow.{pow_mono, mod-pow-add, shl_exact}
use Rattle.lists.specs.Marks.{bit, number, marked, marks, lowest}

-- a number of w places has no cell from place w up
pub marked-above : (w set at : ℕ) → set < 2 ^ w → w ≤ at → marked set at ≡ false
marked-above w set at h p = rw (div-eq_of_lt (lt_of_lt_of_le h (pow_mono p)))

-- nor has a u16 one past its 16 places
pub no_place : (set at : ℕ) → set < 65536 → 16 ≤ at → ltb at 16 ≡ marked set at
no_place set at h p = le-ltb at 16 p ∙ sym (marked-above 16 set at h p)

pub marks-length : (n set : ℕ) → length (marks n set) ≡ n
unfolding marks
marks-length zero set = refl
marks-length (suc n) set = ap suc (marks-length n (set / 2))

-- the cell at a place of the list is the cell at that place of the number
pub marks-at : (n set i : ℕ) → i < n → get_or (marks n set) i false ≡ marked set i
unfolding marks
marks-at zero set i p = absurd (not-suc-le-zero p)
marks-at (suc n) set zero p = rw (div-one set)
marks-at (suc n) set (suc i) p =
    rw (marks-at n (set / 2) i (le_of_suc-le-suc p), div-div-eq-div-mul set 2 (2 ^ i), two-pow-succ i, two-mul)

-- the first cell of a number, and the others
low_bit : (b : Bool) (k : ℕ) → eqb ((bit b + 2 * k) % 2) 1 ≡ b
low_bit true k = eq-eqb ((1 + 2 * k) % 2) 1 (omega arith)
low_bit false k = ne_eqb ((0 + 2 * k) % 2) 1 (λ e. omega arith)

high_bits : (b : Bool) (k : ℕ) → (bit b + 2 * k) / 2 ≡ k
high_bits true k = omega arith
high_bits false k = omega arith

low_digit : (b : Bool) (k : ℕ) → (bit b + 2 * k) % 2 ≡ bit b
low_digit true k = omega arith
low_digit false k = omega arith

-- a list is the list of its number
pub marks-number : (bs : List Bool) → marks (length bs) (number bs) ≡ bs
unfolding marks number
marks-number [] = refl
marks-number (b ∷ bs) = rw (low_bit b (number bs), high_bits b (number bs), marks-number bs)

bit_le : (b : Bool) → bit b ≤ 1
bit_le true = omega arith
bit_le false = omega arith

pub number-below : (bs : List Bool) → number bs < 2 ^ length bs
unfolding number
number-below [] = lit< tt
number-below (b ∷ bs) =
    let below : number bs < 2 ^ length bs = number-below bs in
    rw (two-pow-succ (length bs)) (omega (arith, bit_le b))

-- a cell of the number is the cell of the list
pub number_at : (bs : List Bool) (i : ℕ) → i < length bs → marked (number bs) i ≡ get_or bs i false
number_at bs i p = sym (marks-at (length bs) (number bs) i p) ∙ ap (λ (l : List Bool). get_or l i false) (marks-number bs)

-- the worth of a place of a u16
pub place-worth : (at : ℕ) → at < 16 → 1 * 2 ^ at % 65536 ≡ 2 ^ at
place-worth at p = shl_exact 1 at 16 (omega arith) (omega arith) ∙ omega arith

low-mark : (x : ℕ) → bit (eqb (x % 2) 1) ≡ x % 2
low-mark x = by (eqb (x % 2) 1) refl where
  by : (t : Bool) → eqb (x % 2) 1 ≡ t → bit t ≡ x % 2
  by true e = sym (eqb-true (x % 2) 1 e)
  by false e = let other = eqb-false (x % 2) 1 e in omega (arith, other)

-- the number of the first n cells of a number
pub number-marks : (n x : ℕ) → number (marks n x) ≡ x % 2 ^ n
unfolding number marks
number-marks zero x = omega arith
number-marks (suc n) x =
    let whole : x % 2 ^ suc n ≡ x / 2 % 2 ^ n * 2 + x % 2 = ap (λ (m : ℕ). x % 2 ^ m) (sym (add-one n)) ∙ mod-pow-add x n 1 in
    rw (low-mark x, number-marks n (x / 2), whole) (omega arith)

-- the cells of either set, and those of one that are not in the other: one more cell below the others, digit by digit
or-digit : (b c : Bool) → max (bit b) (bit c) ≡ bit (b || c)
or-digit true true = refl
or-digit true false = refl
or-digit false true = refl
or-digit false false = refl

and-digit : (b c : Bool) → min (bit b) (bit c) ≡ bit (b && c)
and-digit true true = refl
and-digit true false = refl
and-digit false true = refl
and-digit false false = refl

without-digit : (b c : Bool) → differ (bit b) (bit (b && c)) ≡ bit (b && not c)
without-digit true true = refl
without-digit true false = refl
without-digit false c = refl

abbrev pub without : ℕ → ℕ → ℕ
without x y = bit_xor x (bit_and x y)

pub or_turn : (b c : Bool) (x y : ℕ) → bit_or (bit b + 2 * x) (bit c + 2 * y) ≡ bit (b || c) + 2 * bit_or x y
or_turn b c x y =
    or_step (bit b + 2 * x) (bit c + 2 * y) ∙ rw (high_bits b x, high_bits c y, low_digit b x, low_digit c y, or-digit b c) (omega arith)

and-turn : (b c : Bool) (x y : ℕ) → bit_and (bit b + 2 * x) (bit c + 2 * y) ≡ bit (b && c) + 2 * bit_and x y
and-turn b c x y =
    and_step (bit b + 2 * x) (bit c + 2 * y) ∙ rw (high_bits b x, high_bits c y, low_digit b x, low_digit c y, and-digit b c) (omega arith)

xor-turn : (b c : Bool) (x y : ℕ) → bit_xor (bit b + 2 * x) (bit (b && c) + 2 * y) ≡ bit (b && not c) + 2 * bit_xor x y
xor-turn b c x y =
    xor_step (bit b + 2 * x) (bit (b && c) + 2 * y) ∙ rw (high_bits b x, high_bits (b && c) y, low_digit b x, low_digit (b && c) y, without-digit b c) (omega arith)

pub without-turn : (b c : Bool) (x y : ℕ) → without (bit b + 2 * x) (bit c + 2 * y) ≡ bit (b && not c) + 2 * without x y
without-turn b c x y = ap (bit_xor (bit b + 2 * x)) (and-turn b c x y) ∙ xor-turn b c x (bit_and x y)

double-zero : (n : ℕ) → eqb (2 * n) 0 ≡ eqb n 0
double-zero zero = refl
double-zero (suc n) = ne_eqb (2 * suc n) 0 (λ e. omega arith) ∙ sym (ne_eqb (suc n) 0 (λ e. omega arith))

-- there is no lowest cell exactly if the number is 0
pub lowest-zero : (k : ℕ) (bs : List Bool) → eqb (lowest (k + 1) bs) 0 ≡ eqb (number bs) 0
unfolding lowest number
lowest-zero k [] = refl
lowest-zero k (true ∷ bs) = ne_eqb (k + 1) 0 (λ e. omega arith) ∙ sym (ne_eqb (1 + 2 * number bs) 0 (λ e. omega arith))
lowest-zero k (false ∷ bs) = rw (lowest-zero (k + 1) bs, zero-add, double-zero (number bs))
