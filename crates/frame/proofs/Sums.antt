-- The check of a sum without carries is the sum of the checks. So where a byte of a frame becomes another, its check moves by what the
-- change comes to.
-- Assumes nothing.
use Prim.Native.Nat.{ℕ, zero, suc, ◌+◌, ◌*◌, ◌/◌, ◌%◌, ◌^◌, ◌<◌}
use native.Mathlib.Omega.{arith}
use mathlib.Core.Path.{◌≡◌, refl, sym, ap, ◌∙◌}
use mathlib.Core.Bool.{Bool, true, false, cond}
use mathlib.Core.List.{[], ◌∷◌}
use lib.Arith.{bin_ind}
use lib.Bits.{bit_xor, xor_block, xor_comm, xor_mod, xor_shr, xor_lt, xor_self, xor_zero_l, xor_zero_r}
use lib.Dec.{eqb}
use borrow.Author.Tests.{eqb-true}
use Rattle.lists.proofs.Below.{right-below, right-at}
use Rattle.frame.specs.Check.{polynomial, shifted, times, checked, check_of}
use Rattle.frame.specs.Way.{check_moved, check_after}

-- the laws of bit_xor lack this one: it holds of the halves and of the last digits
half : (a b : ℕ) → bit_xor a b / 2 ≡ bit_xor (a / 2) (b / 2)
half a b = xor_shr a b 1

odd : (a b : ℕ) → bit_xor a b % 2 ≡ bit_xor (a % 2) (b % 2)
odd a b = xor_mod a b 1

same : (x y : ℕ) → x / 2 ≡ y / 2 → x % 2 ≡ y % 2 → x ≡ y
same x y p q = omega (arith, p, q)

digit_assoc : (x y z : ℕ) → x < 2 → y < 2 → z < 2 → bit_xor (bit_xor x y) z ≡ bit_xor x (bit_xor y z)
digit_assoc zero y z p q r = refl
digit_assoc (suc zero) zero z p q r = refl
digit_assoc (suc zero) (suc zero) zero p q r = refl
digit_assoc (suc zero) (suc zero) (suc zero) p q r = refl
digit_assoc (suc (suc x)) y z p q r = absurd (omega (arith, p))
digit_assoc (suc zero) (suc (suc y)) z p q r = absurd (omega (arith, q))
digit_assoc (suc zero) (suc zero) (suc (suc z)) p q r = absurd (omega (arith, r))

xor_assoc : (a b c : ℕ) → bit_xor (bit_xor a b) c ≡ bit_xor a (bit_xor b c)
xor_assoc =
    bin_ind (λ (n : ℕ). (b c : ℕ) → bit_xor (bit_xor n b) c ≡ bit_xor n (bit_xor b c)) (λ b c. refl)
    (λ n ih b c. same _ _ (rw (half (bit_xor n b) c, half n b, half n (bit_xor b c), half b c) (ih (b / 2) (c / 2)))
    (rw (odd (bit_xor n b) c, odd n b, odd n (bit_xor b c), odd b c) (digit_assoc (n % 2) (b % 2) (c % 2) (omega arith) (omega arith) (omega arith))))

exchange : (a b c d : ℕ) → bit_xor (bit_xor a b) (bit_xor c d) ≡ bit_xor (bit_xor a c) (bit_xor b d)
exchange a b c d =
    xor_assoc a b (bit_xor c d) ∙ ap (bit_xor a) (sym (xor_assoc b c d) ∙ ap (λ (x : ℕ). bit_xor x d) (xor_comm b c) ∙ xor_assoc c b d)
    ∙ sym (xor_assoc a c (bit_xor b d))

doubled : (a b : ℕ) → 2 * bit_xor a b ≡ bit_xor (2 * a) (2 * b)
doubled a b =
    let one : a * 2 ^ 1 + 0 ≡ 2 * a = omega arith in
    let other : b * 2 ^ 1 + 0 ≡ 2 * b = omega arith in
    let both' : bit_xor (a * 2 ^ 1 + 0) (b * 2 ^ 1 + 0) ≡ bit_xor a b * 2 ^ 1 + bit_xor 0 0 = xor_block 1 a b 0 0 (omega arith) (omega arith) in
    let sum : 2 * bit_xor a b ≡ bit_xor a b * 2 ^ 1 + 0 = omega arith in
    sum ∙ sym (rw (one, other) at both')

-- ---- a shift goes part by part: the lower seven bits are doubled, and the top one gives the polynomial
abbrev parts : ℕ → ℕ
parts r = bit_xor (2 * (r % 128)) (polynomial * (r / 128))

parts-right : ℕ → Bool
parts-right r = eqb (shifted r) (parts r)

all-parts : right-below parts-right 256 ≡ true
unfolding right-below parts-right shifted
all-parts = refl

by_parts : (r : ℕ) → r < 256 → shifted r ≡ parts r
unfolding parts-right
by_parts r p = eqb-true (shifted r) (parts r) (right-at parts-right 256 all-parts r p)

top-sum : (x y : ℕ) → x < 2 → y < 2 → polynomial * bit_xor x y ≡ bit_xor (polynomial * x) (polynomial * y)
top-sum zero y p q = refl
top-sum (suc zero) zero p q = refl
top-sum (suc zero) (suc zero) p q = refl
top-sum (suc (suc x)) y p q = absurd (omega (arith, p))
top-sum (suc zero) (suc (suc y)) p q = absurd (omega (arith, q))

shifted-lt : (r : ℕ) → r < 256 → shifted r < 256
shifted-lt r p = rw (by_parts r p) (xor_lt 8 (2 * (r % 128)) (polynomial * (r / 128)) (omega arith) (omega (arith, p)))

shifted_sum : (x y : ℕ) → x < 256 → y < 256 → shifted (bit_xor x y) ≡ bit_xor (shifted x) (shifted y)
shifted_sum x y p q =
    rw (by_parts (bit_xor x y) (xor_lt 8 x y p q), by_parts x p, by_parts y q, xor_mod x y 7, xor_shr x y 7, doubled (x % 128) (y % 128), top-sum (x / 128) (y / 128) (omega (arith, p)) (omega (arith, q)))
    (exchange (2 * (x % 128)) (2 * (y % 128)) (polynomial * (x / 128)) (polynomial * (y / 128)))

-- and so do any number of them
times-lt : (n r : ℕ) → r < 256 → times n shifted r < 256
times-lt zero r p = p
times-lt (suc n) r p = times-lt n (shifted r) (shifted-lt r p)

times-sum : (n x y : ℕ) → x < 256 → y < 256 → times n shifted (bit_xor x y) ≡ bit_xor (times n shifted x) (times n shifted y)
times-sum zero x y p q = refl
times-sum (suc n) x y p q = rw (shifted_sum x y p q) (times-sum n (shifted x) (shifted y) (shifted-lt x p) (shifted-lt y q))

-- ---- a byte that becomes another moves the check by what the change comes to
checked-lt : (r byte : ℕ) → r < 256 → byte < 256 → checked r byte < 256
unfolding checked
checked-lt r byte p q = times-lt 8 (bit_xor r byte) (xor_lt 8 r byte p q)

moved : (r v w : ℕ) → r < 256 → v < 256 → w < 256 → check_moved (checked r v) v w ≡ checked r w
unfolding checked
moved r v w p q s =
    let sum : bit_xor (bit_xor r v) (bit_xor v w) ≡ bit_xor r w = xor_assoc r v (bit_xor v w) ∙ ap (bit_xor r) (sym (xor_assoc v v w) ∙ ap (λ (x : ℕ). bit_xor x w) (xor_self v) ∙ xor_zero_l w) in
    sym (times-sum 8 (bit_xor r v) (bit_xor v w) (xor_lt 8 r v p q) (xor_lt 8 v w q s)) ∙ ap (times 8 shifted) sum

-- a value that stays moves no check
pub echo-check : (check value : ℕ) → check_moved check value value ≡ check
unfolding checked shifted
echo-check check value = rw (xor_self value, xor_zero_r check)

pub moved-check : (a r v w check : ℕ) → a < 256 → r < 256 → v < 256 → w < 256 → check_moved check v w ≡ check_after a r v check w
moved-check a r v w check p q s t = by (eqb check (check_of (a ∷ r ∷ v ∷ []))) refl
  where
    by : (x : Bool) → eqb check (check_of (a ∷ r ∷ v ∷ [])) ≡ x → check_moved check v w ≡ cond x (check_of (a ∷ r ∷ w ∷ [])) (check_moved check v w)
    by true e = rw (eqb-true check (check_of (a ∷ r ∷ v ∷ [])) e) (moved (checked (checked 0 a) r) v w (checked-lt (checked 0 a) r (checked-lt 0 a (omega arith) p) q) s t)
    by false e = refl
