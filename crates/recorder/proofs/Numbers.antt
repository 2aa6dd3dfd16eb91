-- Numbers as the library puts them, the lowest byte first; a signed one as its two's complement.
-- Assumes nothing.
use Prim.Native.Nat.{ℕ, suc, ◌-◌, ◌/◌, ◌%◌, ◌<◌}
use native.Mathlib.Omega.{arith}
use mathlib.Core.Path.{◌≡◌, refl, sym, ◌∙◌}
use mathlib.Core.Bool.{true, false, true≢false}
use mathlib.Core.List.{[], ◌∷◌}
use lib.Dec.{T, leb-suc-zero}
use lib.IntN.{ℤ, pos, negsuc, nat_abs, ◌-ℤ◌}
use lib.Signed.{lt_z, non_neg}
use borrow.Author.Tests.{lt-ltb, le-ltb}
use mir.Syntax.{w16, w32}
use mir.Val.{Fits, SFits}
use Rattle.std.specs.Int.{to_le_bytes, cast_unsigned}
use Rattle.format.specs.Format.{little, twos, fits_signed}

pub little-one : (n : ℕ) → n < 256 → n ∷ [] ≡ little 1 n
unfolding little
little-one n h = let same : n % 256 ≡ n = omega arith in rw same

pub little-two : (n : ℕ) → to_le_bytes w16 n ≡ little 2 n
unfolding little
little-two n = refl

pub little-four : (n : ℕ) → to_le_bytes w32 n ≡ little 4 n
unfolding little
little-four n =
    let second : n / 65536 ≡ n / 256 / 256 = omega arith in
    let third : n / 16777216 ≡ n / 256 / 256 / 256 = omega arith in
    rw (second, third)

pub little-twos : (z : ℤ) → to_le_bytes w32 (cast_unsigned w32 z) ≡ little 4 (twos z)
little-twos (pos n) = little-four n
little-twos (negsuc k) = let same : 4294967296 - suc k ≡ 4294967295 - k = omega arith in rw same (little-four (4294967295 - k))

-- ---- below zero: -1 less the number is one less than its size
less_one : (k : ℕ) → negsuc 0 -ℤ negsuc k ≡ pos k
less_one k = let same : suc k - 1 ≡ k = omega arith in rw (le-ltb (suc k) 1 (omega arith), same)

pub record Turned (z : ℤ) : Type 0 where
  pub fit : SFits w32 (negsuc 0 -ℤ z)
  pub up : T (non_neg (negsuc 0 -ℤ z))
  pub size : Fits w32 (nat_abs (negsuc 0 -ℤ z))
  pub back : 4294967295 - nat_abs (negsuc 0 -ℤ z) ≡ twos z

pub turned : (z : ℤ) → lt_z z (pos 0) ≡ true → SFits w32 z → Turned z
turned (pos n) e f = absurd (true≢false (sym e ∙ leb-suc-zero n))
turned (negsuc k) e f =
    let is = less_one k in
    record { fit = rw is (record { sfits = f.sfits }); up = rw is tt; size = rw is (record { fits = omega (arith, f.sfits) }); back = rw is }

-- from zero up it is its own size
pub record Plain (z : ℤ) : Type 0 where
  pub up : T (non_neg z)
  pub size : Fits w32 (nat_abs z)
  pub same : nat_abs z ≡ twos z

pub plain : (z : ℤ) → lt_z z (pos 0) ≡ false → SFits w32 z → Plain z
plain (pos n) e f = record { up = tt; size = record { fits = omega (arith, f.sfits) }; same = refl }
plain (negsuc k) e f = absurd (true≢false e)

pub signed-fits : (z : ℤ) → SFits w32 z → fits_signed z ≡ true
signed-fits (pos n) f = lt-ltb n 2147483648 (omega (arith, f.sfits))
signed-fits (negsuc k) f = lt-ltb k 2147483648 (omega (arith, f.sfits))
