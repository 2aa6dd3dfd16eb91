-- A signed reading against a level: below zero it is above no level, and from zero up it is its own size.
-- Assumes nothing.
use Prim.Native.Nat.{ℕ, ◌^◌, ◌≤◌}
use native.Mathlib.Omega.{arith}
use mathlib.Core.Path.{◌≡◌, refl, sym, ◌∙◌}
use mathlib.Core.Bool.{true, false, true≢false}
use lib.Dec.{ltb, leb-suc-zero}
use lib.IntN.{ℤ, pos, negsuc, nat_abs}
use lib.Signed.{lt_z, nat_abs-le}
use mir.Syntax.{w32}
use mir.Val.{Fits, SFits}
use Rattle.board.specs.Shunt.{shunt_above}

pub above-none : (level : ℕ) (z : ℤ) → lt_z z (pos 0) ≡ true → false ≡ shunt_above level z
unfolding shunt_above
above-none level (pos k) e = absurd (true≢false (sym e ∙ leb-suc-zero k))
above-none level (negsuc k) e = refl

pub above-size : (level : ℕ) (z : ℤ) → lt_z z (pos 0) ≡ false → ltb level (nat_abs z) ≡ shunt_above level z
unfolding shunt_above
above-size level (pos k) e = refl
above-size level (negsuc k) e = absurd (true≢false e)

pub size_fits : (z : ℤ) → SFits w32 z → Fits w32 (nat_abs z)
size_fits z h = let small : nat_abs z ≤ 2 ^ 31 = nat_abs-le z h.sfits in record { fits = omega arith }
