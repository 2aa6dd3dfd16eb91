-- A signed number of 32 bits is its two's complement.
-- Assumes nothing.
use Prim.Native.Nat.{ℕ, suc, ◌-◌, ◌<◌}
use native.Mathlib.Omega.{arith}
use mathlib.Core.Path.{◌≡◌, ap, ◌∙◌}
use lib.Dec.{ltb}
use Rattle.lists.proofs.Split.{split}
use Rattle.format.specs.Read.{signed}
use mir.Syntax.{w32}
use mir.Val.{to_z, of_z}
use lib.IntN.{ℤ}
use Rattle.std.proofs.lemmas.Int.{of_z-to_z}

signed-is : (n : ℕ) → to_z w32 n ≡ signed n
signed-is n =
    let low : 4294967296 - suc n ≡ 4294967295 - n = omega arith in
    split (ltb n 2147483648) (λ e. rw e) (λ e. rw (e, low))

pub shunt-is : (n : ℕ) (z : ℤ) → z ≡ to_z w32 n → n < 4294967296 → to_z w32 (of_z w32 z) ≡ signed n
shunt-is n z e fits = ap (to_z w32) (ap (of_z w32) e ∙ of_z-to_z w32 n fits) ∙ signed-is n
