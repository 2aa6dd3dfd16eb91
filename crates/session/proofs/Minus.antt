-- A size with a minus sign, as a signed number of 32 bits.
-- Assumes nothing.
use Prim.Native.Nat.{ℕ, zero, suc, ◌≤◌, min}
use native.Mathlib.Omega.{arith}
use mathlib.Core.Path.{◌≡◌}
use lib.Dec.{lit<}
use mathlib.Core.Bool.{Bool, true, false}
use borrow.Author.Tests.{lt-ltb}
use lib.IntN.{pos, ◌-ℤ◌}
use Rattle.session.specs.LineActs.{shunt_of}
use mir.Syntax.{w32}
use mir.Val.{SFits, to_z}
use mir.Facts.{to_z_pos}

pub size_is : (n : ℕ) → n ≤ 2147483647 → to_z w32 n ≡ pos n
size_is n h = to_z_pos w32 (omega arith)

pub minus-fits : (n : ℕ) → n ≤ 2147483647 → SFits w32 (pos 0 -ℤ pos n)
minus-fits zero h = record { sfits = lit< tt }
minus-fits (suc k) h = record { sfits = rw (lt-ltb 0 (suc k) (omega arith)) (omega arith) }

pub shunt-fits : (minus : Bool) (size : ℕ) → SFits w32 (shunt_of minus size)
unfolding shunt_of
shunt-fits true size = minus-fits (min size 2147483647) (omega arith)
shunt-fits false size = record { sfits = omega arith }
