-- The places of a line's numbers that are a sample's cells.
-- Assumes nothing.
use Prim.Native.Nat.{ℕ}
use native.Mathlib.Omega.{arith}
use mathlib.Core.Path.{◌≡◌}
use mathlib.Core.List.{List}
use lib.ListN.{length, take, drop, length-drop}
use lib.Seq.{length-take-le}

-- they are sixteen
pub sixteen : (numbers : List ℕ) → length numbers ≡ 21 → length (take 16 (drop 5 numbers)) ≡ 16
sixteen numbers e = length-take-le 16 (drop 5 numbers) (rw (length-drop 5 numbers) (omega arith))
