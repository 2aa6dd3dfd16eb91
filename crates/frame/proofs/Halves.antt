-- The check by halves: a table's own rule, and that two steps by a table that has it are eight shifts. Both are tests that compute,
-- over every entry and over every byte.
-- Assumes nothing.
use Prim.Native.Nat.{ℕ, ◌*◌, ◌/◌, ◌%◌, ◌<◌}
use native.Mathlib.Omega.{arith}
use mathlib.Core.Path.{◌≡◌, refl}
use mathlib.Core.Bool.{Bool, true, ◌&&◌}
use mathlib.Core.List.{List}
use lib.Bits.{bit_xor}
use lib.Dec.{ltb, eqb}
use lib.ListN.{get_or}
use borrow.Author.Tests.{eqb-true, ltb-true}
use Rattle.lists.proofs.Split.{both}
use Rattle.lists.proofs.Below.{right-below, right-at}
use Rattle.frame.specs.Check.{shifted, times}
use Rattle.frame.specs.Way.{FourShifts, half_next}

-- the rule as a test: entry k is what four shifts make of 16k
unfoldable pub entry-right : List ℕ → ℕ → Bool
entry-right table k = eqb (get_or table k 0) (times 4 shifted (16 * k))

pub four-shifts : (table : List ℕ) → right-below (entry-right table) 16 ≡ true → FourShifts table
unfolding FourShifts entry-right
four-shifts table t k p = eqb-true (get_or table k 0) (times 4 shifted (16 * k)) (right-at (entry-right table) 16 t k p)

-- a step by such a table, said by its rule
abbrev step : ℕ → ℕ
step r = bit_xor (r % 16 * 16) (times 4 shifted (16 * (r / 16)))

same_step : (table : List ℕ) → FourShifts table → (r : ℕ) → r < 256 → half_next table r ≡ step r
unfolding FourShifts
same_step table entry r p = rw (entry (r / 16) (omega (arith, p)))

-- of a byte it leaves a byte, and two of them are eight shifts
byte-right : ℕ → Bool
byte-right x = ltb (step x) 256 && eqb (step (step x)) (times 8 shifted x)

bytes-right : right-below byte-right 256 ≡ true
unfolding right-below byte-right shifted
bytes-right = refl

pub by-halves : (table : List ℕ) → FourShifts table → (x : ℕ) → x < 256 → half_next table (half_next table x) ≡ times 8 shifted x
unfolding byte-right
by-halves table entry x p =
    let h = both (ltb (step x) 256) (eqb (step (step x)) (times 8 shifted x)) (right-at byte-right 256 bytes-right x p) in
    rw (same_step table entry x p, same_step table entry (step x) (ltb-true (step x) 256 h.0)) (eqb-true (step (step x)) (times 8 shifted x) h.1)
