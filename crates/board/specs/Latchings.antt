-- The latchings of a sample, as they are entered in the journal of its board (02, ticket 8).
-- Assumes nothing.
use Rattle.std.specs.Prelude.{ℕ, ◌+◌, min, Bool, cond, List, [], ◌∷◌}
use Rattle.settings.specs.Faults.{Fault, SCD, OCD, OV, UV, OT}
use Rattle.journal.specs.Ring.{Entry, latching}

-- the number of a sample: the board's accepted ones are counted from 1, the present one included; at its top the number stays
abbrev pub number_top : ℕ
number_top = 4294967295

abbrev pub number_next : ℕ → ℕ
number_next n = min number_top (n + 1)

abbrev pub cause : Fault → ℕ
cause SCD = 0
cause OCD = 1
cause OV = 2
cause UV = 3
cause OT = 4

-- the cell: of OV and UV the lowest that stood its delay, or reached its trigger, at that sample; the others have none
abbrev pub cell_of : ℕ → ℕ → Fault → ℕ
cell_of ov uv SCD = 0
cell_of ov uv OCD = 0
cell_of ov uv OV = ov
cell_of ov uv UV = uv
cell_of ov uv OT = 0

-- the latchings of one sample, in the order SCD, OCD, OV, UV, overtemperature: of each fault, where it latched
module _ (up : Fault → Bool) (cell : Fault → ℕ) (number : ℕ) where
  abbrev pub noting : Fault → List Entry → List Entry
  noting f later = cond (up f) (latching (cause f) (cell f) number ∷ later) later

  unfoldable pub latchings : List Entry
  latchings = noting SCD (noting OCD (noting OV (noting UV (noting OT []))))
