-- What a host board has beside a stand-alone one (02, ticket 3): its register 1, the last accepted sample, and latches that a write clears.
-- Assumes nothing.
use Rattle.std.specs.Prelude.{ℕ, Bool, false, not, ◌&&◌, ◌||◌, List, pos}
use Rattle.lists.specs.Compare.{◌above◌, ◌below◌}
use Rattle.settings.specs.declared.Settings.{Settings}
use Rattle.settings.specs.Levels.{ov_level, uv_level, ocd_level, scd_level}
use Rattle.settings.specs.Faults.{Fault, SCD, OCD, OV, UV, OT}
use Rattle.cells.specs.Cells.{low_of, high_of}
use Rattle.latches.specs.declared.Latches.{Latches}
use Rattle.latches.specs.Latches.{latch, latches, register0}
use Rattle.latches.specs.Control.{clear_bit, dsg_bit, chg_bit}
use Rattle.board.specs.declared.Last.{Last}
use Rattle.board.specs.declared.Readings.{Readings}
use Rattle.board.specs.Plan.{is_host}
use Rattle.board.specs.Shunt.{shunt_above}

-- DSG and CHG may be on where their bits of register 1 are set; no other board has such bits
abbrev pub may_dsg : ℕ → ℕ → Bool
may_dsg kind control = not (is_host kind) || dsg_bit control

abbrev pub may_chg : ℕ → ℕ → Bool
may_chg kind control = not (is_host kind) || chg_bit control

-- register 0 of a board of this kind
abbrev pub status_by : ℕ → ℕ → Latches → ℕ
status_by kind control t = register0 (may_dsg kind control) (may_chg kind control) t

-- OV, UV, OCD and SCD of a host board do not let go by themselves
abbrev pub holds_on : ℕ → Fault → Bool
holds_on kind SCD = is_host kind
holds_on kind OCD = is_host kind
holds_on kind OV = is_host kind
holds_on kind UV = is_host kind
holds_on kind OT = false

-- what is kept of the last accepted sample: its lowest and its highest cell, and its shunt
abbrev pub last_of : Readings → List ℕ → Last
last_of x mv = record { low = low_of mv; high = high_of mv; shunt = x.shunt }

-- before any sample, such that nothing is over
abbrev pub no_last : Last
no_last = record { low = 0; high = 4294967295; shunt = pos 2147483647 }

-- the condition of a fault is over on the last accepted sample, by the levels that work now: all cells below the OV level, all above the UV
-- level, the shunt at or below the level. Overtemperature is not cleared so
abbrev pub is_over : Settings → Last → Fault → Bool
is_over s last SCD = not (shunt_above (scd_level s) last.shunt)
is_over s last OCD = not (shunt_above (ocd_level s) last.shunt)
is_over s last OV = last.high below ov_level s
is_over s last UV = last.low above uv_level s
is_over s last OT = false

-- the latches without those whose condition is over
unfoldable pub cleared_of : Settings → Last → Latches → Latches
cleared_of s last old = latches (λ f. not (is_over s last f) && latch f old)

-- a write takes b0 from 1 to 0
abbrev pub takes_down : ℕ → ℕ → Bool
takes_down control v = clear_bit control && not (clear_bit v)
