-- The latches of the five faults, the switches, and register 0 (01, Frames and registers; When a fault latches and lets go; 02, ticket 3).
-- Assumes nothing.
use Rattle.std.specs.Prelude.{ℕ, Bool, false, cond, not, ◌&&◌, ◌||◌, [], ◌∷◌}
use Rattle.settings.specs.Faults.{Fault, SCD, OCD, OV, UV, OT}
use Rattle.lists.specs.Marks.{number, marked}
use Rattle.latches.specs.declared.Latches.{Latches}

-- one latch
abbrev pub latch : Fault → Latches → Bool
latch SCD t = t.scd
latch OCD t = t.ocd
latch OV t = t.ov
latch UV t = t.uv
latch OT t = t.ot

-- five latches, from one rule over the fault
abbrev pub latches : (Fault → Bool) → Latches
latches on = record { scd = on SCD; ocd = on OCD; ov = on OV; uv = on UV; ot = on OT }

-- an unlatched fault latches exactly if its condition has stood its delay; a latched one unlatches exactly if it lets go
abbrev pub latch_next : Bool → Bool → Bool → Bool
latch_next latched stands lets_go = cond latched (not lets_go) stands

-- the faults that latched: unlatched before, and latched now
abbrev pub risen : Latches → Latches → Latches
risen old new = latches (λ f. latch f new && not (latch f old))

-- a board has a latch
abbrev pub any_latch : Latches → Bool
any_latch t = t.scd || t.ocd || t.ov || t.uv || t.ot

-- a switch is on exactly if it may be and no latch forbids it; OV, OCD, SCD and overtemperature forbid CHG
abbrev pub chg_on : Bool → Latches → Bool
chg_on may t = may && not (t.ov || t.ocd || t.scd || t.ot)

-- DSG: the same with UV in place of OV
abbrev pub dsg_on : Bool → Latches → Bool
dsg_on may t = may && not (t.uv || t.ocd || t.scd || t.ot)

-- register 0, from b0 up: SCD, OCD, OV, UV, overtemperature, zero, DSG on, CHG on, where DSG and CHG may be on
unfoldable pub register0 : Bool → Bool → Latches → ℕ
register0 dsg chg t = number (t.scd ∷ t.ocd ∷ t.ov ∷ t.uv ∷ t.ot ∷ false ∷ dsg_on dsg t ∷ chg_on chg t ∷ [])

-- a board keeps the first five bits of it
unfoldable pub latches_byte : Latches → ℕ
latches_byte t = number (t.scd ∷ t.ocd ∷ t.ov ∷ t.uv ∷ t.ot ∷ [])

abbrev pub latches_of : ℕ → Latches
latches_of byte = record { scd = marked byte 0; ocd = marked byte 1; ov = marked byte 2; uv = marked byte 3; ot = marked byte 4 }
