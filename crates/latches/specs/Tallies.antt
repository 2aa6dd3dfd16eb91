-- How often each fault latched (02, ticket 7).
-- Assumes nothing.
use Rattle.std.specs.Prelude.{ℕ, ◌+◌, min, Bool, cond}
use Rattle.settings.specs.Faults.{Fault, SCD, OCD, OV, UV, OT}
use Rattle.latches.specs.declared.Latches.{Latches}
use Rattle.latches.specs.declared.Tallies.{Tallies}
use Rattle.latches.specs.Latches.{latch}

-- one tally
abbrev pub tally : Fault → Tallies → ℕ
tally SCD t = t.scd
tally OCD t = t.ocd
tally OV t = t.ov
tally UV t = t.uv
tally OT t = t.ot

-- five tallies, from one rule over the fault
abbrev pub tallies : (Fault → ℕ) → Tallies
tallies of = record { scd = of SCD; ocd = of OCD; ov = of OV; uv = of UV; ot = of OT }

-- a tally stops here
abbrev pub tally_top : ℕ
tally_top = 65535

-- up by one where its fault latched
unfoldable pub tally_next : Bool → ℕ → ℕ
tally_next up n = cond up (min tally_top (n + 1)) n

-- by the faults that latched
unfoldable pub tallies_next : Latches → Tallies → Tallies
tallies_next up t = tallies (λ f. tally_next (latch f up) (tally f t))
