-- The tallies and the latchings of a board's history (02, tickets 7 and 8): the five together count every latching once, as the journal has them.
-- Assumes nothing.
use Rattle.std.specs.Prelude.{ℕ, ◌+◌, ◌<◌, ◌≡◌, length}
use Rattle.settings.specs.Faults.{Fault, SCD, OCD, OV, UV, OT}
use Rattle.latches.specs.Tallies.{tally_top}
use Rattle.board.specs.declared.Plan.{Plan}
use Rattle.demands.specs.Paper.{History, how_many, latching, tallied, latchings}

-- a number of each fault, added up
abbrev pub over_faults : (Fault → ℕ) → ℕ
over_faults of = of SCD + of OCD + of OV + of UV + of OT

pub record Tallied (p : Plan) (h : History) : Type 0 where
  -- the latchings of a history are those of each fault, added up
  pub by-fault : length (latchings p h) ≡ over_faults (λ f. how_many (latching p f) h)
  -- and as long as no tally has stopped the five together are the number of latchings
  pub together : ((f : Fault) → tallied p f h < tally_top) → over_faults (λ f. tallied p f h) ≡ length (latchings p h)
