use Rattle.std.proofs.Common.{◌≡◌, ◌+◌, ◌-◌, drop}
use Rattle.reading.specs.Reading.{place}
use Rattle.reading.specs.Way.{first_on, first_from}
use Rattle.reading.proofs.first_flagged.Given as goal

-- what is left of the row has the place that the row has
abbrev pub invariant-boards : goal.invariant-boards
invariant-boards l = (l.place ≡ place 0 0) × (first_from l.i (drop l.i l.row) ≡ first_from 0 l.row)

abbrev pub invariant-loop-j : goal.invariant-loop-j
invariant-loop-j l = (l.place ≡ place 0 0) × (first_on l.b l.i l.j (l.j-end - l.j) (first_from (l.i + 1) (drop (l.i + 1) l.row)) ≡ first_from 0 l.row)
