use Rattle.std.proofs.Common.{◌≡◌, drop}
use Rattle.reading.specs.Way.{line_from, line_row}
use Rattle.reading.proofs.line_row.Given as goal

-- what is left of the row says what the row says
abbrev pub invariant-loop-i : goal.invariant-loop-i
invariant-loop-i l = line_from l.i (drop l.i l.row) ≡ line_row l.row
