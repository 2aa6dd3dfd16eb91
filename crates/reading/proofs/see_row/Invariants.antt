use Rattle.std.proofs.Common.{◌≡◌, drop}
use Rattle.reading.specs.Way.{seen_with, seen_row}
use Rattle.reading.proofs.Along.{folded}
use Rattle.reading.proofs.see_row.Given as goal

abbrev pub invariant-loop-i : goal.invariant-loop-i
invariant-loop-i l = folded seen_with l.seen l.i (drop l.i l.row) ≡ seen_row l.row
