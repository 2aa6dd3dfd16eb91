-- `all_good`: the records before the next are good, so the row is good where the rest is.
-- Assumes nothing.
use Rattle.std.proofs.Common.{◌≡◌, drop}
use Rattle.stack.specs.Way.{all_good}
use Rattle.stack.proofs.all_good.Given as goal

abbrev pub invariant-loop-b : goal.invariant-loop-b
invariant-loop-b l = all_good l.row ≡ all_good (drop l.b-index l.row)
