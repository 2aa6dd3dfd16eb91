-- the records before the next are those that the plans give, and with the rest of the plans they are all
use Rattle.std.proofs.Common.{◌≡◌, ◌++◌, length, take, drop, map}
use Rattle.board.specs.Sample.{fresh}
use Rattle.stack.proofs.open_row.Given as goal

abbrev pub invariant-loop-i : goal.invariant-loop-i
invariant-loop-i l = (length l.row ≡ length l.plans) × (take l.i l.row ++ map fresh (drop l.i l.plans) ≡ map fresh l.plans)
