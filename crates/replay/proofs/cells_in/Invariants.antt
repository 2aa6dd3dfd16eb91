-- The cells one by one, sixteen at most.
-- Assumes nothing.
use Rattle.std.proofs.Common.{◌≡◌, ◌/◌, length, min}
use Rattle.lists.proofs.Fill.{filled}
use Rattle.format.specs.Read.{pairs_in}
use Rattle.replay.proofs.cells_in.Given as goal

abbrev pub invariant-loop-i : goal.invariant-loop-i
invariant-loop-i l = l.cell-items ≡ filled 0 (min (length l.rest / 2) 16) (pairs_in (length l.rest / 2) l.rest) l.i
