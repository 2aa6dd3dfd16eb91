-- every feed uses some byte of the block
use Rattle.std.proofs.Common.{length, ◌-◌, ◌≤◌}
use Rattle.bench.proofs.block_in.Given as goal

abbrev pub invariant-loop-at : goal.invariant-loop-at
invariant-loop-at g l = l.at ≤ length l.block

abbrev pub decreases-loop-at : goal.decreases-loop-at
decreases-loop-at g l = length l.block - l.at
