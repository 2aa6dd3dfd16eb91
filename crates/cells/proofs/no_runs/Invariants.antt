use Rattle.std.proofs.Common.{◌≡◌, ◌&&◌, drop}
use Rattle.cells.specs.Way.{no_runs}
use Rattle.cells.proofs.no_runs.Given as goal

abbrev pub invariant-loop-c : goal.invariant-loop-c
invariant-loop-c l = no_runs l.fn.cells ≡ (l.none && no_runs (drop l.c-index l.fn.cells))
