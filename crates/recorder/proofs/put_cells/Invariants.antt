use Rattle.std.proofs.Common.{◌≡◌, ◌+◌, ◌*◌}
use Rattle.puts.specs.Put.{Put}
use Rattle.format.specs.Format.{little}
use Rattle.recorder.proofs.Pieces.{before}
use Rattle.recorder.proofs.put_cells.Given as goal

abbrev pub invariant-loop-mv : goal.invariant-loop-mv
invariant-loop-mv l = (l.next ≡ l.at + 2 * l.mv-index) × Put l.at (before (little 2) l.cells l.mv-index) l.initial.memory l.memory l.next
