use Rattle.cells.proofs.Ends.{Seen}
use Rattle.cells.proofs.span_of.Given as goal

abbrev pub invariant-loop-v : goal.invariant-loop-v
invariant-loop-v l = Seen l.mv l.v-index l.low l.high
