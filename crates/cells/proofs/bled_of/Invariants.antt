use Rattle.cells.proofs.Bleed.{Bled}
use Rattle.cells.proofs.bled_of.Given as goal

abbrev pub invariant-loop-i : goal.invariant-loop-i
invariant-loop-i l = Bled l.flags l.cells l.i l.out
