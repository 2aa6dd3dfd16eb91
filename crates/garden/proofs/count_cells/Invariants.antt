use Rattle.cells.specs.Cells.{cell_count}
use Rattle.garden.proofs.Laws.{Counted}
use Rattle.garden.proofs.count_cells.Given as goal

abbrev pub invariant-loop-i : goal.invariant-loop-i
invariant-loop-i l = Counted l.d l.cells l.mv l.ov_none l.uv_none (cell_count l.mv) l.i l.next
