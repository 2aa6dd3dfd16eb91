use Rattle.cells.proofs.Gather.{Gathered}
use Rattle.cells.proofs.sweep.Given as goal

abbrev pub invariant-loop-i : goal.invariant-loop-i
invariant-loop-i l =
    Gathered (record { ov = l.ov; ov_release = l.ov_release; ov_delay = l.ov_delay; uv = l.uv; uv_delay = l.uv_delay }) l.elapsed l.initial.next l.flags l.mv l.n l.i l.next l.ov_stood l.uv_stood l.low
