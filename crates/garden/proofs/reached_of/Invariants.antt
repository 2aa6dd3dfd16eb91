use Rattle.std.proofs.Common.{◌≡◌, ◌+◌, ◌-◌}
use Rattle.lists.specs.Marks.{lowest}
use Rattle.lists.specs.Each.{each}
use Rattle.cells.specs.Cells.{cell_count}
use Rattle.garden.specs.Filter.{reaches, ov_count_at, uv_count_at}
use Rattle.garden.proofs.reached_of.Given as goal

abbrev pub invariant-loop-i : goal.invariant-loop-i
invariant-loop-i l =
    (l.ov ≡ lowest (l.i + 1) (each l.i (cell_count l.mv - l.i) (λ k. reaches l.trigger (ov_count_at l.d l.cells l.mv k))))
    × (l.uv ≡ lowest (l.i + 1) (each l.i (cell_count l.mv - l.i) (λ k. reaches l.trigger (uv_count_at l.d l.cells l.mv k))))
