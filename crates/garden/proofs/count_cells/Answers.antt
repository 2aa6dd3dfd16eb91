-- From the highest cell down, each counted by itself.
use Rattle.std.proofs.Common.{◌≡◌, ◌-◌, ◌∙◌, length, arith, rules}
use Rattle.cells.specs.Cells.{cell_count}
use Rattle.garden.specs.Filter.{cells_after}
use Rattle.garden.proofs.Laws.{none-counted, one-counted}
use Rattle.garden.proofs.count_cells.Goals as goal

pub loop-i-init : goal.loop-i-init
loop-i-init c =
    let a = c.args in
    rw c.cell_count-i.ensures (none-counted a.d a.cells a.mv.now a.ov_none a.uv_none (cell_count a.mv.now))

pub loop-i-preserved : goal.loop-i-preserved
loop-i-preserved c =
    let h = c.loop-i in
    let a = c.args in
    let long : length a.cells ≡ 10 = search rules in
    rw (c.count_or_none-uv.ensures, c.count_or_none-ov.ensures)
    (one-counted a.d a.cells a.mv.now a.ov_none a.uv_none (cell_count a.mv.now) h.i h.next c.loop-i-test.true (rw c.cell_count-i.ensures at h.auto.i) (omega (arith, long)) h.invariant)

pub returns : goal.returns
unfolding cells_after
returns c =
    let h = c.loop-i in
    let n = cell_count c.args.mv.now in
    let z : h.i ≡ 0 = omega (arith, c.loop-i-test.false) in
    let all : n - 0 ≡ n = omega arith in
    h.invariant ∙ rw (z, all)
