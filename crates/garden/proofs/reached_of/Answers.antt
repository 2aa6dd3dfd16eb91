-- From the highest cell down, the lowest that reaches the trigger so far.
use Rattle.std.proofs.Common.{◌≤◌, ℕ, Bool}
use Rattle.cells.specs.Cells.{cell_count}
use Rattle.cells.proofs.Sets.{lowest-none, lowest-down}
use Rattle.garden.specs.Filter.{reaches, ov_count_at, uv_count_at}
use Rattle.garden.proofs.reached_of.Goals as goal

pub loop-i-init : goal.loop-i-init
loop-i-init c =
    let a = c.args in
    let n = cell_count a.mv.now in
    rw c.cell_count-i.ensures (lowest-none (λ k. reaches a.trigger (ov_count_at a.d a.cells a.mv.now k)) n, lowest-none (λ k. reaches a.trigger (uv_count_at a.d a.cells a.mv.now k)) n)

pub loop-i-preserved : goal.loop-i-preserved
loop-i-preserved c =
    let h = c.loop-i in
    let a = c.args in
    let n = cell_count a.mv.now in
    let within : h.i ≤ n = rw c.cell_count-i.ensures at h.auto.i in
    let F : ℕ → Bool = λ k. reaches a.trigger (ov_count_at a.d a.cells a.mv.now k) in
    let G : ℕ → Bool = λ k. reaches a.trigger (uv_count_at a.d a.cells a.mv.now k) in (
      rw (c.lower_to-ov.ensures, c.count_next.ensures) (lowest-down F h.i n h.ov c.loop-i-test.true within h.invariant.0),
      rw (c.lower_to-uv.ensures, c.count_next-in-loop-i.ensures) (lowest-down G h.i n h.uv c.loop-i-test.true within h.invariant.1),
    )
