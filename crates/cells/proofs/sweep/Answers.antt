use Rattle.std.proofs.Common.{◌≡◌, ◌∙◌, ap, length, arith, rules}
use Rattle.cells.specs.Cells.{Limits, limits_of, sweep_by}
use Rattle.cells.proofs.Gather.{nothing, turn, few-ov, few-uv, few-lower, two-sets, done}
use Rattle.cells.proofs.sweep.Goals as goal

pub loop-i-init : goal.loop-i-init
loop-i-init c =
    let a = c.args in
    let long : length a.cells ≡ 10 = search rules in
    nothing _ a.elapsed a.cells a.flags a.mv.now c.cell_count-n.result (omega (arith, long, c.cell_count-n.ensures))

pub mark_next-ov_stood-requires : goal.mark_next-ov_stood-requires
mark_next-ov_stood-requires c = few-ov _ _ _ _ _ _ c.loop-i.invariant (omega arith)

pub mark_next-uv_stood-requires : goal.mark_next-uv_stood-requires
mark_next-uv_stood-requires c = few-uv _ _ _ _ _ _ c.loop-i.invariant (omega arith)

pub mark_next-low-requires : goal.mark_next-low-requires
mark_next-low-requires c = few-lower _ _ _ _ _ _ c.loop-i.invariant (omega arith)

pub loop-i-preserved : goal.loop-i-preserved
loop-i-preserved c =
    let long : length c.args.cells ≡ 10 = search rules in
    rw (c.mark_next-ov_stood.ensures, c.mark_next-uv_stood.ensures, c.mark_next-low.ensures)
    (turn _ _ _ _ _ _ _ _ _ _ c.loop-i.invariant c.advance-ov_run.ensures c.advance-uv_run.ensures c.has_stood.ensures c.has_stood-in-loop-i.ensures c.loop-i-test.true c.loop-i.auto.i (omega arith))

pub flags_next-flagged-requires : goal.flags_next-flagged-requires
flags_next-flagged-requires c =
    let sets = two-sets _ _ _ _ _ c.loop-i.invariant (omega arith) in
    (omega arith, sets.0, sets.1)

pub returns : goal.returns
returns c =
    let a = c.args in
    let same : ◌≡◌ {A = Limits} (record { ov = c.ov_level-ov.result; ov_release = c.ov_release-ov_release.result; ov_delay = c.ov_delay-ov_delay.result; uv = c.uv_level-uv.result; uv_delay = c.uv_delay-uv_delay.result }) (limits_of a.s) =
    λ i. record { ov = c.ov_level-ov.ensures i; ov_release = c.ov_release-ov_release.ensures i; ov_delay = c.ov_delay-ov_delay.ensures i; uv = c.uv_level-uv.ensures i; uv_delay = c.uv_delay-uv_delay.ensures i } in
    done _ a.elapsed a.cells a.flags a.mv.now c.loop-i.invariant (omega arith) _ _ c.cell_count-n.ensures c.flags_next-flagged.ensures c.bled_of.ensures ∙ ap (λ (l : Limits). sweep_by l a.elapsed a.cells a.flags a.mv.now) same
