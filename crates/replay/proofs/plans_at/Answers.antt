-- The boards one by one, sixteen at most.
-- Assumes nothing.
use Rattle.std.proofs.Common.{◌≡◌, ◌∙◌, ◌+◌, ◌*◌, drop, map, arith}
use Rattle.lists.proofs.Fill.{fill-turn}
use Rattle.format.specs.Read.{boards_from}
use Rattle.replay.specs.Check.{plan_by}
use Rattle.replay.proofs.Places.{fill-starts, fill-goes, fill-ends, next-plan, plans-length}
use Rattle.replay.proofs.plans_at.Goals as goal

pub loop-i-init : goal.loop-i-init
loop-i-init c = fill-starts c.args.n c.min.result c.min.ensures (map plan_by (boards_from c.args.n (drop 8 c.args.bytes.now)))

pub loop-i-preserved : goal.loop-i-preserved
loop-i-preserved c =
    let a = c.args in
    let i = c.loop-i.i in
    let plans = map plan_by (boards_from a.n (drop 8 a.bytes.now)) in
    let on = fill-goes a.n c.min.result c.min.ensures plans i c.loop-i-test.true in
    let plan : c.from_le_bytes.result ≡ 256 * c.byte_at-kind.result + c.byte_at.result = c.from_le_bytes.ensures ∙ omega arith in
    fill-turn 0 _ plans i _ _ c.loop-i.invariant (plan ∙ next-plan a.bytes.now a.n i on.0 c.byte_at-kind.result c.byte_at.result c.byte_at-kind.ensures c.byte_at.ensures)
    (omega (arith, on.0, plans-length a.n (drop 8 a.bytes.now))) on.1

pub returns : goal.returns
returns c =
    fill-ends c.args.n c.min.result c.min.ensures (map plan_by (boards_from c.args.n (drop 8 c.args.bytes.now))) c.loop-i.i c.loop-i.plan-items c.loop-i.invariant c.loop-i.auto.i-end c.loop-i-test.false
