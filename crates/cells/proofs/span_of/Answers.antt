use Rattle.std.proofs.Common.{arith}
use Rattle.cells.proofs.Ends.{none_seen, one_more, all_seen}
use Rattle.cells.proofs.span_of.Goals as goal

pub loop-v-init : goal.loop-v-init
loop-v-init c = rw c.from-low.ensures (none_seen _)

pub loop-v-preserved : goal.loop-v-preserved
loop-v-preserved c =
    let small = (c.type_inv.mv c.loop-v.v-index).fits in
    rw (c.max-high.ensures, c.min-low.ensures) (one_more _ _ c.from-v.ensures (omega (arith, small, c.from-v.ensures)) c.loop-v.invariant c.loop-v-test.true)

pub returns : goal.returns
returns c = all_seen _ c.loop-v.invariant c.loop-v-test.false
