-- The cells one by one, sixteen at most.
-- Assumes nothing.
use Rattle.std.proofs.Common.{◌∙◌, ◌/◌, length, sym, arith}
use Rattle.lists.proofs.Fill.{fill-turn}
use Rattle.format.specs.Read.{pairs_in}
use Rattle.format.proofs.Fronts.{pairs-length}
use Rattle.replay.proofs.Places.{fill-starts, fill-goes, fill-ends, pair-at}
use Rattle.replay.proofs.cells_in.Goals as goal

pub loop-i-init : goal.loop-i-init
loop-i-init c = fill-starts (length c.args.rest.now / 2) c.min-few.result c.min-few.ensures (pairs_in (length c.args.rest.now / 2) c.args.rest.now)

pub loop-i-preserved : goal.loop-i-preserved
loop-i-preserved c =
    let a = c.args in
    let i = c.loop-i.i in
    let cells = pairs_in (length a.rest.now / 2) a.rest.now in
    let on = fill-goes (length a.rest.now / 2) c.min-few.result c.min-few.ensures cells i c.loop-i-test.true in
    fill-turn 0 _ cells i _ _ c.loop-i.invariant (c.two_at.ensures ∙ sym (pair-at (length a.rest.now / 2) i a.rest.now on.0)) (omega (arith, on.0, pairs-length (length a.rest.now / 2) a.rest.now)) on.1

pub returns : goal.returns
returns c =
    fill-ends (length c.args.rest.now / 2) c.min-few.result c.min-few.ensures (pairs_in (length c.args.rest.now / 2) c.args.rest.now) c.loop-i.i c.loop-i.cell-items c.loop-i.invariant c.loop-i.auto.i-end c.loop-i-test.false
