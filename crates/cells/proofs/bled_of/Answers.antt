use Rattle.std.proofs.Common.{◌%◌, ◌&&◌, eqb, sym}
use Rattle.cells.proofs.Bleed.{none-bled, bled-start, bled-turn, few-bled}
use Rattle.cells.proofs.bled_of.Goals as goal

pub returns-then-flags-eq0 : goal.returns-then-flags-eq0
returns-then-flags-eq0 c = rw c.if-flags-eq0.true (sym (none-bled c.args.cells))

pub loop-i-init : goal.loop-i-init
loop-i-init c = bled-start c.args.flags c.args.cells

pub mark_next-out-requires : goal.mark_next-out-requires
mark_next-out-requires c = few-bled _ _ c.loop-i.invariant c.requires

pub loop-i-preserved : goal.loop-i-preserved
loop-i-preserved c =
    let h = c.loop-i in
    rw c.mark_next-out.ensures (bled-turn _ _ (c.mark_at.result && eqb (h.out % 4) 0) h.invariant (rw c.mark_at.ensures) c.loop-i-test.true h.auto.i)
