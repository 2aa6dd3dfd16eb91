-- Good plans, one for each record, are gone through record by record.
use Rattle.std.proofs.Common.{◌∙◌, sym, arith}
use lib.ListN.{length-set}
use borrow.Author.Tests.{ne_eqb, eq-eqb}
use Rattle.stack.proofs.Fills.{opens-not, opens-good, row_next, row_full}
use Rattle.stack.proofs.open_row.Goals as goal

pub returns-then-plans-row : goal.returns-then-plans-row
returns-then-plans-row c = opens-not c.args.row.now c.args.plans.now (rw (ne_eqb _ _ c.if-plans-row.true))

pub returns-then-bad_plans : goal.returns-then-bad_plans
returns-then-bad_plans c =
    opens-not c.args.row.now c.args.plans.now (rw (eq-eqb _ _ c.if-plans-row.false) (sym c.bad_plans.ensures ∙ c.if-bad_plans.true))

pub loop-i-preserved : goal.loop-i-preserved
loop-i-preserved c =
    let same = c.loop-i.invariant.0 in
    let i = c.loop-i.i in
    (length-set c.loop-i.row i c.fresh_board.result ∙ same, rw c.fresh_board.ensures (row_next c.args.plans.now c.loop-i.row same i (omega arith) ∙ c.loop-i.invariant.1))

pub returns : goal.returns
returns c =
    let told = opens-good c.args.row.now c.args.plans.now c.if-plans-row.false (sym c.bad_plans.ensures ∙ c.if-bad_plans.false) in
    (told.0, row_full c.args.plans.now c.loop-i.row c.loop-i.invariant.0 c.loop-i.i (omega arith) c.loop-i.invariant.1 ∙ told.1)
