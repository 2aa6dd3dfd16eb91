use Rattle.stack.specs.Row.{good_row}
use Rattle.stack.proofs.check_row.Goals as goal

pub returns-then-bad_count : goal.returns-then-bad_count
unfolding good_row
returns-then-bad_count c = rw (← c.bad_count.ensures, c.if-bad_count.true)

pub returns-then-all_good : goal.returns-then-all_good
unfolding good_row
returns-then-all_good c = rw (← c.bad_count.ensures, c.if-bad_count.false, ← c.all_good.ensures, c.if-all_good.true)

pub returns-else-all_good : goal.returns-else-all_good
unfolding good_row
returns-else-all_good c = rw (← c.bad_count.ensures, c.if-bad_count.false, ← c.all_good.ensures, c.if-all_good.false)
