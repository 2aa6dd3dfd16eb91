-- Counts that are plans as they stand are opened by them, and any others are refused.
use Rattle.std.proofs.Common.{sym, ◌∙◌}
use Rattle.stack.proofs.Fills.{opens_plain, opens-none}
use Rattle.stack.proofs.open_counts.Goals as goal

pub returns-then-plain_counts : goal.returns-then-plain_counts
returns-then-plain_counts c =
    let told = opens_plain c.args.row.now c.args.counts.now (sym c.plain_counts.ensures ∙ c.if-plain_counts.true) in
    (c.open_row.ensures.0 ∙ told.0, c.open_row.ensures.1 ∙ told.1)

pub returns : goal.returns
returns c = opens-none c.args.row.now c.args.counts.now (sym c.plain_counts.ensures ∙ c.if-plain_counts.false)
