-- `open`: too many counts, or the opening of a row of as many records.
-- Assumes nothing.
use Rattle.std.proofs.Common.{rules, sym}
use Rattle.std.proofs.lemmas.Result.{err_from_is_err_and}
use Rattle.held.proofs.Opens.{over-held, opened-held, refused-held}
use Rattle.held.proofs.Stack.open.Goals as goal

pub returns-then-n-gt16 : goal.returns-then-n-gt16
returns-then-n-gt16 c = over-held c.args.counts.now c.if-n-gt16.true

pub returns : goal.returns
returns c = opened-held c.args.counts.now c.if-n-gt16.false _ c.none.ensures _ (sym c.in_ok-open_counts.ensures.0) (search rules)

pub returns-in_err-open_counts : goal.returns-in_err-open_counts
returns-in_err-open_counts c =
    let p = err_from_is_err_and c.from_residual.result c.from_residual.ensures.1 in
    rw (p.1, p.2) (refused-held c.args.counts.now c.if-n-gt16.false _ c.none.ensures _ (sym c.in_err-open_counts.ensures.0))
