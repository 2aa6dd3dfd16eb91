-- `complete_line`: nothing, the block kept, or the line answered as a block of one.
-- Assumes nothing.
use Rattle.std.proofs.Common.{sym, ◌∙◌, arith}
use lib.Seq.{length-take-le}
use Rattle.lines.proofs.Words.{before-long}
use Rattle.session.proofs.Kept.{emptied-holds, completed-none, completed-rest, whole-few, completed-line}
use Rattle.session.proofs.Session.complete_line.Goals as goal

pub returns-then-kept_len-eq0 : goal.returns-then-kept_len-eq0
returns-then-kept_len-eq0 c = completed-none _ _ _ (sym c.kept_len.ensures ∙ c.if-kept_len-eq0.true)

pub slice_bounds-keep-end : goal.slice_bounds-keep-end
slice_bounds-keep-end c =
    let block = c.args.block.now in
    sym (length-take-le c.line_end-end.result block (omega (arith, c.line_end-end.ensures, before-long 10 block)))

pub returns-then-block-end : goal.returns-then-block-end
returns-then-block-end c =
    let e = c.line_end-end.ensures in
    completed-rest _ _ _ _ _ _ e (omega (arith, e, before-long 10 c.args.block.now)) c.if-block-end.true c.keep.ensures.line

pub shared_ref_as_front-line : goal.shared_ref_as_front-line
shared_ref_as_front-line c = whole-few _ _ c.end_line.ensures.whole

pub returns : goal.returns
returns c =
    let answered = rw c.end_line.ensures.block at c.answer_lines-whole.ensures in
    completed-line _ c.keep.new.self _ _ c.line_end-end.ensures c.if-block-end.false c.keep.ensures.line c.requires answered (rw c.clear.ensures (emptied-holds _))
