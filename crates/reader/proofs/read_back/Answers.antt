-- `read_back`: the header, then the boards, then the acts, and the first that stops decides.
-- Assumes nothing.
use Rattle.std.proofs.lemmas.Result.{err_from_is_err_and}
use Rattle.reader.proofs.Whole.{stops-head, head-room, stops-boards, acts-room, stops-acts, reads_all}
use Rattle.reader.proofs.read_back.Goals as goal

pub returns-in_err-counts : goal.returns-in_err-counts
returns-in_err-counts c =
    let p = err_from_is_err_and c.from_residual.result c.from_residual.ensures.1 in
    rw (p.1, p.2) (stops-head c.args.bytes.now _ c.in_err-counts.ensures)

pub boards_step-requires : goal.boards_step-requires
boards_step-requires c = head-room c.args.bytes.now c.in_ok-counts.ensures.1

pub returns-in_err-listed : goal.returns-in_err-listed
returns-in_err-listed c =
    let p = err_from_is_err_and c.from_residual-in_err-listed.result c.from_residual-in_err-listed.ensures.1 in
    rw (p.1, p.2) (stops-boards c.args.bytes.now c.in_ok-counts.ensures.1 c.in_ok-counts.counts c.in_ok-counts.ensures.0 _ c.in_err-listed.ensures)

pub acts_step-requires : goal.acts_step-requires
acts_step-requires c = acts-room c.args.bytes.now c.in_ok-counts.ensures.1 c.in_ok-counts.counts c.in_ok-counts.ensures.0 _ c.in_ok-listed.ensures

pub returns-in_err-acts_step : goal.returns-in_err-acts_step
returns-in_err-acts_step c =
    let p = err_from_is_err_and c.from_residual-in_err-acts_step.result c.from_residual-in_err-acts_step.ensures.1 in
    rw (p.1, p.2) (stops-acts c.args.bytes.now c.in_ok-counts.ensures.1 c.in_ok-counts.counts c.in_ok-counts.ensures.0 _ c.in_ok-listed.ensures _ c.in_err-acts_step.ensures)

pub returns : goal.returns
returns c = reads_all c.args.bytes.now c.in_ok-counts.ensures.1 c.in_ok-counts.counts c.in_ok-counts.ensures.0 _ c.in_ok-listed.ensures _ c.in_ok-acts_step.ensures
