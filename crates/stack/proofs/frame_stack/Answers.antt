use Rattle.std.proofs.Common.{◌∙◌, sym, ap, Err}
use Rattle.std.proofs.lemmas.Result.{err_from_is_err_and}
use Rattle.std.proofs.Common.{length}
use Rattle.frame.proofs.Laws.{room_for}
use Rattle.frame.specs.Way.{reply_of, buffer_with}
use Rattle.stack.specs.Way.{frame_answer_in, frame_row_in, frame_buffer_in}
use Rattle.stack.proofs.Ways.{checked-good, row-refused, frame-good, frame-bad}
use Rattle.stack.proofs.frame_stack.Goals as goal

pub returns-in_err-check_row : goal.returns-in_err-check_row
returns-in_err-check_row c =
    let a = c.args in
    let bad = row-refused a.row.now _ _ (sym c.check_row.ensures ∙ c.in_err-check_row.was) c.from_residual.ensures.1 in
    let told = frame-bad a.row.now a.bytes.now a.reply.now bad.0 in
    (bad.1 ∙ told.0, told.1)

-- what the frame itself decides
pub returns-in_err-taken : goal.returns-in_err-taken
unfolding frame_answer_in frame_row_in frame_buffer_in
returns-in_err-taken c =
    let a = c.args in
    let p = err_from_is_err_and c.from_residual-in_err-taken.result c.from_residual-in_err-taken.ensures.1 in
    let told = frame-good a.row.now a.bytes.now a.reply.now (checked-good a.row.now (sym c.check_row.ensures ∙ c.in_ok-check_row.was)) in
    let came = rw (sym c.take_apart.ensures ∙ c.in_err-taken.was) at told in
    (p.1 ∙ ap Err p.2 ∙ came.0, came.1)

-- where it was not refused there is room for the reply
pub put-requires : goal.put-requires
put-requires c = room_for c.args.bytes.now (length c.args.reply.now) _ (sym c.take_apart.ensures ∙ c.in_ok-taken.was)

pub returns : goal.returns
unfolding frame_answer_in frame_row_in frame_buffer_in
returns c =
    let a = c.args in
    let told = frame-good a.row.now a.bytes.now a.reply.now (checked-good a.row.now (sym c.check_row.ensures ∙ c.in_ok-check_row.was)) in
    let came = rw (sym c.take_apart.ensures ∙ c.in_ok-taken.was) at told in
    let reply = ap (reply_of c.in_ok-taken.taken) c.obey-outcome.ensures.0 in
    (c.put.ensures.0 ∙ reply ∙ came.0, (c.obey-outcome.ensures.1 ∙ came.1.0, c.put.ensures.1 ∙ ap (buffer_with a.reply.now) reply ∙ came.1.1))
