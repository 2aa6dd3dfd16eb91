use Rattle.std.proofs.Common.{◌∙◌, ap}
use Rattle.adomvik.specs.Placed.{number_in}
use Rattle.adomvik.proofs.Laws.{number-is}
use Rattle.frame.specs.Reply.{bytes_of}
use Rattle.stack.specs.Frame.{frame_answer}
use Rattle.adomvik.specs.Calls.{frame_number}
use Rattle.adomvik.proofs.adomvik_frame.Goals as goal

pub returns : goal.returns
unfolding frame_number
returns c =
    let a = c.args in
    let is = c.frame_stack.ensures in
    (c.number.ensures ∙ ap number_in is.0 ∙ number-is bytes_of (frame_answer a.row.now a.bytes.now a.reply.now), is.1)
