-- All bytes of the body are the frame's.
-- Assumes nothing.
use Rattle.std.proofs.Common.{sym}
use Rattle.replay.proofs.Bodies.{frame-whole}
use Rattle.replay.proofs.frame_in.Goals as goal

pub returns : goal.returns
returns c = rw (c.bytes_in.ensures) (sym (frame-whole c.args.body.now))
