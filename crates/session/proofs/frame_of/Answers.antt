-- `frame_of`, part by part.
-- Assumes nothing.
use Rattle.session.specs.LineActs.{frame_of}
use Rattle.session.proofs.frame_of.Goals as goal

pub returns : goal.returns
unfolding frame_of
returns c = rw c.bytes_of.ensures
