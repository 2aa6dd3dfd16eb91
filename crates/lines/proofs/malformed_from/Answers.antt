-- `malformed_from`: no numbers and no minus sign.
-- Assumes nothing.
use Rattle.lines.specs.Line.{any_negative, malformed, blank}
use Rattle.lines.proofs.malformed_from.Goals as goal

pub returns : goal.returns
unfolding any_negative malformed blank
returns c = rw c.line_end.ensures
