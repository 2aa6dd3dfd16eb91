-- `clear`: it keeps nothing.
-- Assumes nothing.
use Rattle.std.proofs.Common.{refl}
use Rattle.lines.specs.Way.{emptied_of}
use Rattle.lines.proofs.Cutter.clear.Goals as goal

pub returns : goal.returns
unfolding emptied_of
returns c = refl
