-- `Cutter::new`: it keeps nothing.
-- Assumes nothing.
use Rattle.std.proofs.Common.{refl}
use Rattle.lines.specs.Way.{nothing}
use Rattle.lines.proofs.Cutter.new.Goals as goal

pub returns : goal.returns
unfolding nothing
returns c = refl
