use Rattle.std.proofs.Common.{rules}
use Rattle.latches.proofs.Masks.{masks-right}
use Rattle.latches.proofs.dsg_on.Goals as goal

pub returns : goal.returns
returns c = rw (masks-right c.args.byte (search rules)).2
