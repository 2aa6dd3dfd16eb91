use Rattle.std.proofs.Common.{rules}
use Rattle.latches.proofs.Packed.{bool-bit, register0-sum}
use Rattle.latches.proofs.Masks.{masks-right}
use Rattle.latches.proofs.status_of.Goals as goal

pub returns : goal.returns
returns c = rw (register0-sum, c.from-2.ensures, c.chg_on.ensures, c.from.ensures, c.dsg_on.ensures, (masks-right c.args.byte (search rules)).3) (simp bool-bit)
