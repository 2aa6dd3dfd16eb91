-- `listed`: as many as are held.
-- Assumes nothing.
use Rattle.std.proofs.Common.{arith}
use Rattle.journal.proofs.Laws.{listing-length}
use Rattle.journal.proofs.Journal.listed.Goals as goal

pub returns : goal.returns
returns c = omega (arith, c.from.ensures, c.min.ensures, listing-length c.args.self.now)
