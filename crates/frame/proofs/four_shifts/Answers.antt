-- `four_shifts`: the test of a table's rule passes at every entry.
-- Assumes nothing.
use Rattle.std.proofs.Common.{refl}
use Rattle.lists.proofs.Below.{right-below}
use Rattle.frame.specs.Check.{shifted}
use Rattle.frame.proofs.Halves.{entry-right, four-shifts}
use Rattle.frame.proofs.four_shifts.Goals as goal

pub returns : goal.returns
unfolding right-below entry-right shifted
returns c = four-shifts _ refl
