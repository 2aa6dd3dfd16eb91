-- `check_moved`: an echo moves nothing.
-- Assumes nothing.
use Rattle.std.proofs.Common.{sym}
use Rattle.frame.proofs.Sums.{echo-check}
use Rattle.frame.proofs.check_moved.Goals as goal

pub returns-then-old-new : goal.returns-then-old-new
returns-then-old-new c = rw c.if-old-new.true (sym (echo-check c.args.check c.args.new))
