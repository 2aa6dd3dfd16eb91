-- `put_listing`: from the newest entry down, three words each.
-- Assumes nothing.
use Rattle.std.proofs.Common.{◌≡◌}
use Rattle.journal.specs.Ring.{listing}
use Rattle.journal.proofs.Laws.{put-down}
use Rattle.journal.proofs.Journal.put_listing.Given as goal

abbrev pub invariant-loop-k : goal.invariant-loop-k
invariant-loop-k l = l.out ≡ put-down (listing l.self) l.fn.out l.k
