-- The boards one by one, sixteen at most.
-- Assumes nothing.
use Rattle.std.proofs.Common.{◌≡◌, min, drop, map}
use Rattle.lists.proofs.Fill.{filled}
use Rattle.format.specs.Read.{boards_from}
use Rattle.replay.specs.Check.{plan_by}
use Rattle.replay.proofs.plans_at.Given as goal

abbrev pub invariant-loop-i : goal.invariant-loop-i
invariant-loop-i l = l.plan-items ≡ filled 0 (min l.n 16) (map plan_by (boards_from l.n (drop 8 l.bytes))) l.i
