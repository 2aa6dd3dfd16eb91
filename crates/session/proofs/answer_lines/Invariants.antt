-- `answer_lines`: the lines up to a place are answered.
-- Assumes nothing.
use Rattle.std.proofs.Common.{◌≡◌, ◌-◌, length}
use Rattle.session.specs.Way.{Sofar}
use Rattle.session.proofs.answer_lines.Given as goal

abbrev pub invariant-loop-out : goal.invariant-loop-out
invariant-loop-out l = (length l.out ≡ length l.fn.out) × Sofar l.fn.stack l.block l.from l.fn.out l.out l.stack l.fed

abbrev pub decreases-loop-out : goal.decreases-loop-out
decreases-loop-out l = length l.block - l.fed.used
