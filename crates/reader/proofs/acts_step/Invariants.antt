-- `acts_step`: act by act, until one is refused.
-- Assumes nothing.
use Rattle.std.proofs.Common.{◌≡◌, ◌-◌, ◌≤◌, length, drop}
use Rattle.reader.specs.Reader.{acts_step}
use Rattle.reader.proofs.acts_step.Given as goal

abbrev pub invariant-loop : goal.invariant-loop
invariant-loop l = (l.at ≤ length l.bytes) × (acts_step (l.acts - l.counter) l.at (drop l.at l.bytes) ≡ acts_step l.acts l.from (drop l.from l.bytes))
