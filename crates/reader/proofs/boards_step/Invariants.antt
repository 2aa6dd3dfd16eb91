-- `boards_step`: board by board, until one is refused.
-- Assumes nothing.
use Rattle.std.proofs.Common.{◌≡◌, ◌-◌, ◌≤◌, length, drop}
use Rattle.reader.specs.Reader.{boards_step}
use Rattle.reader.proofs.boards_step.Given as goal

abbrev pub invariant-loop : goal.invariant-loop
invariant-loop l = (l.at ≤ length l.bytes) × (boards_step (l.boards - l.counter) l.at (drop l.at l.bytes) ≡ boards_step l.boards 8 (drop 8 l.bytes))
