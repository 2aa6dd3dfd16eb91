-- What the acts that are left come to is what all of them come to.
-- Assumes nothing.
use Rattle.std.proofs.Common.{◌≡◌, ◌-◌, ◌≤◌, length, drop}
use Rattle.format.specs.Read.{acts_from}
use Rattle.reader.specs.Reader.{acts_step}
use Rattle.replay.specs.Check.{wrong_after, row_after}
use Rattle.replay.proofs.first_wrong.Given as goal

abbrev pub invariant-loop-done : goal.invariant-loop-done
invariant-loop-done l =
    (l.at ≤ length l.bytes) × ((acts_step (l.acts - l.done) l.at (drop l.at l.bytes)).number ≡ 0)
    × (wrong_after l.done l.row (acts_from (l.acts - l.done) (drop l.at l.bytes)) ≡ wrong_after 0 l.initial.row (acts_from l.acts (drop l.from l.bytes)))
    × (row_after l.row (acts_from (l.acts - l.done) (drop l.at l.bytes)) ≡ row_after l.initial.row (acts_from l.acts (drop l.from l.bytes)))
