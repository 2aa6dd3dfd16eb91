-- `digits_from`: what is read from the start is what the sum so far and the digits from next on come to.
-- Assumes nothing.
use Rattle.std.proofs.Common.{◌≡◌, ◌≤◌, ◌-◌, length}
use Rattle.lines.specs.Way.{rest_at, digits_from}
use Rattle.lines.proofs.digits_from.Given as goal

abbrev pub invariant-loop-at : goal.invariant-loop-at
invariant-loop-at l =
    (l.sum ≤ l.largest) × (digits_from l.largest l.minus l.at l.v (rest_at l.s l.at) ≡ digits_from l.largest l.minus l.next l.sum (rest_at l.s l.next))

abbrev pub decreases-loop-at : goal.decreases-loop-at
decreases-loop-at l = length l.s - l.next
