-- `line_at`: the line is what the numbers stored so far and the words behind at come to, and at is still in the line.
-- Assumes nothing.
use Rattle.std.proofs.Common.{◌≡◌, ◌≤◌, ◌-◌, length}
use Rattle.lines.specs.Line.{words, words_say}
use Rattle.lines.specs.Way.{rest_at, end_at}
use Rattle.lines.proofs.Pieces.{behind}
use Rattle.lines.proofs.Fields.{line_from}
use Rattle.lines.proofs.line_at.Given as goal

abbrev pub invariant-loop-rules : goal.invariant-loop-rules
invariant-loop-rules l =
    (l.rules.most ≤ 100) × (9 ≤ l.rules.largest) × (l.n ≤ l.rules.most) × (l.start ≤ l.at) × (end_at l.s l.at ≡ end_at l.s l.start)
    × (words_say (words (rest_at l.s l.start)) ≡ line_from l.rules l.kind l.minus l.n l.numbers (behind 32 (rest_at l.s l.at))) × (length l.numbers ≡ 21)

abbrev pub decreases-loop-rules : goal.decreases-loop-rules
decreases-loop-rules l = length l.s - l.at
