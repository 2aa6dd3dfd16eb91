use Rattle.std.proofs.Common.{◌≡◌, ◌+◌, ◌*◌, ℕ}
use Rattle.puts.specs.Put.{Put}
use Rattle.format.specs.Format.{board_bytes}
use Rattle.recorder.specs.Recorder.{listed_of}
use Rattle.recorder.proofs.Pieces.{before}
use Rattle.recorder.proofs.put_boards.Given as goal

abbrev pub invariant-loop-plan : goal.invariant-loop-plan
invariant-loop-plan l =
    (l.next ≡ l.at + 2 * l.plan-index)
    × Put l.at (before (λ (plan : ℕ). board_bytes (listed_of plan)) l.plans l.plan-index) l.initial.memory l.memory l.next
