-- `enter`: cause by cause, the new entry where the next goes.
-- Assumes nothing.
use Rattle.std.proofs.Common.{◌≡◌, ◌-◌, get_or}
use Rattle.lists.specs.Marks.{marked}
use Rattle.journal.specs.Ring.{entered_all, noted}
use Rattle.journal.proofs.Laws.{Sound}
use Rattle.journal.proofs.Journal.enter.Given as goal

abbrev pub invariant-loop-cause : goal.invariant-loop-cause
invariant-loop-cause l =
    Sound l.self × (entered_all l.self (noted (marked l.causes) (λ k. get_or l.fn.cells k 0) l.number l.cause (5 - l.cause)) ≡ entered_all l.fn.self (noted (marked l.causes) (λ k. get_or l.fn.cells k 0) l.number 0 5))
