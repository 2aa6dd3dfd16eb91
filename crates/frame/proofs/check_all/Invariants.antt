-- `check_all`: the check of the list is that of what is left, from the register so far.
-- Assumes nothing.
use Rattle.std.proofs.Common.{◌≡◌, ◌≤◌, ◌-◌, length, drop}
use Rattle.frame.specs.Check.{check_from}
use Rattle.frame.proofs.check_all.Given as goal

abbrev pub invariant-loop-byte : goal.invariant-loop-byte
invariant-loop-byte l = check_from 0 l.bytes ≡ check_from l.r (drop l.byte-index l.bytes)
