-- `number`: the digits of the places so far are written.
-- Assumes nothing.
use Rattle.std.proofs.Common.{◌≡◌, ◌++◌, ◌+◌, ◌≤◌, length, take}
use Rattle.text.proofs.Decimal.{reached}
use Rattle.text.proofs.Written.number.Given as goal

abbrev pub invariant-loop-place : goal.invariant-loop-place
invariant-loop-place l =
    (l.self ≡ l.fn.self ++ reached l.n (take l.place-index l.place-items)) × (length l.self ≤ length l.fn.self + l.place-index)
