-- `bytes_of`: the first places, one by one.
-- Assumes nothing.
use Rattle.std.proofs.Common.{◌≡◌, ◌%◌, take, map}
use Rattle.lists.proofs.Fill.{filled}
use Rattle.session.proofs.bytes_of.Given as goal

abbrev pub invariant-loop-i : goal.invariant-loop-i
invariant-loop-i l = l.byte-items ≡ filled 0 16 (map (λ n. n % 256) (take 16 l.numbers)) l.i
