-- `put_bytes`: the bytes of s before i are stored, and one more.
-- Assumes nothing.
use Rattle.std.proofs.Common.{rules}
use Rattle.puts.proofs.Puts.{sets-turn}
use Rattle.puts.proofs.put_bytes.Goals as goal

pub loop-i-preserved : goal.loop-i-preserved
loop-i-preserved c =
    (search rules, sets-turn _ c.args.s.now _ _ c.loop-i.i c.loop-i.invariant.1 c.loop-i-test.true)
