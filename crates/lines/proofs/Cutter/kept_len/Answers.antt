-- `kept_len`: the length, or 201.
-- Assumes nothing.
use Rattle.std.proofs.Common.{◌≡◌, length, rules, arith}
use lib.ListN.{length-take}
use Rattle.lines.specs.Way.{held}
use Rattle.lines.proofs.Cutter.kept_len.Goals as goal

pub returns : goal.returns
unfolding held
returns c =
    let long : length c.args.self.now.bytes ≡ 202 = search rules in
    rw length-take (omega (arith, c.min.ensures))
