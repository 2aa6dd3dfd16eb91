-- `end_line`: one store behind the line.
-- Assumes nothing.
use Rattle.std.proofs.Common.{◌≡◌, ◌<◌, length, rules, arith}
use Rattle.lines.specs.Way.{line_ended}
use Rattle.lines.proofs.Keeping.{one-short, line-ends}
use Rattle.lines.proofs.Cutter.end_line.Goals as goal

pub bounds-self-len : goal.bounds-self-len
bounds-self-len c = omega (arith, c.one_len-len.ensures, one-short c.args.self.now)

pub overflow_add-self : goal.overflow_add-self
overflow_add-self c =
    let few : c.one_len-len.result < 202 = omega (arith, c.one_len-len.ensures, one-short c.args.self.now) in
    search rules

pub returns : goal.returns
unfolding line_ended
returns c =
    let long : length c.args.self.now.bytes ≡ 202 = search rules in
    line-ends _ _ (rw c.one_len-len.ensures) (omega arith)
