-- `keep`: as much of s as there is room for.
-- Assumes nothing.
use Rattle.std.proofs.Common.{◌≡◌, length, rules, arith}
use Rattle.lines.proofs.Keeping.{kept-none, kept-some}
use Rattle.lines.proofs.Cutter.keep.Goals as goal

pub returns-then-self-lt201 : goal.returns-then-self-lt201
returns-then-self-lt201 c =
    let long : length c.args.self.now.bytes ≡ 202 = search rules in
    kept-some _ _ (omega arith) _ _ c.if-self-lt201.true c.min-more.ensures c.copy_from_slice.ensures.after

pub returns-else-self-lt201 : goal.returns-else-self-lt201
returns-else-self-lt201 c =
    let long : length c.args.self.now.bytes ≡ 202 = search rules in
    kept-none _ _ (omega arith) c.if-self-lt201.false
