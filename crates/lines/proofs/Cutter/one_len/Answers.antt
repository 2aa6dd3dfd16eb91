-- `one_len`: all that is kept, or nothing where a newline is found in it.
-- Assumes nothing.
use Rattle.std.proofs.Common.{◌≡◌, ◌+◌, length, arith, rules, ◌≤◌}
use borrow.Author.Tests.{lt-ltb, le-ltb}
use Rattle.lines.specs.Lines.{up_to}
use Rattle.lines.specs.Way.{held, one_line}
use Rattle.lines.proofs.Keeping.{held-few, held-take}
use Rattle.lines.proofs.Cutter.one_len.Goals as goal

pub shared_ref_as_front-line_end : goal.shared_ref_as_front-line_end
shared_ref_as_front-line_end c =
    let long : length c.args.self.now.bytes ≡ 202 = search rules in
    let few : c.kept_len-len.result ≤ length c.args.self.now.bytes = held-few _ _ c.kept_len-len.ensures in
    omega arith

pub returns-then-line_end-len : goal.returns-then-line_end-len
unfolding one_line
returns-then-line_end-len c =
    let cutter = c.args.self.now in
    let end : c.line_end.result ≡ 0 + length (up_to (held cutter)) = rw (held-take cutter _ c.kept_len-len.ensures) at c.line_end.ensures in
    rw (lt-ltb (length (up_to (held cutter))) (length (held cutter)) (omega (arith, end, c.if-line_end-len.true, c.kept_len-len.ensures)))

pub returns-else-line_end-len : goal.returns-else-line_end-len
unfolding one_line
returns-else-line_end-len c =
    let cutter = c.args.self.now in
    let end : c.line_end.result ≡ 0 + length (up_to (held cutter)) = rw (held-take cutter _ c.kept_len-len.ensures) at c.line_end.ensures in
    rw (le-ltb (length (up_to (held cutter))) (length (held cutter)) (omega (arith, end, c.if-line_end-len.false, c.kept_len-len.ensures))) c.kept_len-len.ensures
