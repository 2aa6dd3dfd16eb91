use Rattle.std.proofs.Common.{◌≡◌, ◌∙◌, length, sym, ap, arith}
use Rattle.board.specs.Sample.{fresh}
use Rattle.reading.specs.Way.{none_up}
use Rattle.reading.proofs.Along.{latched-here, latched-on, lines-end}
use Rattle.reading.proofs.line_row.Goals as goal

pub returns-then-has_latch : goal.returns-then-has_latch
returns-then-has_latch c =
    c.up_at.ensures ∙ latched-here _ c.args.row.now c.loop-i.i c.loop-i-test.true (sym c.has_latch.ensures ∙ c.if-has_latch.true) ∙ c.loop-i.invariant

pub loop-i-preserved : goal.loop-i-preserved
loop-i-preserved c =
    latched-on _ c.args.row.now c.loop-i.i c.loop-i-test.true (sym c.has_latch.ensures ∙ c.if-has_latch.false) ∙ c.loop-i.invariant

pub returns : goal.returns
returns c =
    let all : length c.args.row.now ≡ c.loop-i.i = omega arith in
    c.none_up.ensures ∙ ap none_up all ∙ lines-end (fresh 0) c.args.row.now c.loop-i.i (omega arith) ∙ c.loop-i.invariant
