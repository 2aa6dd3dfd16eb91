use Rattle.std.proofs.Common.{◌∙◌, sym, arith}
use Rattle.board.specs.Sample.{fresh}
use Rattle.reading.proofs.Along.{board-on, boards-end, flag-here, flag-on, flags-end}
use Rattle.reading.proofs.first_flagged.Goals as goal

pub loop-j-init : goal.loop-j-init
loop-j-init c = (c.boards.invariant.0, board-on _ c.args.row.now c.boards.i c.boards-test.true ∙ c.boards.invariant.1)

pub loop-j-preserved : goal.loop-j-preserved
loop-j-preserved c = (c.loop-j.invariant.0, flag-on _ c.boards.i c.loop-j.j _ _ c.loop-j-test.true (sym c.mark_at.ensures ∙ c.if-mark_at.false) ∙ c.loop-j.invariant.1)

pub boards-preserved : goal.boards-preserved
boards-preserved c = (c.loop-j.invariant.0, flags-end _ c.boards.i c.loop-j.j _ _ c.loop-j-test.false ∙ c.loop-j.invariant.1)

pub returns-then-mark_at : goal.returns-then-mark_at
returns-then-mark_at c = c.place_at-place.ensures ∙ flag-here _ c.boards.i c.loop-j.j _ _ c.loop-j-test.true (sym c.mark_at.ensures ∙ c.if-mark_at.true) ∙ c.loop-j.invariant.1

pub returns-after-boards : goal.returns-after-boards
returns-after-boards c = c.boards.invariant.0 ∙ boards-end (fresh 0) c.args.row.now c.boards.i (omega arith) ∙ c.boards.invariant.1
