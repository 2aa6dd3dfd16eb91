-- `all_good`: the records before the next are good, so the row is good where the rest is.
-- Assumes nothing.
use Rattle.std.proofs.Common.{◌≡◌, ◌<◌, ◌+◌, ◌∙◌, ℕ, List, length, get_or, drop, sym, arith, true, false, not}
use Rattle.board.specs.declared.Board.{Board}
use Rattle.board.specs.Sample.{bad_board}
use Rattle.lists.proofs.Every.{every-turn, every-done}
use Rattle.stack.specs.Way.{all_good}
use Rattle.stack.proofs.all_good.Goals as goal

turn-bad : (row : List Board) (i : ℕ) (d : Board) → all_good row ≡ all_good (drop i row) → i < length row → bad_board (get_or row i d) ≡ true → false ≡ all_good row
turn-bad row i d e l bad = sym (every-turn (λ b. not (bad_board b)) row i d true e l ∙ rw bad)

turn-good : (row : List Board) (i : ℕ) (d : Board) → all_good row ≡ all_good (drop i row) → i < length row → bad_board (get_or row i d) ≡ false → all_good row ≡ all_good (drop (i + 1) row)
turn-good row i d e l good = every-turn (λ b. not (bad_board b)) row i d true e l ∙ rw good

pub returns-then-bad_board : goal.returns-then-bad_board
returns-then-bad_board c = turn-bad c.args.row.now c.loop-b.b-index _ c.loop-b.invariant c.loop-b-test.true (sym c.bad_board.ensures ∙ c.if-bad_board.true)

pub loop-b-preserved : goal.loop-b-preserved
loop-b-preserved c = turn-good c.args.row.now c.loop-b.b-index _ c.loop-b.invariant c.loop-b-test.true (sym c.bad_board.ensures ∙ c.if-bad_board.false)

pub returns : goal.returns
returns c = every-done (λ b. not (bad_board b)) c.args.row.now c.loop-b.b-index true c.loop-b.invariant (omega arith)
