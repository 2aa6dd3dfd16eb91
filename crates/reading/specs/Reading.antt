-- The whole-stack reading of a row of boards, southernmost first (01, Whole-stack reading; 02, ticket 3).
-- Assumes nothing.
use Rattle.std.specs.Prelude.{ℕ, ◌+◌, Bool, false, cond, ◌||◌, List, [], ◌∷◌, eqb}
use Rattle.lists.specs.Every.{every}
use Rattle.lists.specs.Marks.{bit, marks, lowest}
use Rattle.board.specs.declared.Board.{Board}
use Rattle.board.specs.Host.{may_dsg, may_chg}
use Rattle.latches.specs.Latches.{latches_of, any_latch}
use Rattle.latches.specs.Latches as boards
use Rattle.reading.specs.declared.Summary.{Summary}
use Rattle.reading.specs.declared.Place.{Place}
use Rattle.reading.specs.declared.Whole.{Whole}

-- what the reading takes from a board's record
unfoldable pub summary_of : Board → Summary
summary_of b =
    record {
      latched = any_latch (latches_of b.latches);
      chg = boards.chg_on (may_chg b.kind b.control) (latches_of b.latches);
      dsg = boards.dsg_on (may_dsg b.kind b.control) (latches_of b.latches);
      count = b.count;
      flags = b.flags;
    }

-- a board's fault line is up if it has a latch or the line from the next board north is up
unfoldable pub line_up : List Summary → Bool
line_up [] = false
line_up (board ∷ north) = board.latched || line_up north

abbrev pub chg_on : Summary → Bool
chg_on board = board.chg

abbrev pub dsg_on : Summary → Bool
dsg_on board = board.dsg

-- the lowest flagged cell of a board, or 0
abbrev pub lowest_flagged : Summary → ℕ
lowest_flagged board = lowest 1 (marks board.count board.flags)

abbrev pub place : ℕ → ℕ → Place
place board cell = record { board = board; cell = cell }

-- the southernmost board with a flagged cell and the lowest such cell on it, or 0 and 0; the row's first board is board k
unfoldable pub first_flagged : ℕ → List Summary → Place
first_flagged k [] = place 0 0
first_flagged k (board ∷ north) = cond (eqb (lowest_flagged board) 0) (first_flagged (k + 1) north) (place k (lowest_flagged board))

-- board 1's line; pack CHG and pack DSG, on exactly if on at every board; and the flagged cell
unfoldable pub read_of : List Summary → Whole
read_of boards =
    record { line = line_up boards; chg = every chg_on boards; dsg = every dsg_on boards; flagged = first_flagged 1 boards }

-- the answer's values in the paper's order: line, pack CHG, pack DSG, board, cell
abbrev pub whole_said : Whole → List ℕ
whole_said w = bit w.line ∷ bit w.chg ∷ bit w.dsg ∷ w.flagged.board ∷ w.flagged.cell ∷ []
