-- The row of board records: which row is good, and the board of a number (01, The stack and its readings; Refusal numbers 1, 2; 02, ticket 3).
-- Assumes nothing.
use Rattle.std.specs.Prelude.{ℕ, ◌-◌, Bool, cond, not, ◌&&◌, List, eqb, length, get_or}
use Rattle.lists.specs.Every.{every}
use Rattle.board.specs.declared.Board.{Board}
use Rattle.lists.specs.Compare.{outside}
use Rattle.board.specs.Sample.{fresh, bad_board}

-- a number of boards that no row has
abbrev pub bad_count : ℕ → Bool
bad_count n = outside 1 16 n

-- 1 to 16 boards, each of a kind that there is and with 5 to 10 cells
unfoldable pub good_row : List Board → Bool
good_row row = not (bad_count (length row)) && every (λ b. not (bad_board b)) row

-- boards are numbered from 1, the southernmost, upward: no board of that number
abbrev pub no_board : List Board → ℕ → Bool
no_board row n = outside 1 (length row) n

-- the place of a board in the row, counted from 0; board 0 has one past every good row
abbrev pub past_end : ℕ
past_end = 4294967295

abbrev pub place_of : ℕ → ℕ
place_of n = cond (eqb n 0) past_end (n - 1)

abbrev pub board_at : List Board → ℕ → Board
board_at row at = get_or row at (fresh 0)
