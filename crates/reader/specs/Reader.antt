-- Where the reading of a recording stops: at the first of its tests that holds, or at its end (02, ticket 11).
-- Assumes nothing.
use Rattle.std.specs.Prelude.{ℕ, ◌+◌, ◌*◌, cond, List, [], ◌∷◌, eqb, length}
use Rattle.format.specs.Read.{board_count, act_count, act_long, Test, head_tests, board_tests, act_tests, boards_tests, acts_tests, read_tests}

-- where reading is: number 0, and the byte where it goes on; or the number of a refusal, and the byte that it is told at
pub record Step : Type 0 where
  pub at : ℕ
  pub number : ℕ

-- a recording as a whole: the number of a refusal or 0, the byte where reading stopped, how many boards and how many acts it has
pub record Read : Type 0 where
  pub at : ℕ
  pub boards : ℕ
  pub acts : ℕ
  pub number : ℕ

abbrev pub stop : ℕ → ℕ → Step
stop number at = record { at = at; number = number }

-- the number and the byte of the first test that holds; where none does, reading goes on at `next`
abbrev pub stop_of : List Test → ℕ → Step
stop_of [] next = stop 0 next
stop_of (t ∷ ts) next = cond t.when (stop t.number t.at) (stop_of ts next)

-- a refused recording tells nothing of its boards and acts
abbrev pub refused_read : Step → Read
refused_read s = record { at = s.at; boards = 0; acts = 0; number = s.number }

unfoldable pub read_of : List ℕ → Read
read_of bytes =
    let s = stop_of (read_tests bytes) (length bytes) in
    cond (eqb s.number 0) (record { at = length bytes; boards = board_count bytes; acts = act_count bytes; number = 0 }) (refused_read s)

-- ---- its parts: the header; a board and an act from a byte on; so many boards, and so many acts with nothing behind them
unfoldable pub head_stop : List ℕ → Step
head_stop bytes = stop_of (head_tests bytes) 8

unfoldable pub board_step : ℕ → List ℕ → Step
board_step at rest = stop_of (board_tests at rest) (at + 2)

unfoldable pub act_step : ℕ → List ℕ → Step
act_step at rest = stop_of (act_tests at rest) (at + act_long rest)

unfoldable pub boards_step : ℕ → ℕ → List ℕ → Step
boards_step boards at rest = stop_of (boards_tests boards at rest) (at + 2 * boards)

unfoldable pub acts_step : ℕ → ℕ → List ℕ → Step
acts_step acts at rest = stop_of (acts_tests acts at rest) (at + length rest)
