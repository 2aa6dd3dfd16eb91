-- A sample of one board of the row (01, The stack and its readings; Refusal numbers 1, 2, 3, 4, 5).
-- Assumes nothing.
use Rattle.std.specs.Prelude.{ℕ, not, List, ◌∷◌, set, Result}
use Rattle.refusal.specs.declared.Refusal.{Refusal}
use Rattle.refusal.specs.Said.{Bar, bar, judged, unless_refused}
use Rattle.board.specs.declared.Board.{Board}
use Rattle.board.specs.declared.Readings.{Readings}
use Rattle.board.specs.declared.Sampled.{Sampled}
use Rattle.board.specs.Sample.{reading_bars, board_next, sample_values, answer_saying}
use Rattle.stack.specs.Row.{good_row, no_board, place_of, board_at}

-- refusals 1, 2, 3, 4, 5 in order
abbrev pub sample_row_bars : List Board → ℕ → Readings → List ℕ → List Bar
sample_row_bars row n x mv = bar 1 (not (good_row row)) ∷ bar 2 (no_board row n) ∷ reading_bars (board_at row (place_of n)) x mv

-- the answer, and the row after it: only the record of that board changes
unfoldable pub sample_answer : List Board → ℕ → Readings → List ℕ → Result Sampled Refusal
sample_answer row n x mv = answer_saying (judged (sample_row_bars row n x mv) (sample_values (board_at row (place_of n)) x mv))

unfoldable pub sample_row : List Board → ℕ → Readings → List ℕ → List Board
sample_row row n x mv = unless_refused (sample_row_bars row n x mv) row (set row (place_of n) (board_next (board_at row (place_of n)) x mv))
