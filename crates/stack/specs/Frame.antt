-- A frame to the row, with its lent reply buffer (01, Frames and registers; Refusal numbers 1, 6, 7, 8, 2, 9, 10, 13, 11; 02, ticket 1).
-- Assumes nothing.
use Rattle.std.specs.Prelude.{ℕ, not, List, ◌∷◌, ◌++◌, length, set, drop, Result}
use Rattle.refusal.specs.declared.Refusal.{Refusal}
use Rattle.refusal.specs.Said.{Bar, bar, judged, unless_refused}
use Rattle.board.specs.declared.Board.{Board}
use Rattle.frame.specs.declared.Reply.{Reply}
use Rattle.frame.specs.Frame.{byte, board_of, writes, frame_bars}
use Rattle.frame.specs.Reply.{reply_bytes, reply_saying}
use Rattle.registers.specs.Registers.{access_bars, board_after, reply_value}
use Rattle.stack.specs.Row.{good_row, no_board, place_of, board_at}

-- whom a frame names: the board's number, its place in the row, and its record
abbrev pub frame_place : List ℕ → ℕ
frame_place bytes = place_of (board_of (byte bytes 0))

abbrev pub frame_board : List Board → List ℕ → Board
frame_board row bytes = board_at row (frame_place bytes)

-- that record after the frame, and the reply
abbrev pub board_framed : List Board → List ℕ → Board
board_framed row bytes = board_after (frame_board row bytes) (writes (byte bytes 0)) (byte bytes 1) (byte bytes 2)

abbrev pub frame_reply : List Board → List ℕ → List ℕ
frame_reply row bytes =
    reply_bytes (byte bytes 0) (byte bytes 1)
    (reply_value (board_framed row bytes) (writes (byte bytes 0)) (byte bytes 1) (byte bytes 2))

-- refusals 1, 6, 7, 8, 2, 9, 10, 13, 11 in order
abbrev pub frame_row_bars : List Board → List ℕ → List ℕ → List Bar
frame_row_bars row bytes buffer =
    bar 1 (not (good_row row))
    ∷ (frame_bars bytes (length buffer)
    ++ (bar 2 (no_board row (board_of (byte bytes 0)))
    ∷ access_bars (frame_board row bytes) (writes (byte bytes 0)) (byte bytes 1) (byte bytes 2)))

-- the answer, the row and the buffer after it
unfoldable pub frame_answer : List Board → List ℕ → List ℕ → Result Reply Refusal
frame_answer row bytes buffer = reply_saying (judged (frame_row_bars row bytes buffer) (frame_reply row bytes))

unfoldable pub frame_row : List Board → List ℕ → List ℕ → List Board
frame_row row bytes buffer = unless_refused (frame_row_bars row bytes buffer) row (set row (frame_place bytes) (board_framed row bytes))

unfoldable pub frame_buffer : List Board → List ℕ → List ℕ → List ℕ
frame_buffer row bytes buffer = unless_refused (frame_row_bars row bytes buffer) buffer (frame_reply row bytes ++ drop 4 buffer)
