-- On the way to an act on a row: by the record at its place, by the frame taken apart. That these come to the
-- acts is shown in proofs/Fills.antt and proofs/Ways.antt; nobody need believe them.
-- Assumes nothing.
use Rattle.std.specs.Prelude.{ℕ, ◌*◌, Bool, cond, not, List, ltb, length, set, Result, Ok, Err}
use Rattle.refusal.specs.declared.Refusal.{Refusal}
use Rattle.refusal.specs.Refusals.{numbered}
use Rattle.lists.specs.Every.{every}
use Rattle.journal.specs.Ring as journal
use Rattle.journal.specs.Ring.{Entry, words_over}
use Rattle.board.specs.declared.Board.{Board}
use Rattle.board.specs.declared.Readings.{Readings}
use Rattle.board.specs.declared.Sampled.{Sampled}
use Rattle.board.specs.Sample.{bad_board, sample_of}
use Rattle.frame.specs.declared.Taken.{Taken}
use Rattle.frame.specs.declared.Request.{Request}
use Rattle.frame.specs.declared.Reply.{Reply}
use Rattle.frame.specs.Frame.{board_of}
use Rattle.frame.specs.Way.{taken_apart, reply_of, buffer_with}
use Rattle.registers.specs.Registers.{obeyed_of}
use Rattle.stack.specs.Row.{good_row, place_of, board_at}

-- ---- no record of a row is bad
abbrev pub all_good : List Board → Bool
all_good row = every (λ b. not (bad_board b)) row

-- a bad row is refused, and a number that no board of it has
abbrev pub row_checked : List Board → Result (Unit {0}) Refusal
row_checked row = cond (good_row row) (Ok tt) (Err (numbered 1))

abbrev pub place_in : List Board → ℕ → Result ℕ Refusal
place_in row n = cond (ltb (place_of n) (length row)) (Ok (place_of n)) (Err (numbered 2))

-- ---- counts that are their plans as they stand
abbrev pub plain_counts : List ℕ → Bool
plain_counts counts = every (λ count. ltb count 256) counts

-- ---- by the record at its place, in a row that was found good
unfoldable pub sample_answer_at : List Board → ℕ → Readings → List ℕ → Result Sampled Refusal
sample_answer_at row n x mv = cond (ltb (place_of n) (length row)) (sample_of (board_at row (place_of n)) x mv).answer (Err (numbered 2))

unfoldable pub sample_row_at : List Board → ℕ → Readings → List ℕ → List Board
sample_row_at row n x mv = cond (ltb (place_of n) (length row)) (set row (place_of n) (sample_of (board_at row (place_of n)) x mv).board) row

-- ---- by the frame taken apart, in a row that was found good
abbrev pub asked_place : Request → ℕ
asked_place asked = place_of (board_of asked.address)

unfoldable pub obey_outcome_at : List Board → Request → Result ℕ Refusal
obey_outcome_at row asked =
    let at = asked_place asked in
    cond (ltb at (length row)) (obeyed_of (board_at row at) asked).outcome (Err (numbered 2))

unfoldable pub obey_row_at : List Board → Request → List Board
obey_row_at row asked =
    let at = asked_place asked in
    cond (ltb at (length row)) (set row at (obeyed_of (board_at row at) asked).board) row

-- a frame that was refused as it stands is answered so; any other goes to its board
abbrev pub taken_answer : List Board → Result Taken Refusal → Result Reply Refusal
taken_answer row (Ok t) = reply_of t (obey_outcome_at row t.request)
taken_answer row (Err why) = Err why

abbrev pub taken_row : List Board → Result Taken Refusal → List Board
taken_row row (Ok t) = obey_row_at row t.request
taken_row row (Err why) = row

unfoldable pub frame_answer_in : List Board → List ℕ → List ℕ → Result Reply Refusal
frame_answer_in row bytes buffer = taken_answer row (taken_apart bytes (length buffer))

unfoldable pub frame_row_in : List Board → List ℕ → List ℕ → List Board
frame_row_in row bytes buffer = taken_row row (taken_apart bytes (length buffer))

unfoldable pub frame_buffer_in : List Board → List ℕ → List ℕ → List ℕ
frame_buffer_in row bytes buffer = buffer_with buffer (taken_answer row (taken_apart bytes (length buffer)))

-- ---- a listing, by the record at its place; there is room for so many entries exactly if there are three words for each (the law room_by)
abbrev pub entries_in : Board → List Entry
entries_in b = journal.listing b.journal

abbrev pub too_long : Board → List ℕ → Bool
too_long b buffer = ltb (length buffer) (3 * length (entries_in b))

unfoldable pub listing_in : Board → List ℕ → Result ℕ Refusal
listing_in b buffer = cond (too_long b buffer) (Err (numbered 14)) (Ok (length (entries_in b)))

unfoldable pub buffer_in : Board → List ℕ → List ℕ
buffer_in b buffer = cond (too_long b buffer) buffer (words_over (entries_in b) buffer)

unfoldable pub list_answer_at : List Board → ℕ → List ℕ → Result ℕ Refusal
list_answer_at row n buffer = cond (ltb (place_of n) (length row)) (listing_in (board_at row (place_of n)) buffer) (Err (numbered 2))

unfoldable pub list_buffer_at : List Board → ℕ → List ℕ → List ℕ
list_buffer_at row n buffer = cond (ltb (place_of n) (length row)) (buffer_in (board_at row (place_of n)) buffer) buffer
