-- A recording checked: its boards opened by their kinds, its acts done again, and the first that was answered otherwise (02, ticket 11).
-- Assumes nothing.
use Rattle.std.specs.Prelude.{ℕ, ◌+◌, ◌*◌, min, Bool, true, false, cond, not, ◌&&◌, ◌||◌, List, [], ◌∷◌, ◌++◌, map, eqb, ℤ, length, replicate}
use Rattle.refusal.specs.Said.{Said, Bar, bar}
use Rattle.format.specs.Format.{Listed, Sent, sample, frame, reading, Noted}
use Rattle.format.specs.Read.{boards_in, acts_in, read_bars}
use Rattle.board.specs.declared.Board.{Board}
use Rattle.board.specs.declared.Readings.{Readings}
use Rattle.board.specs.Sample.{answer_said}
use Rattle.frame.specs.Reply.{reply_said}
use Rattle.stack.specs.Open.{opened}
use Rattle.stack.specs.Sample.{sample_answer, sample_row}
use Rattle.stack.specs.Frame.{frame_answer, frame_row}
use Rattle.stack.specs.Read.{view_said, reading_of}
use Rattle.reader.specs.Reader.{read_of}
use Rattle.replay.specs.declared.Checked.{Checked}

-- ---- the boards, opened by their kinds
abbrev pub plan_by : Listed → ℕ
plan_by b = 256 * b.kind + b.cells

abbrev pub plans_in : List ℕ → List ℕ
plans_in bytes = map plan_by (boards_in bytes)

-- ---- an act done on a row; each frame is taken to have had four bytes lent
abbrev pub readings_by : ℕ → ℕ → ℕ → ℤ → Readings
readings_by elapsed load thermistor shunt = record { elapsed = elapsed; shunt = shunt; thermistor = thermistor; load = load }

abbrev pub lent : List ℕ
lent = replicate 4 0

abbrev pub said_on : List Board → Sent → Said
said_on row (sample board elapsed load thermistor shunt cells) = answer_said (sample_answer row board (readings_by elapsed load thermistor shunt) cells)
said_on row (frame bytes) = reply_said (frame_answer row bytes lent)
said_on row reading = view_said (reading_of row)

abbrev pub row_on : List Board → Sent → List Board
row_on row (sample board elapsed load thermistor shunt cells) = sample_row row board (readings_by elapsed load thermistor shunt) cells
row_on row (frame bytes) = frame_row row bytes lent
row_on row reading = row

-- ---- two answers, of the same number and with the same values
abbrev pub same_list : List ℕ → List ℕ → Bool
same_list [] [] = true
same_list [] (y ∷ ys) = false
same_list (x ∷ xs) [] = false
same_list (x ∷ xs) (y ∷ ys) = eqb x y && same_list xs ys

abbrev pub same : Said → Said → Bool
same a b = eqb a.number b.number && same_list a.values b.values

abbrev pub right : List Board → Noted → Bool
right row n = same n.answer (said_on row n.sent)

-- ---- the acts done again, one after the other: the place, from 1, of the first that was answered otherwise, or 0. `done` acts stand before these
unfoldable pub wrong_after : ℕ → List Board → List Noted → ℕ
wrong_after done row [] = 0
wrong_after done row (n ∷ ns) = cond (right row n) (wrong_after (done + 1) (row_on row n.sent) ns) (done + 1)

-- and the row after that act, or after all
unfoldable pub row_after : List Board → List Noted → List Board
row_after row [] = row
row_after row (n ∷ ns) = cond (right row n) (row_after (row_on row n.sent) ns) (row_on row n.sent)

-- ---- a check: 17, 18 and 19 anywhere come before any judging; then 1, where the row has not a record for each board
abbrev pub row_unfit : List Board → List ℕ → Bool
row_unfit row bytes = not (eqb (length row) (length (boards_in bytes)))

abbrev pub check_bars : List Board → List ℕ → List Bar
check_bars row bytes = read_bars bytes ++ (bar 1 (row_unfit row bytes) ∷ [])

abbrev pub checked : ℕ → ℕ → Checked
checked place number = record { place = place; number = number }

-- at 17, 18 and 19 the byte is told, held at 4,294,967,295; at 1 how many records there must be
unfoldable pub check_of : List Board → List ℕ → Checked
check_of row bytes =
    let r = read_of bytes in
    cond (not (eqb r.number 0)) (checked (min r.at 4294967295) r.number)
    (cond (row_unfit row bytes) (checked (length (boards_in bytes)) 1)
    (checked (wrong_after 0 (opened (plans_in bytes)) (acts_in bytes)) 0))

unfoldable pub check_row : List Board → List ℕ → List Board
check_row row bytes =
    cond (not (eqb (read_of bytes).number 0) || row_unfit row bytes) row (row_after (opened (plans_in bytes)) (acts_in bytes))
