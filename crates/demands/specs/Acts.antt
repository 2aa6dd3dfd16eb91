-- The acts on a row of boards, and what the library does at each, by the definitions that its contracts cite (01, The stack and its readings).
-- Assumes nothing.
use Rattle.std.specs.Prelude.{ℕ, List, [], ◌∷◌, length, replicate}
use Rattle.refusal.specs.Said.{Said, Bar}
use Rattle.board.specs.declared.Board.{Board}
use Rattle.board.specs.declared.Readings.{Readings}
use Rattle.board.specs.Sample.{fresh, answer_said}
use Rattle.frame.specs.Reply.{reply_said}
use Rattle.stack.specs.Open.{open_row}
use Rattle.stack.specs.Sample.{sample_row_bars, sample_answer, sample_row}
use Rattle.stack.specs.Frame.{frame_row_bars, frame_answer, frame_row, frame_buffer}
use Rattle.stack.specs.List.{list_bars, listing_said, list_answer, list_buffer}
use Rattle.stack.specs.Read.{view_said, read_bars, reading_of}
use Rattle.stack.specs.Up.{glance_said, up_of}

-- the kinds of act: a sample of the board of a number, a frame with its lent reply buffer, a listing of the board of a number with its lent buffer of words, a whole-stack reading, and a look whether anything is up
pub data Act : Type 0 where
  sample : ℕ → Readings → List ℕ → Act
  frame : List ℕ → List ℕ → Act
  listing : ℕ → List ℕ → Act
  reading : Act
  up : Act

-- what comes of an act: the paper's number and values, and the lent buffer after it; only a frame and a listing lend one
pub record Outcome : Type 0 where
  pub said : Said
  pub buffer : List ℕ

-- the rows of the table of refusals that an act meets, in order
abbrev pub bars : List Board → Act → List Bar
bars row (sample n x mv) = sample_row_bars row n x mv
bars row (frame bytes buffer) = frame_row_bars row bytes buffer
bars row (listing n buffer) = list_bars row n buffer
bars row reading = read_bars row
bars row up = read_bars row

-- ---- the library: sample_stack, frame_stack, list_stack, read_stack, up_stack, open_row

abbrev pub outcome : List Board → Act → Outcome
outcome row (sample n x mv) = record { said = answer_said (sample_answer row n x mv); buffer = [] }
outcome row (frame bytes buffer) = record { said = reply_said (frame_answer row bytes buffer); buffer = frame_buffer row bytes buffer }
outcome row (listing n buffer) = record { said = listing_said (list_answer row n buffer); buffer = list_buffer row n buffer }
outcome row reading = record { said = view_said (reading_of row); buffer = [] }
outcome row up = record { said = glance_said (up_of row); buffer = [] }

abbrev pub next : List Board → Act → List Board
next row (sample n x mv) = sample_row row n x mv
next row (frame bytes buffer) = frame_row row bytes buffer
next row (listing n buffer) = row
next row reading = row
next row up = row

-- the row that open_row gives of as many records as there are plans
abbrev pub opened_row : List ℕ → List Board
opened_row plans = open_row (replicate (length plans) (fresh 0)) plans

-- ---- any machine: what stands after the acts of a list, oldest first, and what came of each on the way

abbrev pub final : {S A : Type 0} → (S → A → S) → S → List A → S
final step s [] = s
final step s (a ∷ acts) = final step (step s a) acts

abbrev pub answers : {S A R : Type 0} → (S → A → S) → (S → A → R) → S → List A → List R
answers step answer s [] = []
answers step answer s (a ∷ acts) = answer s a ∷ answers step answer (step s a) acts
