-- What each act for C returns and puts into its lent place, by the definitions of the public library.
-- Assumes nothing.
use Rattle.std.specs.Prelude.{ℕ, List}
use Rattle.board.specs.declared.Board.{Board}
use Rattle.board.specs.declared.Readings.{Readings}
use Rattle.board.specs.Sample.{sample_of, answer_said}
use Rattle.frame.specs.Reply.{reply_said}
use Rattle.stack.specs.Open.{opening_said, open_answer, count_plans}
use Rattle.stack.specs.Sample.{sample_answer}
use Rattle.stack.specs.Frame.{frame_answer}
use Rattle.stack.specs.List.{listing_said, list_answer}
use Rattle.stack.specs.Read.{view_said}
use Rattle.stack.specs.Read as stack
use Rattle.stack.specs.Up.{glance_said, up_of}
use Rattle.board.specs.declared.Sampled.{Sampled}
use Rattle.adomvik.specs.declared.Reading.{Reading}
use Rattle.adomvik.specs.declared.Up.{Up}
use Rattle.adomvik.specs.Placed.{placed, sampled_of, reading_of, up_in, count_or_refusal}

-- the opening of the row, by plans and by bare cell counts
unfoldable pub open_number : List Board → List ℕ → ℕ
open_number row plans = (opening_said (open_answer row plans)).number

abbrev pub counts_number : List Board → List ℕ → ℕ
counts_number row counts = open_number row (count_plans counts)

-- a sample of one board of the row
unfoldable pub sample_number : List Board → ℕ → Readings → List ℕ → ℕ
sample_number row n x mv = (answer_said (sample_answer row n x mv)).number

unfoldable pub sample_out : List Board → ℕ → Readings → List ℕ → Sampled → Sampled
sample_out row n x mv out = placed (answer_said (sample_answer row n x mv)) out (sampled_of (answer_said (sample_answer row n x mv)))

-- a sample of one record
unfoldable pub board_number : Board → Readings → List ℕ → ℕ
board_number b x mv = (answer_said (sample_of b x mv).answer).number

unfoldable pub board_out : Board → Readings → List ℕ → Sampled → Sampled
board_out b x mv out = placed (answer_said (sample_of b x mv).answer) out (sampled_of (answer_said (sample_of b x mv).answer))

-- a frame; its reply is the library's own
unfoldable pub frame_number : List Board → List ℕ → List ℕ → ℕ
frame_number row bytes buffer = (reply_said (frame_answer row bytes buffer)).number

-- a listing; its words are the library's own
unfoldable pub list_number : List Board → ℕ → List ℕ → ℕ
list_number row n words = count_or_refusal (listing_said (list_answer row n words))

-- the whole-stack reading
unfoldable pub read_number : List Board → ℕ
read_number row = (view_said (stack.reading_of row)).number

unfoldable pub read_out : List Board → Reading → Reading
read_out row out = placed (view_said (stack.reading_of row)) out (reading_of (view_said (stack.reading_of row)))

-- the fault line alone
unfoldable pub up_number : List Board → ℕ
up_number row = (glance_said (up_of row)).number

unfoldable pub up_out : List Board → Up → Up
up_out row out = placed (glance_said (up_of row)) out (up_in (glance_said (up_of row)))
