-- The acts on a stack that is held by value: those of its row, with what lies past the row as it was.
-- Assumes nothing.
use Rattle.std.specs.Prelude.{ℕ, ◌-◌, cond, List, [], ◌++◌, ltb, length, replicate, take, drop, Result, Ok, Err}
use Rattle.refusal.specs.Said.{judged, unless_refused}
use Rattle.board.specs.declared.Board.{Board}
use Rattle.board.specs.declared.Sampled.{Sampled}
use Rattle.board.specs.declared.Readings.{Readings}
use Rattle.board.specs.Sample.{fresh}
use Rattle.frame.specs.declared.Reply.{Reply}
use Rattle.refusal.specs.declared.Refusal.{Refusal}
use Rattle.reading.specs.declared.Whole.{Whole}
use Rattle.stack.specs.Open.{Opening, open_bars, opening_saying, opened, count_plans}
use Rattle.stack.specs.Sample.{sample_answer, sample_row}
use Rattle.stack.specs.Frame.{frame_answer, frame_row, frame_buffer}
use Rattle.stack.specs.Read.{reading_of}
use Rattle.held.specs.declared.Stack.{Stack}

-- a stack, and what an act on it or its opening said
pub record Start : Type 0 where
  pub stack : Stack
  pub answer : Opening

pub record SampledStack : Type 0 where
  pub stack : Stack
  pub answer : Result Sampled Refusal

pub record FramedStack : Type 0 where
  pub stack : Stack
  pub answer : Result Reply Refusal

-- a stack of no boards, which a refused opening gives
abbrev pub no_stack : Stack
no_stack = record { boards = replicate 16 (fresh 0); count = 0 }

-- the boards of the row, and records of no board up to 16
unfoldable pub fresh_row : List ℕ → List Board
fresh_row plans = opened plans ++ replicate (16 - length plans) (fresh 0)

-- the opening of as many records as there are plans
unfoldable pub start_of : List ℕ → Start
start_of plans =
    let rows = open_bars (length plans) plans in
    record { stack = unless_refused rows no_stack (record { boards = fresh_row plans; count = length plans }); answer = opening_saying (judged rows []) }

-- a stack that is held is one of stand-alone boards, by their cell counts
abbrev pub open_of : List ℕ → Start
open_of counts = start_of (count_plans counts)

-- the stack that was opened, or why none was
unfoldable pub started : Start → Result Stack Refusal
started start = by start.answer
  where
    by : Opening → Result Stack Refusal
    by (Ok done) = Ok start.stack
    by (Err why) = Err why

-- how many records are the row; of a stack that says it has more than 16 boards none, so that every act gets 1
unfoldable pub row_count : Stack → ℕ
row_count s = cond (ltb 16 s.count) 0 s.count

-- the row of a stack
abbrev pub held_row : Stack → List Board
held_row s = take (row_count s) s.boards

-- a stack with another row of the same length
abbrev pub with_row : Stack → List Board → Stack
with_row s row = record { boards = row ++ drop (row_count s) s.boards; count = s.count }

unfoldable pub sampled_of : Stack → ℕ → Readings → List ℕ → SampledStack
sampled_of s board x mv = record { stack = with_row s (sample_row (held_row s) board x mv); answer = sample_answer (held_row s) board x mv }

unfoldable pub framed_of : Stack → List ℕ → List ℕ → FramedStack
framed_of s bytes buffer = record { stack = with_row s (frame_row (held_row s) bytes buffer); answer = frame_answer (held_row s) bytes buffer }

unfoldable pub framed_buffer : Stack → List ℕ → List ℕ → List ℕ
framed_buffer s bytes buffer = frame_buffer (held_row s) bytes buffer

unfoldable pub read_of : Stack → Result Whole Refusal
read_of s = reading_of (held_row s)
