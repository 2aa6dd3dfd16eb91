-- A line as an act on a stack, and what is told of it (01, The bench program).
-- Assumes nothing.
use Rattle.std.specs.Prelude.{ℕ, ◌-◌, ◌%◌, min, Bool, cond, List, map, ℤ, pos, ◌-ℤ◌, get_or, take, drop, Result, Ok, Err}
use Rattle.board.specs.declared.Readings.{Readings}
use Rattle.held.specs.declared.Stack.{Stack}
use Rattle.refusal.specs.declared.Refusal.{Refusal}
use Rattle.refusal.specs.declared.Refusal.TheVariants as refusal
use Rattle.stack.specs.Open.{Opening}
use Rattle.held.specs.Held.{open_of}
use Rattle.held.specs.Held.{held_row, with_row}
use Rattle.acts.specs.declared.Act.{Act}
use Rattle.acts.specs.declared.Act.TheVariants as act
use Rattle.acts.specs.declared.Sample as acts-sample
use Rattle.acts.specs.declared.Frame as acts-frame
use Rattle.acts.specs.declared.Told.{Told}
use Rattle.acts.specs.InPlace.{opening_told, act_told, act_row}
use Rattle.lines.specs.declared.Kind.{Kind}
use Rattle.lines.specs.declared.Kind.TheVariants.{Open, Sample, Frame, Read, Malformed}
use Rattle.lines.specs.declared.Line.{Line}

-- a stack after a line, and what is told of it
pub record Acted : Type 0 where
  pub stack : Stack
  pub told : Result Told Refusal

-- a line has its first 21 numbers, with zeros behind them; number i, from 0
abbrev pub number_at : List ℕ → ℕ → ℕ
number_at numbers i = get_or numbers i 0

-- ---- S board elapsed load thermistor shunt cells..
-- a whole number with its sign; no line has one over 2,147,483,647
unfoldable pub shunt_of : Bool → ℕ → ℤ
shunt_of minus size = cond minus (pos 0 -ℤ pos (min size 2147483647)) (pos (min size 2147483647))

unfoldable pub readings_of : List ℕ → Bool → Readings
readings_of numbers minus =
    record {
      elapsed = number_at numbers 1;
      shunt = shunt_of minus (number_at numbers 4);
      thermistor = number_at numbers 3;
      load = number_at numbers 2;
    }

-- the cells are the numbers from 5 on; no line has more than 16
unfoldable pub cell_places : List ℕ → List ℕ
cell_places numbers = take 16 (drop 5 numbers)

unfoldable pub sample_of : Line → acts-sample.Sample
sample_of line =
    record {
      board = number_at line.numbers 0;
      readings = readings_of line.numbers line.minus;
      cells = cell_places line.numbers;
      count = line.count - 5;
    }

-- ---- F bytes..
-- a frame has as many bytes as the line has numbers; no line has more than 16, and none is over 255
unfoldable pub bytes_of : List ℕ → List ℕ
bytes_of numbers = map (λ n. n % 256) (take 16 numbers)

-- the bench lends 4 bytes for replies
unfoldable pub frame_of : Line → acts-frame.Frame
frame_of line = record { bytes = bytes_of line.numbers; count = line.count; room = 4 }

-- ---- O cell counts..
-- an opening of more than 21 counts is refused for being of more than 16 (the law many-refused), whatever they are
abbrev pub counts_of : List ℕ → ℕ → List ℕ
counts_of numbers count = take (min count 21) numbers

-- a good opening replaces the stack, a refused one leaves it
abbrev pub opened_by : Opening → Stack → Stack → Stack
opened_by (Ok done) s new = new
opened_by (Err why) s new = s

unfoldable pub opens : Stack → Line → Acted
opens s line =
    let start = open_of (counts_of line.numbers line.count) in
    record { stack = opened_by start.answer s start.stack; told = opening_told start.answer }

-- ---- any line
-- an act is done on the stack's row
unfoldable pub acted_on : Stack → Act → Acted
acted_on s a = record { stack = with_row s (act_row (held_row s) a); told = act_told (held_row s) a }

-- a malformed line gets 12 in any state; before a good opening the stack has no boards, and every act gets 1
abbrev pub line_by : Kind → Stack → Line → Acted
line_by Open s line = opens s line
line_by Sample s line = acted_on s (act.Sample (sample_of line))
line_by Frame s line = acted_on s (act.Frame (frame_of line))
line_by Read s line = acted_on s act.Reading
line_by Malformed s line = record { stack = s; told = Err refusal.Malformed }

unfoldable pub answered : Stack → Line → Acted
answered s line = line_by line.kind s line
