-- The whole-stack reading of a row (01, Whole-stack reading; Refusal number 1).
-- Assumes nothing.
use Rattle.std.specs.Prelude.{not, List, [], ◌∷◌, map, eqb, Result}
use Rattle.refusal.specs.declared.Refusal.{Refusal}
use Rattle.refusal.specs.Said.{Said, said_by, saying_by, value, Bar, bar, judged}
use Rattle.board.specs.declared.Board.{Board}
use Rattle.reading.specs.declared.Whole.{Whole}
use Rattle.reading.specs.Reading.{summary_of, read_of, whole_said, place}
use Rattle.stack.specs.Row.{good_row}

-- the five numbers of a reading, put together again
abbrev pub whole_saying : Said → Whole
whole_saying s =
    record { line = eqb (value 0 s) 1; chg = eqb (value 1 s) 1; dsg = eqb (value 2 s) 1; flagged = place (value 3 s) (value 4 s) }

-- the paper's number and values of an answer, and the answer that says them
abbrev pub view_said : Result Whole Refusal → Said
view_said a = said_by whole_said a

abbrev pub view_saying : Said → Result Whole Refusal
view_saying s = saying_by whole_saying s

-- an opened stack is never refused
abbrev pub read_bars : List Board → List Bar
read_bars row = bar 1 (not (good_row row)) ∷ []

unfoldable pub reading_of : List Board → Result Whole Refusal
reading_of row = view_saying (judged (read_bars row) (whole_said (read_of (map summary_of row))))
