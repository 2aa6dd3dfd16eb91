-- Is anything up? The fault line of a row alone (02, ticket 9; Refusal number 1).
-- Assumes nothing.
use Rattle.std.specs.Prelude.{List, map, eqb, Result}
use Rattle.refusal.specs.declared.Refusal.{Refusal}
use Rattle.refusal.specs.Said.{Said, said_by, saying_by, value, judged}
use Rattle.board.specs.declared.Board.{Board}
use Rattle.reading.specs.declared.Line.{Line}
use Rattle.reading.specs.Reading.{summary_of}
use Rattle.reading.specs.Line.{line_of, line_said}
use Rattle.stack.specs.Read.{read_bars}

-- the two numbers of an answer, put together again
abbrev pub line_saying : Said → Line
line_saying s = record { up = eqb (value 0 s) 1; looked = value 1 s }

-- the paper's number and values of an answer, and the answer that says them
abbrev pub glance_said : Result Line Refusal → Said
glance_said a = said_by line_said a

abbrev pub glance_saying : Said → Result Line Refusal
glance_saying s = saying_by line_saying s

-- refused as the whole-stack reading is, which no opened stack is
unfoldable pub up_of : List Board → Result Line Refusal
up_of row = glance_saying (judged (read_bars row) (line_said (line_of (map summary_of row))))
