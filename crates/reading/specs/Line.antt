-- Is anything up? The fault line alone, and how many boards were looked at for it (02, ticket 9).
-- Assumes nothing.
use Rattle.std.specs.Prelude.{ℕ, ◌+◌, cond, List, [], ◌∷◌}
use Rattle.lists.specs.Marks.{bit}
use Rattle.reading.specs.declared.Summary.{Summary}
use Rattle.reading.specs.declared.Line.{Line}
use Rattle.reading.specs.Reading.{line_up}

-- from the southernmost up to the first board that has a latch, or all of them
unfoldable pub looked_at : List Summary → ℕ
looked_at [] = 0
looked_at (board ∷ north) = cond board.latched 1 (looked_at north + 1)

-- the line is that of the whole-stack reading
abbrev pub line_of : List Summary → Line
line_of boards = record { up = line_up boards; looked = looked_at boards }

-- the answer's values: the line, and the boards looked at
abbrev pub line_said : Line → List ℕ
line_said l = bit l.up ∷ l.looked ∷ []
