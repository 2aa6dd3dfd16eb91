-- The listing of a board's journal into a lent buffer (02, ticket 8; Refusal numbers 1, 2, 14).
-- Assumes nothing.
use Rattle.std.specs.Prelude.{ℕ, ◌/◌, not, List, [], ◌∷◌, length, Result}
use Rattle.lists.specs.Compare.{◌below◌}
use Rattle.refusal.specs.declared.Refusal.{Refusal}
use Rattle.refusal.specs.Said.{Said, said_by, saying_by, value, Bar, bar, judged, unless_refused}
use Rattle.journal.specs.Ring.{Entry, listing, words_over}
use Rattle.board.specs.declared.Board.{Board}
use Rattle.stack.specs.Row.{good_row, no_board, place_of, board_at}

-- the entries of the board of a number, oldest first
abbrev pub entries_of : List Board → ℕ → List Entry
entries_of row n = listing (board_at row (place_of n)).journal

-- a buffer is lent in words, and an entry takes three
abbrev pub room : List ℕ → ℕ
room buffer = length buffer / 3

-- refusals 1, 2, 14 in order: less room than there are entries
abbrev pub list_bars : List Board → ℕ → List ℕ → List Bar
list_bars row n buffer = bar 1 (not (good_row row)) ∷ bar 2 (no_board row n) ∷ bar 14 (room buffer below length (entries_of row n)) ∷ []

-- the paper's number and values of an answer, and the answer that says them: how many entries there are
abbrev pub listing_said : Result ℕ Refusal → Said
listing_said a = said_by (λ many. many ∷ []) a

abbrev pub listing_saying : Said → Result ℕ Refusal
listing_saying s = saying_by (value 0) s

-- the answer, and the buffer after it; the row is only looked at
unfoldable pub list_answer : List Board → ℕ → List ℕ → Result ℕ Refusal
list_answer row n buffer = listing_saying (judged (list_bars row n buffer) (length (entries_of row n) ∷ []))

unfoldable pub list_buffer : List Board → ℕ → List ℕ → List ℕ
list_buffer row n buffer = unless_refused (list_bars row n buffer) buffer (words_over (entries_of row n) buffer)
