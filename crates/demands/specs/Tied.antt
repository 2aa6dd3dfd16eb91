-- Whom an act concerns, and which two acts may not change places.
-- Assumes nothing.
use Rattle.std.specs.Prelude.{ℕ, Bool, true, false, cond, List, [], ◌∷◌, ◌++◌, eqb, length}
use Rattle.refusal.specs.Said.{Bar, bar, first}
use Rattle.lists.specs.Compare.{outside}
use Rattle.frame.specs.Frame.{byte, board_of, frame_bars}
use Rattle.stack.specs.Row.{place_of}
use Rattle.stack.specs.Frame.{frame_place}
use Rattle.demands.specs.Acts.{Act, sample, frame, listing, reading, up}

-- one board, by its place in the row; the whole stack; or nobody, where the act is refused before a board is known
pub data Who : Type 0 where
  board : ℕ → Who
  whole : Who
  nobody : Who

-- the refusals that come before a board is known, on a stack of m boards: 2; 6, 7, 8, 2; and 2
abbrev pub early : ℕ → Act → List Bar
early m (sample n x mv) = bar 2 (outside 1 m n) ∷ []
early m (frame bytes buffer) = frame_bars bytes (length buffer) ++ (bar 2 (outside 1 m (board_of (byte bytes 0))) ∷ [])
early m (listing n buffer) = bar 2 (outside 1 m n) ∷ []
early m reading = []
early m up = []

abbrev pub who : ℕ → Act → Who
who m (sample n x mv) = cond (eqb (first (early m (sample n x mv))) 0) (board (place_of n)) nobody
who m (frame bytes buffer) = cond (eqb (first (early m (frame bytes buffer))) 0) (board (frame_place bytes)) nobody
who m (listing n buffer) = cond (eqb (first (early m (listing n buffer))) 0) (board (place_of n)) nobody
who m reading = whole
who m up = whole

-- tied are two acts of one board, and an act of a board and a whole-stack act, whichever comes first; whole-stack acts are the reading and the look whether anything is up
abbrev pub ties : Who → Who → Bool
ties (board i) (board j) = eqb i j
ties (board i) whole = true
ties (board i) nobody = false
ties whole (board j) = true
ties whole whole = false
ties whole nobody = false
ties nobody w = false

abbrev pub tied : ℕ → Act → Act → Bool
tied m a b = ties (who m a) (who m b)
