-- The bytes of a frame, and when it is refused as it stands (01, Frames and registers; Refusal numbers 6, 7, 8).
-- Assumes nothing.
use Rattle.std.specs.Prelude.{ℕ, ◌/◌, ◌%◌, Bool, not, List, [], ◌∷◌, eqb, length, get_or}
use Rattle.lists.specs.Compare.{◌below◌}
use Rattle.refusal.specs.Said.{Bar, bar}
use Rattle.frame.specs.Check.{check_of}

-- byte i of a frame, from 0: address, register, value, check
abbrev pub byte : List ℕ → ℕ → ℕ
byte frame i = get_or frame i 0

-- the address is twice the board number, plus 1 for a write
abbrev pub board_of : ℕ → ℕ
board_of address = address / 2

abbrev pub writes : ℕ → Bool
writes address = eqb (address % 2) 1

-- refusals 6, 7, 8 in order
abbrev pub frame_bars : List ℕ → ℕ → List Bar
frame_bars frame room =
    bar 6 (not (eqb (length frame) 4))
    ∷ bar 7 (room below 4)
    ∷ bar 8 (not (eqb (byte frame 3) (check_of (byte frame 0 ∷ byte frame 1 ∷ byte frame 2 ∷ []))))
    ∷ []
