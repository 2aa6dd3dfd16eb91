-- The refusals and their numbers (01, Refusal numbers; 02, tickets 1 and 8).
-- Assumes nothing.
use Rattle.std.specs.Prelude.{ℕ, ◌-◌, Bool, List, [], ◌∷◌, eqb, get_or}
use Rattle.refusal.specs.declared.Refusal.{Refusal}
use Rattle.refusal.specs.declared.Refusal.TheVariants.{BadRow, NoBoard, CellList, Elapsed, OutOfRange, FrameLength, ReplyRoom, CheckByte, NoRegister, BadValue, NoCycle, Malformed, LevelsCrossed, ListRoom}

abbrev pub number_of : Refusal → ℕ
number_of BadRow = 1
number_of NoBoard = 2
number_of CellList = 3
number_of Elapsed = 4
number_of OutOfRange = 5
number_of FrameLength = 6
number_of ReplyRoom = 7
number_of CheckByte = 8
number_of NoRegister = 9
number_of BadValue = 10
number_of NoCycle = 11
number_of Malformed = 12
number_of LevelsCrossed = 13
number_of ListRoom = 14

-- the table read the other way: the refusal of a number
abbrev pub table : List Refusal
table =
    BadRow ∷ NoBoard ∷ CellList ∷ Elapsed ∷ OutOfRange ∷ FrameLength ∷ ReplyRoom ∷ CheckByte ∷ NoRegister ∷ BadValue ∷ NoCycle ∷ Malformed ∷ LevelsCrossed ∷ ListRoom ∷ []

abbrev pub numbered : ℕ → Refusal
numbered n = get_or table (n - 1) Malformed

-- a number of the table
abbrev pub in_table : ℕ → Bool
in_table n = eqb (number_of (numbered n)) n
