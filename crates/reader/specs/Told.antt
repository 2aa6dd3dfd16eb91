-- What the code answers, as the number and the byte that are told.
-- Assumes nothing.
use Rattle.std.specs.Prelude.{ℕ, ◌≡◌, List, Result, Ok, Err}
use Rattle.format.specs.Read.{board_count, act_count}
use Rattle.reader.specs.declared.Fault.{Fault}
use Rattle.reader.specs.declared.Fault.TheVariants.{CutShort, Wrong, LeftOver}
use Rattle.reader.specs.declared.Stop.{Stop}
use Rattle.reader.specs.declared.Counts.{Counts}
use Rattle.reader.specs.Reader.{Step, Read, stop, refused_read}

abbrev pub number_of : Fault → ℕ
number_of CutShort = 17
number_of Wrong = 18
number_of LeftOver = 19

abbrev pub stopped : Fault → ℕ → Stop
stopped fault at = record { fault = fault; at = at }

abbrev pub counted : List ℕ → Counts
counted bytes = record { boards = board_count bytes; acts = act_count bytes }

-- the byte where reading goes on, or the fault and its byte
abbrev pub step_told : Result ℕ Stop → Step
step_told (Ok next) = stop 0 next
step_told (Err s) = stop (number_of s.fault) s.at

-- a recording that is read whole ends where its bytes do
abbrev pub read_told : ℕ → Result Counts Stop → Read
read_told long (Ok c) = record { at = long; boards = c.boards; acts = c.acts; number = 0 }
read_told long (Err s) = refused_read (step_told (Err s))

-- nothing is lost: one answer at most is told so
abbrev pub ToldOnce : Type 0
ToldOnce = ((r t : Result ℕ Stop) → step_told r ≡ step_told t → r ≡ t) × ((long : ℕ) (r t : Result Counts Stop) → read_told long r ≡ read_told long t → r ≡ t)
