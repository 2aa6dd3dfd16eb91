-- What an answer puts into its lent place, and its number: that of the refusal, or 0 (01, Refusal numbers).
-- Assumes nothing.
use Rattle.std.specs.Prelude.{ℕ, ◌+◌, cond, eqb, Result, Ok, Err}
use Rattle.lists.specs.Marks.{bit}
use Rattle.refusal.specs.declared.Refusal.{Refusal}
use Rattle.refusal.specs.Refusals.{number_of}
use Rattle.refusal.specs.Said.{Said, value}
use Rattle.board.specs.declared.Sampled.{Sampled}
use Rattle.reading.specs.declared.Whole.{Whole}
use Rattle.reading.specs.declared.Line.{Line}
use Rattle.stack.specs.List.{listing_said}
use Rattle.adomvik.specs.declared.Reading.{Reading}
use Rattle.adomvik.specs.declared.Up.{Up}

-- a refusal leaves the place alone
abbrev pub placed : {A : Type 0} → Said → A → A → A
placed s old new = cond (eqb s.number 0) new old

-- the values of an answer, under their names
abbrev pub sampled_of : Said → Sampled
sampled_of s = record { status = value 0 s; bled = value 1 s }

abbrev pub reading_of : Said → Reading
reading_of s = record { line = value 0 s; chg = value 1 s; dsg = value 2 s; board = value 3 s; cell = value 4 s }

abbrev pub up_in : Said → Up
up_in s = record { line = value 0 s; looked = value 1 s }

-- a listing tells by one number how many entries there are, or 256 more than the number of its refusal
abbrev pub count_or_refusal : Said → ℕ
count_or_refusal s = cond (eqb s.number 0) (value 0 s) (256 + s.number)

unfoldable pub number_of_listing : Result ℕ Refusal → ℕ
number_of_listing a = count_or_refusal (listing_said a)

-- ---- the same of an answer as it is given (the laws number-is, put-is, placed-is)
abbrev pub number_in : {A : Type 0} → Result A Refusal → ℕ
number_in (Ok a) = 0
number_in (Err why) = number_of why

abbrev pub placed_in : {A : Type 0} → A → Result A Refusal → A
placed_in out (Ok a) = a
placed_in out (Err why) = out

abbrev pub reading_from : Whole → Reading
reading_from w = record { line = bit w.line; chg = bit w.chg; dsg = bit w.dsg; board = w.flagged.board; cell = w.flagged.cell }

abbrev pub up_from : Line → Up
up_from l = record { line = bit l.up; looked = l.looked }
