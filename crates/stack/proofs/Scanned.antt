-- What a reading and a look at the fault line say, and that of a good row they are the paper's.
-- Assumes nothing.
use mathlib.Core.Path.{◌≡◌, refl, ap, sym}
use mathlib.Core.Bool.{Bool, true, false, not}
use mathlib.Core.List.{List, map}
use lib.Dec.{eqb}
use lib.ListN.{length}
use Rattle.lists.specs.Every.{every}
use Rattle.lists.specs.Marks.{bit}
use Rattle.lists.proofs.Split.{split, both}
use Rattle.refusal.specs.Refusals.{numbered}
use Rattle.refusal.specs.Said.{accepts, judged}
use Rattle.std.specs.Prelude.{Result, Ok, Err}
use Rattle.refusal.specs.declared.Refusal.{Refusal}
use Rattle.refusal.proofs.Laws.{said-back}
use Rattle.board.specs.declared.Board.{Board}
use Rattle.board.specs.Sample.{bad_board}
use Rattle.reading.specs.declared.Whole.{Whole}
use Rattle.reading.specs.Reading.{summary_of, read_of, whole_said}
use Rattle.reading.specs.declared.Line.{Line}
use Rattle.reading.specs.Line.{line_of, line_said}
use Rattle.reading.specs.Way.{read_row, line_row}
use Rattle.reading.proofs.Scanned.{is_read}
use Rattle.reading.proofs.Lined.{line-good}
use Rattle.stack.specs.Row.{bad_count, good_row}
use Rattle.stack.specs.Read.{whole_saying, view_said, view_saying, read_bars, reading_of}
use Rattle.stack.specs.Up.{line_saying, glance_said, glance_saying, up_of}
use Rattle.stack.proofs.Ways.{row-size}

-- ---- what a reading says
bit-back : (b : Bool) → eqb (bit b) 1 ≡ b
bit-back true = refl
bit-back false = refl

pub whole-said : (w : Whole) → whole_saying (accepts (whole_said w)) ≡ w
whole-said w =
    λ i. record { line = bit-back w.line i; chg = bit-back w.chg i; dsg = bit-back w.dsg i; flagged = w.flagged }

pub view-said : (v : Result Whole Refusal) → view_saying (view_said v) ≡ v
view-said = said-back whole_said whole_saying whole-said

-- ---- the reading
row_read : (row : List Board) → good_row row ≡ true → read_row row ≡ read_of (map summary_of row)
unfolding good_row
row_read row good = is_read row (row-size row good).1 (both (not (bad_count (length row))) (every (λ b. not (bad_board b)) row) good).1

pub read-good : (row : List Board) → good_row row ≡ true → Ok (read_row row) ≡ reading_of row
unfolding reading_of
read-good row good = rw (row_read row good, good) (ap Ok (sym (whole-said (read_of (map summary_of row)))))

pub read-bad : (row : List Board) → good_row row ≡ false → Err (numbered 1) ≡ reading_of row
unfolding reading_of
read-bad row bad = rw bad

-- ---- the fault line alone
pub line-said : (l : Line) → line_saying (accepts (line_said l)) ≡ l
line-said l = λ i. record { up = bit-back l.up i; looked = l.looked }

pub glance-said : (g : Result Line Refusal) → glance_saying (glance_said g) ≡ g
glance-said = said-back line_said line_saying line-said

pub up-good : (row : List Board) → good_row row ≡ true → Ok (line_row row) ≡ up_of row
unfolding up_of
up-good row good = rw (line-good row (row-size row good).1, good) (ap Ok (sym (line-said (line_of (map summary_of row)))))

pub up-bad : (row : List Board) → good_row row ≡ false → Err (numbered 1) ≡ up_of row
unfolding up_of
up-bad row bad = rw bad

-- what it says is judged by the reading's own table
pub up-said : (row : List Board) → glance_said (up_of row) ≡ judged (read_bars row) (line_said (line_of (map summary_of row)))
unfolding up_of
up-said row = split (good_row row) (λ e. rw e (ap (λ (l : Line). accepts (line_said l)) (line-said (line_of (map summary_of row))))) (λ e. rw e)
