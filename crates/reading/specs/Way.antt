-- On the way to a whole-stack reading: what a walk over the boards keeps of them, the search for a flagged cell, and the reading from both. That
-- it is the paper's is shown in proofs/Gathered.antt, proofs/Searching.antt, proofs/Scanned.antt and proofs/Lined.antt; nobody need believe it.
-- Assumes nothing.
use Rattle.std.specs.Prelude.{ℕ, zero, suc, ◌+◌, ◌^◌, min, Bool, true, false, cond, not, ◌&&◌, ◌||◌, List, [], ◌∷◌, map, leb, eqb, length, take}
use Rattle.std.specs.Int.Bits.{bit_or}
use Rattle.lists.specs.Every.{every}
use Rattle.lists.specs.Marks.{number, marked, marks}
use Rattle.board.specs.declared.Board.{Board}
use Rattle.reading.specs.declared.Summary.{Summary}
use Rattle.reading.specs.declared.Place.{Place}
use Rattle.reading.specs.declared.Seen.{Seen}
use Rattle.reading.specs.declared.Whole.{Whole}
use Rattle.reading.specs.declared.Line.{Line}
use Rattle.reading.specs.Reading.{summary_of, chg_on, dsg_on, place}

-- ---- the line of the latches alone, board 1's first
abbrev pub latched_of : List Summary → List Bool
latched_of boards = map (λ board. board.latched) boards

unfoldable pub up : List Bool → Bool
up [] = false
up (latched ∷ north) = latched || up north

-- ---- what a walk over the boards keeps of them, southernmost first
unfoldable pub some_flag : List Summary → Bool
some_flag [] = false
some_flag (board ∷ north) = not (eqb board.flags 0) || some_flag north

unfoldable pub seen_of : List Summary → Seen
seen_of boards =
    record { count = length boards; latched = number (latched_of boards); chg = every chg_on boards; dsg = every dsg_on boards; flagged = some_flag boards }

-- the same with one more board north of all, at its place
abbrev pub with_board : ℕ → ℕ → Bool → ℕ
with_board set at is = cond is (bit_or set (2 ^ at)) set

unfoldable pub seen_with : Seen → ℕ → Board → Seen
seen_with seen at b =
    cond (leb 16 at) seen (record {
      count = at + 1;
      latched = with_board seen.latched at (summary_of b).latched;
      chg = seen.chg && (summary_of b).chg;
      dsg = seen.dsg && (summary_of b).dsg;
      flagged = seen.flagged || not (eqb (summary_of b).flags 0);
    })

-- ---- the reading from what was kept and the flagged cell
unfoldable pub whole_of : Seen → Place → Whole
whole_of seen flagged = record { line = up (marks seen.count seen.latched); chg = seen.chg; dsg = seen.dsg; flagged = flagged }

-- ---- the walk over the row
-- a row has 16 boards at most
unfoldable pub seen_row : List Board → Seen
seen_row row = seen_of (take 16 (map summary_of row))

-- the search for a flagged cell, cell by cell and board by board; both are counted from 0 here
abbrev pub place_at : ℕ → ℕ → Place
place_at board cell = cond (leb 16 board) (place 0 0) (cond (leb 16 cell) (place 0 0) (place (board + 1) (cell + 1)))

-- on the board at place i, from the cell at place j on, of which so many are left; or else further north
unfoldable pub first_on : Board → ℕ → ℕ → ℕ → Place → Place
first_on b i j zero north = north
first_on b i j (suc left) north = cond (marked b.flags j) (place_at i j) (first_on b i (j + 1) left north)

unfoldable pub first_from : ℕ → List Board → Place
first_from i [] = place 0 0
first_from i (b ∷ north) = first_on b i 0 b.count (first_from (i + 1) north)

unfoldable pub read_row : List Board → Whole
read_row row = whole_of (seen_row row) (cond (seen_row row).flagged (first_from 0 row) (place 0 0))

-- ---- the fault line alone, board by board, counted from 0; a row has 16 boards at most
abbrev pub up_at : ℕ → Line
up_at at = record { up = true; looked = min (at + 1) 16 }

abbrev pub none_up : ℕ → Line
none_up boards = record { up = false; looked = min boards 16 }

unfoldable pub line_from : ℕ → List Board → Line
line_from i [] = none_up i
line_from i (b ∷ north) = cond (summary_of b).latched (up_at i) (line_from (i + 1) north)

abbrev pub line_row : List Board → Line
line_row row = line_from 0 row
