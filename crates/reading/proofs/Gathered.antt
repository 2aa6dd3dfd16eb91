-- A board more of the walk over the row, and the reading from what the walk keeps.
-- Assumes nothing.
use Prim.Native.Nat.{ℕ, zero, suc, ◌+◌, ◌-◌, ◌*◌, ◌/◌, ◌%◌, ◌^◌, ◌<◌}
use native.Mathlib.Nat.{two-pow-succ}
use native.Mathlib.Omega.{arith}
use mathlib.Core.Path.{◌≡◌, refl, sym, ap, ◌∙◌}
use mathlib.Core.Bool.{Bool, true, false, not, ◌&&◌, ◌||◌, and-true, and_assoc, or-false, or_assoc}
use mathlib.Mathlib.Data.Bool.Basic.{or-eq-false-eq-eq-false-and-eq-false}
use mathlib.Core.List.{List, [], ◌∷◌, ◌++◌, map-append}
use lib.Bits.{bit_or, or_shifted_r}
use lib.Dec.{eqb}
use lib.ListN.{length, length-map, length-append}
use borrow.Author.Tests.{eqb-true, lt-leb, not-false}
use Rattle.lists.specs.Every.{every}
use Rattle.lists.specs.Marks.{number, marks}
use Rattle.lists.proofs.Marks.{marks-number, number-below, lowest-zero}
use Rattle.board.specs.declared.Board.{Board}
use Rattle.reading.specs.declared.Summary.{Summary}
use Rattle.reading.specs.Reading.{summary_of, line_up, chg_on, dsg_on, place, first_flagged, read_of}
use Rattle.reading.specs.Way.{latched_of, up, some_flag, seen_of, with_board, seen_with, whole_of}

-- ---- one board more, north of the others
number-on : (bs : List Bool) → number (bs ++ (true ∷ [])) ≡ number bs + 2 ^ length bs
unfolding number
number-on [] = refl
number-on (b ∷ bs) = rw (number-on bs, two-pow-succ (length bs)) (omega arith)

number-off : (bs : List Bool) → number (bs ++ (false ∷ [])) ≡ number bs
unfolding number
number-off [] = refl
number-off (b ∷ bs) = rw (number-off bs)

set_more : (bs : List Bool) (b : Bool) → with_board (number bs) (length bs) b ≡ number (bs ++ (b ∷ []))
set_more bs false = sym (number-off bs)
set_more bs true =
    let one : 1 * 2 ^ length bs ≡ 2 ^ length bs = omega arith in
    let sum : bit_or (number bs) (2 ^ length bs) ≡ 1 * 2 ^ length bs + number bs = ap (bit_or (number bs)) (sym one) ∙ or_shifted_r 1 (length bs) (number bs) (number-below bs) in
    sum ∙ sym (number-on bs ∙ omega arith)

latched-more : (south : List Summary) (x : Summary) → with_board (number (latched_of south)) (length south) x.latched ≡ number (latched_of (south ++ (x ∷ [])))
latched-more south x =
    let more = set_more (latched_of south) x.latched in
    rw (map-append (λ (board : Summary). board.latched) south (x ∷ [])) (rw (length-map south (λ board. board.latched)) at more)

every_more : (on : Summary → Bool) (south : List Summary) (x : Summary) → (every on south && on x) ≡ every on (south ++ (x ∷ []))
unfolding every
every_more on [] x = sym (and-true (on x))
every_more on (b ∷ south) x = and_assoc (on b) (every on south) (on x) ∙ ap (λ (t : Bool). on b && t) (every_more on south x)

flag-more : (south : List Summary) (x : Summary) → (some_flag south || not (eqb x.flags 0)) ≡ some_flag (south ++ (x ∷ []))
unfolding some_flag
flag-more [] x = sym (or-false (not (eqb x.flags 0)))
flag-more (b ∷ south) x =
    or_assoc (not (eqb b.flags 0)) (some_flag south) (not (eqb x.flags 0)) ∙ ap (λ (t : Bool). not (eqb b.flags 0) || t) (flag-more south x)

pub seen_more : (south : List Summary) (b : Board) → length south < 16 → seen_with (seen_of south) (length south) b ≡ seen_of (south ++ (summary_of b ∷ []))
unfolding seen_with seen_of
seen_more south b room =
    let x = summary_of b in
    rw (lt-leb 16 (length south) room, latched-more south x, every_more chg_on south x, every_more dsg_on south x, flag-more south x, length-append south (x ∷ []))

-- ---- the reading from what is kept of some boards is their reading
line-latches : (xs : List Summary) → line_up xs ≡ up (latched_of xs)
unfolding line_up up
line-latches [] = refl
line-latches (x ∷ xs) = rw (line-latches xs)

line-seen : (boards : List Summary) → up (marks (length boards) (number (latched_of boards))) ≡ line_up boards
line-seen boards =
    let many : length boards ≡ length (latched_of boards) = sym (length-map boards (λ board. board.latched)) in
    rw (many, marks-number (latched_of boards)) (sym (line-latches boards))

pub whole-seen : (boards : List Summary) → whole_of (seen_of boards) (first_flagged 1 boards) ≡ read_of boards
unfolding whole_of seen_of read_of
whole-seen boards = rw (line-seen boards)

-- no cell of none
marks-none : (n : ℕ) → number (marks n 0) ≡ 0
unfolding number marks
marks-none zero = refl
marks-none (suc n) = rw (marks-none n)

-- where no board has a flag, no cell is named
pub none-flagged : (k : ℕ) (boards : List Summary) → some_flag boards ≡ false → first_flagged k boards ≡ place 0 0
unfolding some_flag first_flagged
none-flagged k [] e = refl
none-flagged k (b ∷ north) e =
    let parts = (or-eq-false-eq-eq-false-and-eq-false (not (eqb b.flags 0)) (some_flag north)).0 e in
    let none = eqb-true b.flags 0 (not-false (eqb b.flags 0) parts.0) in
    rw (none, lowest-zero 0 (marks b.count 0), marks-none b.count) (none-flagged (k + 1) north parts.1)

-- ---- the numbers that the functions handle
pub up_none : (n : ℕ) → up (marks n 0) ≡ false
unfolding up marks
up_none zero = refl
up_none (suc n) = up_none n

-- the line at a board: its latch, or the line one board on with one board less
pub up_next : (set left : ℕ) → (left ≡ 0 → ⊥) → up (marks left set) ≡ (eqb (set % 2) 1 || up (marks (left - 1) (set / 2)))
unfolding up marks
up_next set zero some = absurd (some refl)
up_next set (suc left) some = let one : suc left - 1 ≡ left = omega arith in rw one
