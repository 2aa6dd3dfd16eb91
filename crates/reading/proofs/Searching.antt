-- The search for a flagged cell, cell by cell and board by board: it is what the loops do, and of a good row the paper's.
-- Assumes nothing.
use Prim.Native.Nat.{ℕ, zero, suc, ◌+◌, ◌/◌, ◌^◌, ◌<◌, ◌≤◌}
use native.Mathlib.Nat.{two-pow-succ, div-one, div-div-eq-div-mul}
use native.Mathlib.Numerals.{add-one}
use native.Mathlib.Omega.{arith}
use mathlib.Core.Path.{◌≡◌, refl, ap, ◌∙◌}
use mathlib.Core.Bool.{Bool, true, cond, not}
use mathlib.Core.List.{List, [], ◌∷◌, map}
use lib.Dec.{eqb}
use lib.ListN.{length}
use borrow.Author.Tests.{ne_eqb, lt-leb}
use Rattle.lists.specs.Every.{every}
use Rattle.lists.proofs.Split.{split, both}
use Rattle.reading.proofs.Along.{within, sought}
use Rattle.lists.specs.Marks.{marked, marks, lowest}
use Rattle.board.specs.declared.Board.{Board}
use Rattle.board.specs.Sample.{plan_in, bad_board}
use Rattle.reading.specs.declared.Place.{Place}
use Rattle.reading.specs.Reading.{summary_of, place, first_flagged}
use Rattle.reading.specs.Way.{place_at, first_on, first_from}
use Rattle.board.proofs.Counts.{good-plan}

-- ---- what the loops do
abbrev pub flagged_at : Board → ℕ → Bool
flagged_at b j = marked b.flags j

abbrev pub cells : Board → ℕ
cells b = b.count

on-board : (b : Board) (i j left : ℕ) (north : Place) → within flagged_at place_at b i j left north ≡ first_on b i j left north
unfolding within first_on
on-board b i j zero north = refl
on-board b i j (suc left) north = rw (on-board b i (j + 1) left north)

from-board : (i : ℕ) (row : List Board) → sought flagged_at place_at cells (place 0 0) i row ≡ first_from i row
unfolding sought first_from
from-board i [] = refl
from-board i (b ∷ row) = rw (from-board (i + 1) row) (on-board b i 0 b.count (first_from (i + 1) row))

pub is-search : (row : List Board) → sought flagged_at place_at cells (place 0 0) 0 row ≡ first_from 0 row
is-search row = from-board 0 row

-- ---- what the paper says
-- the lowest flagged cell from place j on, where so many are left
abbrev lowest_from : Board → ℕ → ℕ → ℕ
lowest_from b j left = lowest (j + 1) (marks left (b.flags / 2 ^ j))

half : (n j : ℕ) → n / 2 ^ j / 2 ≡ n / 2 ^ (j + 1)
half n j = div-div-eq-div-mul n (2 ^ j) 2 ∙ ap (λ (k : ℕ). n / k) (omega (arith, two-pow-succ j, ap (λ (k : ℕ). 2 ^ k) (add-one j)))

board-first : (b : Board) (i j left : ℕ) (north : Place) → i < 16 → j + left ≤ 16 → first_on b i j left north ≡ cond (eqb (lowest_from b j left) 0) north (place (i + 1) (lowest_from b j left))
unfolding first_on marks lowest
board-first b i j zero north p r = refl
board-first b i j (suc left) north p r =
    split (marked b.flags j)
    (λ e. rw (e, lt-leb 16 i p, lt-leb 16 j (omega arith), ne_eqb (j + 1) 0 (λ z. omega arith)))
    (λ e. rw (e, half b.flags j) (board-first b i (j + 1) left north p (omega arith)))

row_first : (i : ℕ) (row : List Board) → i + length row ≤ 16 → every (λ b. not (bad_board b)) row ≡ true → first_from i row ≡ first_flagged (i + 1) (map summary_of row)
unfolding first_from first_flagged every summary_of
row_first i [] r good = refl
row_first i (b ∷ row) r good =
    let parts = both (not (bad_board b)) (every (λ b. not (bad_board b)) row) good in
    let few = good-plan (plan_in b) parts.0 in
    board-first b i 0 b.count (first_from (i + 1) row) (omega arith) (omega (arith, few)) ∙ rw (div-one b.flags, row_first (i + 1) row (omega arith) parts.1)

pub first_good : (row : List Board) → length row ≤ 16 → every (λ b. not (bad_board b)) row ≡ true → first_from 0 row ≡ first_flagged 1 (map summary_of row)
first_good row few good = row_first 0 row (omega (arith, few)) good
