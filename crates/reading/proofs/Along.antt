-- What a walk along a row comes to: a fold over the boards from a place on, and the search of each board from a cell on.
-- Assumes nothing.
use Prim.Native.Nat.{ℕ, zero, suc, ◌+◌, ◌-◌, ◌<◌, ◌≤◌}
use native.Mathlib.Omega.{arith}
use native.Mathlib.Numerals.{add-one}
use mathlib.Core.Path.{◌≡◌}
use mathlib.Core.Bool.{Bool, true, false, cond}
use mathlib.Core.List.{List, [], ◌∷◌}
use lib.ListN.{length, get_or, drop as drop_n, drop_of_length-le}
use lib.Seq.{drop-cons}
use Rattle.board.specs.declared.Board.{Board}
use Rattle.reading.specs.declared.Place.{Place}
use Rattle.reading.specs.Reading.{summary_of, place}
use Rattle.reading.specs.Way.{first_on, first_from, place_at, line_from, up_at, none_up}
use Rattle.lists.specs.Marks.{marked}

-- F at each place in turn, from the place i on
unfoldable pub folded : {X Y : Type 0} → (Y → ℕ → X → Y) → Y → ℕ → List X → Y
folded F out i [] = out
folded F out i (b ∷ bs) = folded F (F out i b) (suc i) bs

-- with the record at the index, and where there is none
module _ {X Y : Type 0} (F : Y → ℕ → X → Y) (none : X) (ys : List X) (i : ℕ) (out : Y) where
  pub folded_on : i < length ys → folded F (F out i (get_or ys i none)) (i + 1) (drop_n (i + 1) ys) ≡ folded F out i (drop_n i ys)
  unfolding folded
  folded_on l = rw (drop-cons ys i none l, add-one)

  pub folded-ends : length ys ≤ i → out ≡ folded F out i (drop_n i ys)
  unfolding folded
  folded-ends l = rw (drop_of_length-le ys l)

module _ {X Y : Type 0} (is-hit : X → ℕ → Bool) (found : ℕ → ℕ → Y) where
  -- the search of one record from the place j on, of which so many are left, and else what is found further on
  unfoldable pub within : X → ℕ → ℕ → ℕ → Y → Y
  within b i j zero further = further
  within b i j (suc left) further = cond (is-hit b j) (found i j) (within b i (j + 1) left further)

  -- the search of the row
  unfoldable pub sought : (X → ℕ) → Y → ℕ → List X → Y
  sought size_of none i [] = none
  sought size_of none i (b ∷ bs) = within b i 0 (size_of b) (sought size_of none (i + 1) bs)

-- ---- the search for a flagged cell, at the board at a place and at the cell at a place
module _ (none : Board) (row : List Board) (i : ℕ) where
  pub board-on : i < length row → first_on (get_or row i none) i 0 ((get_or row i none).count - 0) (first_from (i + 1) (drop_n (i + 1) row)) ≡ first_from i (drop_n i row)
  unfolding first_from
  board-on l =
      let all : (get_or row i none).count - 0 ≡ (get_or row i none).count = omega arith in
      rw (all, drop-cons row i none l, add-one)

  pub boards-end : length row ≤ i → place 0 0 ≡ first_from i (drop_n i row)
  unfolding first_from
  boards-end l = rw (drop_of_length-le row l)

  -- ---- and for the first board with a latch
  pub latched-here : i < length row → (summary_of (get_or row i none)).latched ≡ true → up_at i ≡ line_from i (drop_n i row)
  unfolding line_from
  latched-here l e = rw (drop-cons row i none l, e)

  pub latched-on : i < length row → (summary_of (get_or row i none)).latched ≡ false → line_from (i + 1) (drop_n (i + 1) row) ≡ line_from i (drop_n i row)
  unfolding line_from
  latched-on l e = rw (drop-cons row i none l, e, add-one)

  pub lines-end : length row ≤ i → none_up i ≡ line_from i (drop_n i row)
  unfolding line_from
  lines-end l = rw (drop_of_length-le row l)

module _ (b : Board) (i j n : ℕ) (north : Place) where
  one_left : j < n → n - j ≡ suc (n - (j + 1))
  one_left l = omega arith

  pub flag-here : j < n → marked b.flags j ≡ true → place_at i j ≡ first_on b i j (n - j) north
  unfolding first_on
  flag-here l e = rw (one_left l, e)

  pub flag-on : j < n → marked b.flags j ≡ false → first_on b i (j + 1) (n - (j + 1)) north ≡ first_on b i j (n - j) north
  unfolding first_on
  flag-on l e = rw (one_left l, e)

  pub flags-end : n ≤ j → north ≡ first_on b i j (n - j) north
  unfolding first_on
  flags-end l = let none : n - j ≡ 0 = omega arith in rw none
