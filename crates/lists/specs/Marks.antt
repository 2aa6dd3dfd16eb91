-- A set of cells, as a list of bools from cell 1 up and as a number (01, Bleeding).
-- Assumes nothing.
use Rattle.std.specs.Prelude.{ℕ, zero, suc, ◌+◌, ◌*◌, ◌/◌, ◌%◌, ◌^◌, Bool, cond, List, [], ◌∷◌, eqb}

abbrev pub bit : Bool → ℕ
bit b = cond b 1 0

-- cell 1 worth 1, cell 2 worth 2, cell 3 worth 4 and so on
unfoldable pub number : List Bool → ℕ
number [] = 0
number (b ∷ bs) = bit b + 2 * number bs

-- the number has the cell at a place, counted from 0
abbrev pub marked : ℕ → ℕ → Bool
marked set at = eqb (set / 2 ^ at % 2) 1

-- the first n cells of a number, from cell 1 up
unfoldable pub marks : ℕ → ℕ → List Bool
marks zero set = []
marks (suc n) set = eqb (set % 2) 1 ∷ marks n (set / 2)

-- the lowest cell of a list, where its first is cell k; 0 where there is none
unfoldable pub lowest : ℕ → List Bool → ℕ
lowest k [] = 0
lowest k (b ∷ bs) = cond b k (lowest (k + 1) bs)
