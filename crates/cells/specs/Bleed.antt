-- Which cells are bled (01, Bleeding; 02, ticket 2).
-- Assumes nothing.
use Rattle.std.specs.Prelude.{Bool, false, not, ◌&&◌, ◌||◌, List, [], ◌∷◌}

-- one of the two next higher cells is bled, where there are such
abbrev pub near : List Bool → Bool
near [] = false
near (b ∷ []) = b
near (b ∷ c ∷ higher) = b || c

-- from the highest cell down, a flagged cell is bled unless one of the two next higher ones is bled
unfoldable pub bled : List Bool → List Bool
bled [] = []
bled (flagged ∷ higher) = (flagged && not (near (bled higher))) ∷ bled higher
