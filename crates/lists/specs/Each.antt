-- Lists with an entry for each cell, by the cell's place, counted from 0.
-- Assumes nothing.
use Rattle.std.specs.Prelude.{ℕ, zero, suc, Bool, true, false, ◌&&◌, ◌||◌, List, [], ◌∷◌}

-- f of place i, of the next one, and so on, n of them
unfoldable pub each : {A : Type 0} → ℕ → ℕ → (ℕ → A) → List A
each i zero f = []
each i (suc n) f = f i ∷ each (suc i) n f

abbrev pub some : List Bool → Bool
some [] = false
some (b ∷ bs) = b || some bs

abbrev pub all : List Bool → Bool
all [] = true
all (b ∷ bs) = b && all bs
