-- A test that every entry of a list passes.
-- Assumes nothing.
use Rattle.std.specs.Prelude.{Bool, true, ◌&&◌, List, [], ◌∷◌}

unfoldable pub every : {A : Type 0} → (A → Bool) → List A → Bool
every passes [] = true
every passes (x ∷ xs) = passes x && every passes xs
