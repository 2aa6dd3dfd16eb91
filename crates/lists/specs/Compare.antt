-- Numbers compared, in the paper's words.
-- Assumes nothing.
use Rattle.std.specs.Prelude.{ℕ, Bool, ◌||◌, ltb, leb}

infix 50 ◌above◌
infix 50 ◌below◌
infix 50 ◌at_or_above◌
infix 50 ◌at_or_below◌
abbrev pub ◌above◌ : ℕ → ℕ → Bool
x above level = ltb level x

abbrev pub ◌below◌ : ℕ → ℕ → Bool
x below level = ltb x level

abbrev pub ◌at_or_above◌ : ℕ → ℕ → Bool
x at_or_above level = leb level x

abbrev pub ◌at_or_below◌ : ℕ → ℕ → Bool
x at_or_below level = leb x level

-- not from low to high
abbrev pub outside : ℕ → ℕ → ℕ → Bool
outside low high n = n below low || n above high
