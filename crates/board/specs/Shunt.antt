-- The signed shunt reading, in microvolts (01, The stack and its readings).
-- Assumes nothing.
use Rattle.std.specs.Prelude.{ℕ, Bool, ◌||◌, ℤ, pos, negsuc}
use Rattle.std.specs.Int.Signed.{lt_z}

-- a threshold is compared with the reading itself: discharge is positive, charge negative
unfoldable pub shunt_above : ℕ → ℤ → Bool
shunt_above level shunt = lt_z (pos level) shunt

-- outside -500,000 to 500,000 µV (negsuc k is -(k + 1))
abbrev pub shunt_outside : ℤ → Bool
shunt_outside shunt = lt_z shunt (negsuc 499999) || lt_z (pos 500000) shunt
