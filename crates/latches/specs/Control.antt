-- Register 1 of a host board (02, ticket 3).
-- Assumes nothing.
use Rattle.std.specs.Prelude.{ℕ, Bool, cond, [], ◌∷◌}
use Rattle.lists.specs.Marks.{number, marked}
use Rattle.latches.specs.declared.Latches.{Latches}
use Rattle.latches.specs.Latches.{any_latch, chg_on, dsg_on}

-- b0 latch clear, b1 DSG, b2 CHG
abbrev pub clear_bit : ℕ → Bool
clear_bit v = marked v 0

abbrev pub dsg_bit : ℕ → Bool
dsg_bit v = marked v 1

abbrev pub chg_bit : ℕ → Bool
chg_bit v = marked v 2

-- faults that latch clear the bits of the switches that they forbid; where none latches it stays
unfoldable pub control_next : ℕ → Latches → ℕ
control_next v up = cond (any_latch up) (number (clear_bit v ∷ dsg_on (dsg_bit v) up ∷ chg_on (chg_bit v) up ∷ [])) v
