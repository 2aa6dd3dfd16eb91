-- The latches as the low five bits of register 0, and each by the one rule that gives all five.
-- Assumes nothing.
use Prim.Native.Nat.{◌+◌, ◌*◌}
use native.Mathlib.Omega.{arith}
use mathlib.Core.Path.{◌≡◌, refl}
use mathlib.Core.Bool.{Bool, true, false}
use mathlib.Core.List.{List, [], ◌∷◌}
use mir.Val.{bool_byte}
use Rattle.lists.specs.Marks.{bit, number}
use Rattle.lists.proofs.Marks.{number_at}
use Rattle.settings.specs.Faults.{Fault, SCD, OCD, OV, UV, OT}
use Rattle.latches.specs.declared.Latches.{Latches}
use Rattle.latches.specs.Latches.{latch, latches, chg_on, dsg_on, register0, latches_byte, latches_of}

-- a bool as a number of its own
pub bool-bit : (b : Bool) → bool_byte b ≡ bit b
bool-bit true = refl
bool-bit false = refl

pub byte-sum : (t : Latches) → latches_byte t ≡ bit t.scd + 2 * bit t.ocd + 4 * bit t.ov + 8 * bit t.uv + 16 * bit t.ot
unfolding latches_byte number
byte-sum t = omega arith

-- register 0 has the latches, and the switches above them
pub register0-sum : (dsg chg : Bool) (t : Latches) → register0 dsg chg t ≡ latches_byte t + 64 * bit (dsg_on dsg t) + 128 * bit (chg_on chg t)
unfolding register0 latches_byte number
register0-sum dsg chg t = omega arith

-- register 1 of its three bits
pub control-sum : (clear dsg chg : Bool) → number (clear ∷ dsg ∷ chg ∷ []) ≡ bit clear + 2 * bit dsg + 4 * bit chg
unfolding number
control-sum clear dsg chg = omega arith

-- what was kept is what is taken out again
pub latches-kept : (t : Latches) → latches_of (latches_byte t) ≡ t
unfolding latches_byte
latches-kept t =
    let l : List Bool = t.scd ∷ t.ocd ∷ t.ov ∷ t.uv ∷ t.ot ∷ [] in
    λ i. record {
      scd = number_at l 0 (omega arith) i;
      ocd = number_at l 1 (omega arith) i;
      ov = number_at l 2 (omega arith) i;
      uv = number_at l 3 (omega arith) i;
      ot = number_at l 4 (omega arith) i;
    }

-- five latches by one rule: each is what the rule says of its fault
pub latch-of : (f : Fault) (on : Fault → Bool) → latch f (latches on) ≡ on f
latch-of SCD on = refl
latch-of OCD on = refl
latch-of OV on = refl
latch-of UV on = refl
latch-of OT on = refl
