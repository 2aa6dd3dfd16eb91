-- Numbers in bytes at a place, by those bytes.
-- Assumes nothing.
use Prim.Native.Nat.{ℕ, ◌+◌}
use native.Mathlib.Omega.{arith}
use mathlib.Core.Path.{◌≡◌, sym, ap, ◌∙◌}
use mathlib.Core.List.{List}
use lib.ListN.{get_or, drop, length-drop}
use lib.Seq.{get_or-drop, drop-drop}
use Rattle.std.proofs.lemmas.Bool.Decides.{nat_tests}
use Rattle.format.specs.Read.{number_in}

pub one_in : (bytes : List ℕ) (at : ℕ) → number_in 1 (drop at bytes) ≡ get_or bytes at 0
unfolding number_in
one_in bytes at = let here : at + 0 ≡ at = omega arith in omega (arith, get_or-drop at bytes 0 0 ∙ ap (λ (i : ℕ). get_or bytes i 0) here)

-- the byte behind the one that is read
pub byte_behind : (at : ℕ) (bytes : List ℕ) → number_in 1 (drop (at + 1) bytes) ≡ number_in 1 (drop 1 (drop at bytes))
byte_behind at bytes = sym (ap (number_in 1) (drop-drop 1 at bytes))

-- a field of what is left, for `grind`
pub ruleset fields = (nat_tests, length-drop, byte_behind)
