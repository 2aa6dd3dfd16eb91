-- An opening of more counts than a line keeps is refused as one of those that it keeps.
-- Assumes nothing.
use Prim.Native.Nat.{ℕ, ◌≤◌}
use native.Mathlib.Omega.{arith}
use mathlib.Core.Path.{◌≡◌, sym, ◌∙◌}
use mathlib.Core.List.{List}
use lib.ListN.{length, take, length-take}
use Rattle.held.specs.Held.{open_of}
use Rattle.held.proofs.Opens.{over}

pub many-refused : (counts : List ℕ) → 21 ≤ length counts → open_of (take 21 counts) ≡ open_of counts
many-refused counts h = over (take 21 counts) (rw (length-take 21 counts) (omega arith)) ∙ sym (over counts (omega arith))
