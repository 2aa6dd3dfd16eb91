-- The laws of the whole-stack reading: the line over a row in two parts, and when no flagged cell is named.
-- Assumes nothing.
use Prim.Native.Nat.{ℕ, ◌+◌, ◌<◌}
use native.Mathlib.Omega.{arith}
use mathlib.Core.Path.{◌≡◌, refl}
use mathlib.Core.Bool.{Bool, true, false, cond, ◌&&◌, ◌||◌, or_assoc}
use mathlib.Core.List.{List, [], ◌∷◌, ◌++◌}
use borrow.Author.Tests.{ne_eqb}
use lib.Dec.{eqb}
use Rattle.lists.specs.Marks.{number, marks}
use Rattle.lists.proofs.Marks.{lowest-zero}
use Rattle.reading.specs.declared.Summary.{Summary}
use Rattle.reading.specs.declared.Place.{Place}
use Rattle.lists.specs.Every.{every}
use Rattle.reading.specs.Reading.{line_up, lowest_flagged, place, first_flagged}

-- the line is up exactly if some board has a latch, in whichever part of the row
pub line-any : (xs ys : List Summary) → line_up (xs ++ ys) ≡ (line_up xs || line_up ys)
unfolding line_up
line-any [] ys = refl
line-any (x ∷ xs) ys = rw (line-any xs ys, or_assoc)

-- the number of a board's flagged cells is 0
abbrev pub unflagged : Summary → Bool
unflagged board = eqb (number (marks board.count board.flags)) 0

-- a place names board 0, and cell 0, exactly if the test holds
abbrev pub Nowhere : Place → Bool → Type 0
Nowhere p test = (eqb p.board 0 ≡ test) × (eqb p.cell 0 ≡ test)

nowhere-cond : (t : Bool) (x y : Place) (r : Bool) → Nowhere x r → (t ≡ false → Nowhere y false) → Nowhere (cond t x y) (t && r)
nowhere-cond true x y r p q = p
nowhere-cond false x y r p q = q refl

-- 0 and 0 are named exactly if no board has a flagged cell
pub first-nowhere : (k : ℕ) (boards : List Summary) → 0 < k → Nowhere (first_flagged k boards) (every unflagged boards)
unfolding first_flagged every
first-nowhere k [] p = (refl, refl)
first-nowhere k (b ∷ bs) p =
    rw (← (lowest-zero 0 (marks b.count b.flags))) (nowhere-cond (eqb (lowest_flagged b) 0) (first_flagged (k + 1) bs) (place k (lowest_flagged b)) (every unflagged bs) (first-nowhere (k + 1) bs (omega arith)) (λ e. (ne_eqb k 0 (λ z. omega arith), e)))
