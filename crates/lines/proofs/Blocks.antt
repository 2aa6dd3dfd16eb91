-- Lines fed in parts, and the last line.
-- Assumes nothing.
use Prim.Native.Nat.{ℕ}
use mathlib.Core.Path.{◌≡◌}
use mathlib.Core.List.{List, [], ◌∷◌, ◌++◌, append-nil}
use lib.Dec.{eqb}
use borrow.Table.Steps.{cases}
use Rattle.lines.specs.Lines.{ended, left, last_line, lines_of}
use Rattle.lines.proofs.Pieces.{ended-none, left-none, ended-byte, left-byte, ended-newline, left-newline}

-- the lines of a and then b are those of a, and those of b behind what a leaves
pub ended-append : (p a b : List ℕ) → ended p (a ++ b) ≡ ended p a ++ ended (left p a) b
ended-append p [] b = rw (ended-none p, left-none p)
ended-append p (x ∷ a) b =
    rw (ended-byte p x (a ++ b), ended-byte p x a, left-byte p x a)
    (cases (eqb x 10) (λ e. rw (e, ended-append [] a b)) λ e. rw (e, ended-append (p ++ (x ∷ [])) a b))

pub left-append : (p a b : List ℕ) → left p (a ++ b) ≡ left (left p a) b
left-append p [] b = rw (left-none p)
left-append p (x ∷ a) b =
    rw (left-byte p x (a ++ b), left-byte p x a)
    (cases (eqb x 10) (λ e. rw (e, left-append [] a b)) λ e. rw (e, left-append (p ++ (x ∷ [])) a b))

-- a newline at the end makes a line of what was left, and no further one
pub newline-last : (s : List ℕ) → lines_of (s ++ (10 ∷ [])) ≡ ended [] s ++ (left [] s ∷ [])
unfolding lines_of last_line
newline-last s = rw (ended-append [] s (10 ∷ []), left-append [] s (10 ∷ []), ended-newline, left-newline, append-nil (ended [] s ++ (left [] s ∷ [])))

-- so the last line is the same with its newline and without
pub newline-or-not : (s : List ℕ) (b : ℕ) (l : List ℕ) → left [] s ≡ b ∷ l → lines_of (s ++ (10 ∷ [])) ≡ lines_of s
unfolding lines_of last_line
newline-or-not s b l e = rw (newline-last s, e)
