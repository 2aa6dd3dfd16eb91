-- Bytes cut apart at one of them, and so the lines of an input (01, The bench program).
-- Assumes nothing.
use Rattle.std.specs.Prelude.{ℕ, cond, List, [], ◌∷◌, ◌++◌, eqb}

-- the bytes in front of the first c, or all where there is none
unfoldable pub before : ℕ → List ℕ → List ℕ
before c [] = []
before c (b ∷ s) = cond (eqb b c) [] (b ∷ before c s)

-- bytes in front of pieces belong to the first of them
abbrev pub onto : List ℕ → List (List ℕ) → List (List ℕ)
onto p [] = p ∷ []
onto p (w ∷ ws) = (p ++ w) ∷ ws

-- the pieces that stand between the bytes c: always one more than there are of those
unfoldable pub pieces : ℕ → List ℕ → List (List ℕ)
pieces c [] = [] ∷ []
pieces c (b ∷ s) = cond (eqb b c) ([] ∷ pieces c s) (onto (b ∷ []) (pieces c s))

-- the last piece, and those in front of it
abbrev pub last_of : List (List ℕ) → List ℕ
last_of [] = []
last_of (w ∷ []) = w
last_of (w ∷ v ∷ ws) = last_of (v ∷ ws)

abbrev pub but_last : List (List ℕ) → List (List ℕ)
but_last [] = []
but_last (w ∷ []) = []
but_last (w ∷ v ∷ ws) = w ∷ but_last (v ∷ ws)

-- a line ends at a newline, and at nothing else
abbrev pub newline : ℕ
newline = 10

-- of an input whose first line has begun with p: the lines that end in it, and what is there of the next
unfoldable pub ended : List ℕ → List ℕ → List (List ℕ)
ended p s = but_last (onto p (pieces newline s))

unfoldable pub left : List ℕ → List ℕ → List ℕ
left p s = last_of (onto p (pieces newline s))

-- the input's last line needs no newline; behind a last newline no line follows
unfoldable pub last_line : List ℕ → List (List ℕ)
last_line [] = []
last_line (b ∷ s) = (b ∷ s) ∷ []

unfoldable pub lines_of : List ℕ → List (List ℕ)
lines_of s = ended [] s ++ last_line (left [] s)

-- the line that begins at a place
abbrev pub up_to : List ℕ → List ℕ
up_to s = before newline s
