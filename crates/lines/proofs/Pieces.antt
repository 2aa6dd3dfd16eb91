-- The first piece of some bytes, and the lines of an input byte by byte.
-- Assumes nothing.
use Prim.Native.Nat.{ℕ}
use mathlib.Core.Path.{◌≡◌, refl}
use mathlib.Core.Bool.{cond}
use mathlib.Core.List.{List, [], ◌∷◌, ◌++◌, append_assoc, append-nil}
use lib.Dec.{eqb}
use lib.ListN.{length, drop}
use borrow.Table.Steps.{cases}
use Rattle.lines.specs.Lines.{before, pieces, ended, left}

-- the pieces behind the first: none at the end, and behind a c those that follow it; behind any other byte one that is empty
unfoldable pub behind : ℕ → List ℕ → List (List ℕ)
behind c [] = []
behind c (b ∷ s) = cond (eqb b c) (pieces c s) ([] ∷ [])

pub first_piece : (c : ℕ) (s : List ℕ) → pieces c s ≡ before c s ∷ behind c (drop (length (before c s)) s)
unfolding pieces before behind
first_piece c [] = refl
first_piece c (b ∷ s) = cases (eqb b c) (λ e. rw (e, e)) (λ e. rw (e, first_piece c s))

-- ---- one byte of an input

pub ended-none : (p : List ℕ) → ended p [] ≡ []
unfolding ended pieces
ended-none p = refl

pub left-none : (p : List ℕ) → left p [] ≡ p
unfolding left pieces
left-none p = append-nil p

pub ended-byte : (p : List ℕ) (b : ℕ) (s : List ℕ) → ended p (b ∷ s) ≡ cond (eqb b 10) (p ∷ ended [] s) (ended (p ++ (b ∷ [])) s)
unfolding ended pieces
ended-byte p b s =
    cases (eqb b 10) (λ e. rw (e, first_piece 10 s, append-nil p))
    λ e. rw (e, first_piece 10 s, append_assoc p (b ∷ []) (before 10 s))

pub left-byte : (p : List ℕ) (b : ℕ) (s : List ℕ) → left p (b ∷ s) ≡ cond (eqb b 10) (left [] s) (left (p ++ (b ∷ [])) s)
unfolding left pieces
left-byte p b s =
    cases (eqb b 10) (λ e. rw (e, first_piece 10 s))
    λ e. rw (e, first_piece 10 s, append_assoc p (b ∷ []) (before 10 s))

-- a newline alone ends the line that has begun
pub ended-newline : (p : List ℕ) → ended p (10 ∷ []) ≡ p ∷ []
ended-newline p = rw (ended-byte p 10 [], ended-none)

pub left-newline : (p : List ℕ) → left p (10 ∷ []) ≡ []
left-newline p = rw (left-byte p 10 [], left-none)
