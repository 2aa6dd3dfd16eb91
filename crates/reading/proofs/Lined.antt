-- The fault line board by board is the paper's, of a row of 16 boards at most.
-- Assumes nothing.
use Prim.Native.Nat.{ℕ, ◌+◌, ◌≤◌, min}
use native.Mathlib.Omega.{arith}
use mathlib.Core.Path.{◌≡◌, ap, ◌∙◌}
use mathlib.Core.Bool.{false}
use mathlib.Core.List.{List, [], ◌∷◌, map}
use lib.ListN.{length}
use Rattle.lists.proofs.Split.{split}
use Rattle.board.specs.declared.Board.{Board}
use Rattle.reading.specs.declared.Line.{Line}
use Rattle.reading.specs.Reading.{summary_of, line_up}
use Rattle.reading.specs.Line.{looked_at, line_of}
use Rattle.reading.specs.Way.{line_from, line_row}

-- of the boards from place i on: the line, and those that were looked at before
abbrev counted : ℕ → List Board → Line
counted i row = record { up = line_up (map summary_of row); looked = min (i + looked_at (map summary_of row)) 16 }

line-is : (i : ℕ) (row : List Board) → line_from i row ≡ counted i row
unfolding line_from line_up looked_at
line-is i [] =
    let none : min i 16 ≡ min (i + 0) 16 = omega arith in
    λ t. record { up = false; looked = none t }
line-is i (b ∷ row) =
    split (summary_of b).latched
    (λ e. rw e)
    (λ e. rw e (line-is (i + 1) row ∙ further))
  where
    further : counted (i + 1) row ≡ record { up = line_up (map summary_of row); looked = min (i + (looked_at (map summary_of row) + 1)) 16 }
    further =
        let n = looked_at (map summary_of row) in
        let one : i + 1 + n ≡ i + (n + 1) = omega arith in
        ap (λ (m : ℕ). record { up = line_up (map summary_of row); looked = min m 16 }) one

looked-few : (row : List Board) → looked_at (map summary_of row) ≤ length row
unfolding looked_at
looked-few [] = omega arith
looked-few (b ∷ row) = split (summary_of b).latched (λ e. rw e (omega arith)) (λ e. rw e (omega (arith, looked-few row)))

pub line-good : (row : List Board) → length row ≤ 16 → line_row row ≡ line_of (map summary_of row)
line-good row few =
    let n = looked_at (map summary_of row) in
    let all : min (0 + n) 16 ≡ n = omega (arith, looked-few row, few) in
    line-is 0 row ∙ λ t. record { up = line_up (map summary_of row); looked = all t }
