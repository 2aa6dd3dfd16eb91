-- What a walk over the row keeps is what is kept of its boards' summaries; and the reading that follows from it.
-- Assumes nothing.
use Prim.Native.Nat.{suc, ◌<◌, ◌≤◌}
use native.Mathlib.Numerals.{add-one}
use native.Mathlib.Omega.{arith}
use mathlib.Core.Path.{◌≡◌, refl, sym, ◌∙◌}
use mathlib.Core.Bool.{Bool, true, false, cond, not}
use mathlib.Core.List.{List, [], ◌∷◌, ◌++◌, map, append-nil, append_assoc}
use lib.Dec.{leb}
use lib.ListN.{length, take, length-map, length-append}
use lib.Seq.{take_all, take-append-le}
use borrow.Author.Tests.{leb-true, leb-false}
use Rattle.lists.specs.Every.{every}
use Rattle.lists.proofs.Split.{split}
use Rattle.reading.proofs.Along.{folded}
use Rattle.board.specs.declared.Board.{Board}
use Rattle.board.specs.Sample.{bad_board}
use Rattle.reading.specs.declared.Seen.{Seen}
use Rattle.reading.specs.declared.Summary.{Summary}
use Rattle.reading.specs.Reading.{summary_of, read_of, place, first_flagged}
use Rattle.reading.specs.Way.{some_flag, seen_of, seen_with, seen_row, first_from, read_row}
use Rattle.reading.proofs.Gathered.{seen_more, whole-seen, none-flagged}
use Rattle.reading.proofs.Searching.{first_good}

-- ---- the walk over the row
-- after the boards `south`
abbrev so_far : List Summary → Seen
so_far south = seen_of (take 16 south)

one_more : (south : List Summary) (x : Summary) → length (south ++ (x ∷ [])) ≡ suc (length south)
one_more south x = length-append south (x ∷ []) ∙ add-one (length south)

see-next : (south : List Summary) (b : Board) → seen_with (so_far south) (length south) b ≡ so_far (south ++ (summary_of b ∷ []))
unfolding seen_with
see-next south b =
    let x = summary_of b in
    split (leb 16 (length south))
    (λ e. rw (e, take-append-le 16 south (x ∷ []) (leb-true 16 (length south) e)))
    (λ e.
    let few : length south < 16 = leb-false 16 (length south) e in
    let short : length (south ++ (x ∷ [])) ≤ 16 = rw (one_more south x) few in
    rw (take_all 16 south (omega arith), take_all 16 (south ++ (x ∷ [])) short) (seen_more south b few))

folds : (south : List Summary) (row : List Board) → folded seen_with (so_far south) (length south) row ≡ so_far (south ++ map summary_of row)
unfolding folded
folds south [] = rw (append-nil south)
folds south (b ∷ row) =
    rw (see-next south b, ← (one_more south (summary_of b)), folds (south ++ (summary_of b ∷ [])) row, append_assoc south (summary_of b ∷ []) (map summary_of row))

pub row-folds : (row : List Board) → folded seen_with (seen_of []) 0 row ≡ seen_row row
unfolding seen_row
row-folds row = folds [] row

-- ---- the reading, of a row of 16 good boards at most
module _ (row : List Board) (few : length row ≤ 16) (good : every (λ b. not (bad_board b)) row ≡ true) where
  -- where no board has a flag, the search has nothing to find
  sought-cell : (some : Bool) → some_flag (map summary_of row) ≡ some → cond some (first_from 0 row) (place 0 0) ≡ first_flagged 1 (map summary_of row)
  sought-cell true e = first_good row few good
  sought-cell false e = sym (none-flagged 1 (map summary_of row) e)

  pub is_read : read_row row ≡ read_of (map summary_of row)
  unfolding read_row seen_row seen_of
  is_read =
      let short : length (map summary_of row) ≤ 16 = rw (length-map row summary_of) few in
      rw (take_all 16 (map summary_of row) short, sought-cell (some_flag (map summary_of row)) refl) (whole-seen (map summary_of row))
