-- What can not be recorded changes no record: an accepted act always can be, so the others are refused (02, ticket 10).
-- Assumes nothing.
use Prim.Native.Nat.{ℕ, ◌+◌, ◌*◌, ◌^◌, ◌<◌, ◌≤◌}
use native.Mathlib.Omega.{arith}
use mathlib.Core.Path.{◌≡◌, refl, sym, ap, ◌∙◌}
use mathlib.Core.Bool.{Bool, true, false, true≢false, not, ◌||◌, or-false}
use mathlib.Core.List.{List, [], ◌∷◌}
use lib.Dec.{eqb, ltb, leb}
use lib.IntN.{ℤ, pos, negsuc}
use lib.ListN.{length}
use borrow.Author.Tests.{eqb-true, ltb-false, leb-true, lt-ltb, le-leb, ne_eqb, not-false}
use Rattle.lists.specs.Every.{every}
use Rattle.lists.proofs.Split.{split, both}
use Rattle.refusal.specs.Said.{first}
use Rattle.cells.specs.Cells.{readable}
use Rattle.format.specs.Format as format
use Rattle.format.proofs.Sizes.{sample-length}
use Rattle.board.specs.declared.Board.{Board}
use Rattle.board.specs.declared.Readings.{Readings}
use Rattle.board.specs.Shunt.{shunt_outside}
use Rattle.board.proofs.Counts.{within}
use Rattle.stack.specs.Row.{bad_count, good_row, place_of, board_at}
use Rattle.stack.specs.Sample.{sample_row_bars, sample_row}
use Rattle.stack.specs.Frame.{frame_row_bars, frame_row}
use Rattle.stack.proofs.Ways.{board-few}
use Rattle.demands.specs.Acts.{sample, frame, listing, reading, up}
use Rattle.demands.specs.Recorded.{can_record, GapsChangeNothing}
use Rattle.demands.proofs.Table.{none_is}

-- ---- the fields of an accepted sample

cells_fit : (mv : List ℕ) → readable mv ≡ true → every (format.fits 2) mv ≡ true
unfolding every
cells_fit [] e = refl
cells_fit (v ∷ mv) e =
    let here = both (leb v 5000) (readable mv) e in
    rw (lt-ltb v (256 ^ 2) (omega (arith, leb-true v 5000 here.0)), cells_fit mv here.1)

shunt-fits : (z : ℤ) → shunt_outside z ≡ false → format.fits_signed z ≡ true
shunt-fits (pos n) e = lt-ltb n 2147483648 (omega (arith, ltb-false 500000 n e))
shunt-fits (negsuc k) e = lt-ltb k 2147483648 (omega (arith, ltb-false 499999 k (sym (or-false (ltb 499999 k)) ∙ e)))

range : (a b c d : Bool) → (not a || b || c || d) ≡ false → (a ≡ true) × (b ≡ false) × (c ≡ false) × (d ≡ false)
range true false false false e = (refl, refl, refl, refl)
range true false false true e = absurd (true≢false e)
range true false true d e = absurd (true≢false e)
range true true c d e = absurd (true≢false e)
range false b c d e = absurd (true≢false e)

-- ---- an accepted act can be recorded

place-below : (n m : ℕ) → 1 ≤ n → n ≤ m → place_of n < m
place-below n m low high = rw (ne_eqb n 0 (λ e. omega (arith, e, low))) (omega arith)

sample-can : (row : List Board) (n : ℕ) (x : Readings) (mv : List ℕ) → eqb (first (sample_row_bars row n x mv)) 0 ≡ true → can_record (sample n x mv) ≡ true
unfolding format.recordable good_row
sample-can row n x mv accepted =
    let rows = sample_row_bars row n x mv in
    let none = none_is rows refl (eqb-true (first rows) 0 accepted) in
    let good : good_row row ≡ true = not-false (good_row row) none.0 in
    let boards : length row ≤ 16 = (within 1 16 (length row) (both (not (bad_count (length row))) _ good).0).1 in
    let number = within 1 (length row) n (ap not none.1.0) in
    let there : place_of n < length row = place-below n (length row) number.0 number.1 in
    let count : length mv ≡ (board_at row (place_of n)).count = eqb-true _ _ (not-false _ none.1.1.0) in
    let few : (board_at row (place_of n)).count ≤ 10 = board-few row good (place_of n) there in
    let elapsed : x.elapsed ≤ 100000 = (within 1 100000 x.elapsed (ap not none.1.1.1.0)).1 in
    let in-range = range (readable mv) (ltb 5000 x.thermistor) (shunt_outside x.shunt) (ltb 1 x.load) none.1.1.1.1.0 in
    let body = length (format.body_of (format.sample n x.elapsed x.load x.thermistor x.shunt mv)) in
    let long : body ≡ 12 + 2 * length mv = sample-length n x.elapsed x.load x.thermistor x.shunt mv in
    rw (lt-ltb n (256 ^ 1) (omega (arith, boards, number.1)), lt-ltb x.elapsed (256 ^ 4) (omega (arith, elapsed)), lt-ltb x.load (256 ^ 1) (omega (arith, ltb-false 1 x.load in-range.3)), lt-ltb x.thermistor (256 ^ 2) (omega (arith, ltb-false 5000 x.thermistor in-range.1)), shunt-fits x.shunt in-range.2, cells_fit mv in-range.0, le-leb body 255 (omega (arith, long, count, few)))

frame-can : (row : List Board) (bytes buffer : List ℕ) → eqb (first (frame_row_bars row bytes buffer)) 0 ≡ true → can_record (frame bytes buffer) ≡ true
unfolding format.recordable format.body_of
frame-can row bytes buffer accepted =
    let rows = frame_row_bars row bytes buffer in
    let none = none_is rows refl (eqb-true (first rows) 0 accepted) in
    let four : length bytes ≡ 4 = eqb-true (length bytes) 4 (not-false _ none.1.0) in
    let room : 4 ≤ length buffer = ltb-false (length buffer) 4 none.1.1.0 in
    rw (le-leb (length bytes) 255 (omega (arith, four)), le-leb 4 (length buffer) room)

-- ---- so one that can not be is refused, and leaves the row

pub gaps : GapsChangeNothing
unfolding sample_row frame_row
gaps row (sample n x mv) e =
    split (eqb (first (sample_row_bars row n x mv)) 0) (λ t. absurd (true≢false (sym (sample-can row n x mv t) ∙ e))) (λ t. rw t)
gaps row (frame bytes buffer) e =
    split (eqb (first (frame_row_bars row bytes buffer)) 0) (λ t. absurd (true≢false (sym (frame-can row bytes buffer t) ∙ e))) (λ t. rw t)
gaps row (listing n buffer) e = refl
gaps row reading e = refl
gaps row up e = refl
