-- What an act on a row does not touch, what its answer depends on, and that its refusals come by the table, in its order.
-- Assumes nothing.
use Prim.Native.Nat.{ℕ}
use mathlib.Core.Path.{◌≡◌, refl}
use mathlib.Core.Logic.{◌≢◌}
use mathlib.Core.Bool.{Bool, true, false, cond}
use mathlib.Core.List.{List, [], ◌∷◌}
use lib.Dec.{eqb}
use lib.ListN.{length, set, length-set}
use lib.Seq.{get_or-set_other}
use Rattle.lists.proofs.Split.{split}
use Rattle.refusal.specs.Said.{Bar, first, judged, unless_refused}
use Rattle.refusal.proofs.Laws.{number-back}
use Rattle.board.specs.declared.Board.{Board}
use Rattle.board.specs.declared.Readings.{Readings}
use Rattle.board.specs.Sample.{fresh, board_next, sample_values, answer_said}
use Rattle.frame.specs.Reply.{reply_said}
use Rattle.stack.specs.Row.{good_row, place_of, board_at}
use Rattle.stack.specs.Open.{open_bars, opening_said, open_answer}
use Rattle.stack.specs.Sample.{sample_row_bars, sample_answer, sample_row}
use Rattle.stack.specs.List.{entries_of, list_bars, listing_said, list_answer}
use Rattle.stack.specs.Frame.{frame_place, frame_row_bars, board_framed, frame_reply, frame_answer, frame_row}

-- ---- other records stay, and the row keeps its length
kept-other : (bars : List Bar) (row : List Board) (at : ℕ) (new : Board) (k : ℕ) → k ≢ at → board_at (unless_refused bars row (set row at new)) k ≡ board_at row k
kept-other bars row at new k h = by (eqb (first bars) 0)
  where
    by : (t : Bool) → board_at (cond t (set row at new) row) k ≡ board_at row k
    by true = get_or-set_other row at k new (fresh 0) h
    by false = refl

kept-length : (bars : List Bar) (row : List Board) (at : ℕ) (new : Board) → length (unless_refused bars row (set row at new)) ≡ length row
kept-length bars row at new = by (eqb (first bars) 0)
  where
    by : (t : Bool) → length (cond t (set row at new) row) ≡ length row
    by true = length-set row at new
    by false = refl

pub sample-others : (row : List Board) (n : ℕ) (x : Readings) (mv : List ℕ) (k : ℕ) → k ≢ place_of n → board_at (sample_row row n x mv) k ≡ board_at row k
unfolding sample_row
sample-others row n x mv = kept-other (sample_row_bars row n x mv) row (place_of n) (board_next (board_at row (place_of n)) x mv)

pub sample-length : (row : List Board) (n : ℕ) (x : Readings) (mv : List ℕ) → length (sample_row row n x mv) ≡ length row
unfolding sample_row
sample-length row n x mv = kept-length (sample_row_bars row n x mv) row (place_of n) (board_next (board_at row (place_of n)) x mv)

pub frame-others : (row : List Board) (bytes buffer : List ℕ) (k : ℕ) → k ≢ frame_place bytes → board_at (frame_row row bytes buffer) k ≡ board_at row k
unfolding frame_row
frame-others row bytes buffer = kept-other (frame_row_bars row bytes buffer) row (frame_place bytes) (board_framed row bytes)

pub frame-length : (row : List Board) (bytes buffer : List ℕ) → length (frame_row row bytes buffer) ≡ length row
unfolding frame_row
frame-length row bytes buffer = kept-length (frame_row_bars row bytes buffer) row (frame_place bytes) (board_framed row bytes)

-- ---- an answer depends on that one record and on the row's shape: its length, and that it is good
pub sample-depends : (row other : List Board) (n : ℕ) (x : Readings) (mv : List ℕ) → good_row row ≡ good_row other → length row ≡ length other
    → board_at row (place_of n) ≡ board_at other (place_of n) → sample_answer row n x mv ≡ sample_answer other n x mv
unfolding sample_answer
sample-depends row other n x mv g l b = rw (g, l, b)

pub frame-depends : (row other : List Board) (bytes buffer : List ℕ) → good_row row ≡ good_row other → length row ≡ length other
    → board_at row (frame_place bytes) ≡ board_at other (frame_place bytes) → frame_answer row bytes buffer ≡ frame_answer other bytes buffer
unfolding frame_answer
frame-depends row other bytes buffer g l b = rw (g, l, b)

-- ---- refusals come only by the table, in its order: the answer says the first bar that holds, or the values
pub open_said : (row : List Board) (plans : List ℕ) → opening_said (open_answer row plans) ≡ judged (open_bars (length row) plans) []
unfolding open_answer
open_said row plans =
    let bars = open_bars (length row) plans in
    split (eqb (first bars) 0) (λ e. rw e) (λ e. rw (e, e, number-back bars tt e))

pub sample-said : (row : List Board) (n : ℕ) (x : Readings) (mv : List ℕ)
    → answer_said (sample_answer row n x mv) ≡ judged (sample_row_bars row n x mv) (sample_values (board_at row (place_of n)) x mv)
unfolding sample_answer
sample-said row n x mv =
    let bars = sample_row_bars row n x mv in
    split (eqb (first bars) 0) (λ e. rw e) (λ e. rw (e, e, number-back bars tt e))

pub list-said : (row : List Board) (n : ℕ) (buffer : List ℕ) → listing_said (list_answer row n buffer) ≡ judged (list_bars row n buffer) (length (entries_of row n) ∷ [])
unfolding list_answer
list-said row n buffer =
    let bars = list_bars row n buffer in
    split (eqb (first bars) 0) (λ e. rw e) (λ e. rw (e, e, number-back bars tt e))

pub frame-said : (row : List Board) (bytes buffer : List ℕ) → reply_said (frame_answer row bytes buffer) ≡ judged (frame_row_bars row bytes buffer) (frame_reply row bytes)
unfolding frame_answer
frame-said row bytes buffer =
    let bars = frame_row_bars row bytes buffer in
    split (eqb (first bars) 0) (λ e. rw e) (λ e. rw (e, e, number-back bars tt e))
