-- The routines go by the record at a place in a row that was found good, and the paper by its table: the two are the same.
-- Assumes nothing.
use Prim.Native.Nat.{ℕ, zero, suc, ◌*◌, ◌/◌, ◌<◌, ◌≤◌}
use native.Mathlib.Omega.{arith}
use mathlib.Core.Path.{◌≡◌, refl, sym, ap, ◌∙◌}
use mathlib.Core.Bool.{Bool, true, false, cond, not}
use mathlib.Core.List.{List, [], ◌∷◌, ◌++◌}
use lib.Dec.{ltb, eqb}
use lib.ListN.{length, set, drop}
use lib.Seq.{set-get_or}
use borrow.Author.Tests.{lt-ltb, le-ltb, ltb-true, ltb-false, ne_eqb}
use Rattle.lists.specs.Every.{every}
use Rattle.lists.proofs.Split.{split, both, not_yes}
use Rattle.lists.proofs.Every.{every-at}
use Rattle.std.specs.Prelude.{Result, Ok, Err}
use Rattle.std.specs.Result.{IsErrAnd}
use Rattle.std.proofs.lemmas.Result.{err_from_is_err_and}
use Rattle.refusal.specs.declared.Refusal.{Refusal}
use Rattle.refusal.specs.Refusals.{numbered}
use Rattle.refusal.specs.Said.{first, accepts, refuses}
use Rattle.board.specs.declared.Board.{Board}
use Rattle.board.specs.declared.Readings.{Readings}
use Rattle.board.specs.Sample.{fresh, plan_in, bad_board, reading_bars, board_next, sample_of}
use Rattle.frame.specs.declared.Taken.{Taken}
use Rattle.frame.specs.declared.Reply.{Reply}
use Rattle.frame.specs.Frame.{byte, board_of, writes}
use Rattle.frame.specs.Check.{check_of}
use Rattle.frame.specs.Reply.{reply_bytes, reply_saying}
use Rattle.frame.specs.Way.{parts_of, taken_apart, outcome_saying, reply_by, reply_of, buffer_with}
use Rattle.registers.specs.Registers.{access_bars, reply_value, obeyed_of}
use Rattle.stack.specs.Row.{bad_count, good_row, no_board, place_of, board_at}
use Rattle.stack.specs.Sample.{sample_answer, sample_row}
use Rattle.stack.specs.Way.{row_checked, place_in, sample_answer_at, sample_row_at, entries_in, too_long, listing_in, buffer_in, list_answer_at, list_buffer_at, obey_outcome_at, obey_row_at, taken_answer, taken_row, frame_answer_in, frame_row_in, frame_buffer_in}
use Rattle.stack.specs.List.{list_answer, list_buffer}
use Rattle.stack.specs.Frame.{frame_place, frame_board, board_framed, frame_answer, frame_row, frame_buffer}
use Rattle.board.proofs.Counts.{within, good-plan}

-- a record that is new only where the act is accepted
set-kept : (accepted : Bool) (row : List Board) (at : ℕ) (new : Board) → set row at (cond accepted new (board_at row at)) ≡ cond accepted (set row at new) row
set-kept true row at new = refl
set-kept false row at new = set-get_or row at (fresh 0)

-- a buffer has room for so many entries exactly if it has three words for each
room_by : (words many : ℕ) → ltb (words / 3) many ≡ ltb words (3 * many)
room_by words many =
    split (ltb words (3 * many))
    (λ e. lt-ltb (words / 3) many (omega (arith, ltb-true words (3 * many) e)) ∙ sym e)
    (λ e. le-ltb (words / 3) many (omega (arith, ltb-false words (3 * many) e)) ∙ sym e)

module _ (row : List Board) (good : good_row row ≡ true) where
  -- 1 to 16 boards
  pub row-size : (1 ≤ length row) × (length row ≤ 16)
  unfolding good_row
  row-size = within 1 16 (length row) (both (not (bad_count (length row))) (every (λ b. not (bad_board b)) row) good).0

  -- each of them by a good plan, so with at most ten cells
  pub board-good : (at : ℕ) → at < length row → bad_board (board_at row at) ≡ false
  unfolding good_row
  board-good at p =
      not_yes (bad_board (board_at row at)) (every-at (λ b. not (bad_board b)) row at (fresh 0) (both (not (bad_count (length row))) (every (λ b. not (bad_board b)) row) good).1 p)

  pub board-few : (at : ℕ) → at < length row → (board_at row at).count ≤ 10
  board-few at p = let b = board_at row at in good-plan (plan_in b) (ap not (board-good at p))

  place-next : (k : ℕ) → place_of (suc k) ≡ k
  place-next k = rw (ne_eqb (suc k) 0 (λ e. omega arith)) (omega arith)

  -- a number has a board exactly if its place is in the row
  pub has-board : (n : ℕ) → place_of n < length row → no_board row n ≡ false
  has-board zero p = absurd (omega (arith, row-size.1))
  has-board (suc k) p =
      let q : k < length row = rw (place-next k) at p in
      rw (le-ltb (suc k) 1 (omega arith), le-ltb (length row) (suc k) (omega arith))

  pub has-none : (n : ℕ) → length row ≤ place_of n → no_board row n ≡ true
  has-none zero p = refl
  has-none (suc k) p =
      let q : length row ≤ k = rw (place-next k) at p in
      rw (le-ltb (suc k) 1 (omega arith), lt-ltb (length row) (suc k) (omega arith))

  -- a sample of a good row
  pub sample-good : (n : ℕ) (x : Readings) (mv : List ℕ) → (sample_answer_at row n x mv ≡ sample_answer row n x mv) × (sample_row_at row n x mv ≡ sample_row row n x mv)
  unfolding sample_answer_at sample_answer sample_row_at sample_row sample_of
  sample-good n x mv =
      split (ltb (place_of n) (length row))
      (λ e.
      let there = ltb-true (place_of n) (length row) e in (
        rw (e, good, has-board n there, board-good (place_of n) there),
        rw (e, good, has-board n there, board-good (place_of n) there)
            (set-kept (eqb (first (reading_bars (board_at row (place_of n)) x mv)) 0) row (place_of n) (board_next (board_at row (place_of n)) x mv)),
      ))
      (λ e. let none = has-none n (ltb-false (place_of n) (length row) e) in (rw (e, good, none), rw (e, good, none)))

  -- a listing of a good row
  pub list-good : (n : ℕ) (buffer : List ℕ) → (list_answer_at row n buffer ≡ list_answer row n buffer) × (list_buffer_at row n buffer ≡ list_buffer row n buffer)
  unfolding list_answer_at list_answer list_buffer_at list_buffer listing_in buffer_in
  list-good n buffer =
      let b = board_at row (place_of n) in
      let few = room_by (length buffer) (length (entries_in b)) in
      split (ltb (place_of n) (length row))
      (λ e.
      let there = has-board n (ltb-true (place_of n) (length row) e) in
      split (too_long b buffer)
      (λ t. (rw (e, good, there, few, t), rw (e, good, there, few, t)))
      (λ t. (rw (e, good, there, few, t), rw (e, good, there, few, t))))
      (λ e. let none = has-none n (ltb-false (place_of n) (length row) e) in (rw (e, good, none), rw (e, good, none)))

-- a listing of a bad row
pub list-bad : (row : List Board) (n : ℕ) (buffer : List ℕ) → good_row row ≡ false → (Err (numbered 1) ≡ list_answer row n buffer) × (buffer ≡ list_buffer row n buffer)
unfolding list_answer list_buffer
list-bad row n buffer bad = (rw bad, rw bad)

-- a sample of a bad row
pub sample-bad : (row : List Board) (n : ℕ) (x : Readings) (mv : List ℕ) → good_row row ≡ false → (Err (numbered 1) ≡ sample_answer row n x mv) × (row ≡ sample_row row n x mv)
unfolding sample_answer sample_row
sample-bad row n x mv bad = (rw bad, rw bad)

-- ---- a frame

-- the reply to an access that is judged by its bars, and the buffer that it is put into
abbrev judged_reply : ℕ → ℕ → ℕ → ℕ → Result Reply Refusal
judged_reply n address register v = reply_saying (cond (eqb n 0) (accepts (reply_bytes address register v)) (refuses n))

reply-judged : (t : Taken) (n v : ℕ) → let asked = t.request in eqb t.check (check_of (asked.address ∷ asked.register ∷ asked.value ∷ [])) ≡ true
    → reply_of t (outcome_saying (cond (eqb n 0) (accepts (v ∷ [])) (refuses n))) ≡ judged_reply n asked.address asked.register v
unfolding reply_by
reply-judged t n v right = split (eqb n 0) (λ e. rw (e, right)) (λ e. rw (e, e))

put-judged : (n address register v : ℕ) (buffer : List ℕ) → buffer_with buffer (judged_reply n address register v) ≡ cond (eqb n 0) (reply_bytes address register v ++ drop 4 buffer) buffer
put-judged n address register v buffer = split (eqb n 0) (λ e. rw e) (λ e. rw (e, e))

-- what the routine does on a row is what the paper says of it
abbrev Framed : List Board → List ℕ → List ℕ → Result Reply Refusal → List Board → List ℕ → Type 0
Framed row bytes buffer answer after put = (answer ≡ frame_answer row bytes buffer) × ((after ≡ frame_row row bytes buffer) × (put ≡ frame_buffer row bytes buffer))

module _ (bytes : List ℕ) (room : ℕ) where
  abbrev right : Bool
  right = eqb (byte bytes 3) (check_of (byte bytes 0 ∷ byte bytes 1 ∷ byte bytes 2 ∷ []))

  apart_none : eqb (length bytes) 4 ≡ true → ltb room 4 ≡ false → right ≡ true → taken_apart bytes room ≡ Ok (parts_of bytes)
  unfolding taken_apart
  apart_none e6 e7 e8 = rw (e6, e7, e8)

-- a frame to a board of a good row
module _ (row : List Board) (bytes buffer : List ℕ) (good : good_row row ≡ true) (e6 : eqb (length bytes) 4 ≡ true) (e7 : ltb (length buffer) 4 ≡ false) (e8 : right bytes (length buffer) ≡ true) where
  abbrev barred : ℕ
  barred = first (access_bars (frame_board row bytes) (writes (byte bytes 0)) (byte bytes 1) (byte bytes 2))

  abbrev told : ℕ
  told = reply_value (board_framed row bytes) (writes (byte bytes 0)) (byte bytes 1) (byte bytes 2)

  abbrev reply : Result Reply Refusal
  reply = judged_reply barred (byte bytes 0) (byte bytes 1) told

  abbrev sent : Result Taken Refusal
  sent = Ok (parts_of bytes)

  -- which is there
  module _ (e : ltb (frame_place bytes) (length row) ≡ true) where
    there : no_board row (board_of (byte bytes 0)) ≡ false
    there = has-board row good (board_of (byte bytes 0)) (ltb-true (frame_place bytes) (length row) e)

    obeyed : obey_outcome_at row (parts_of bytes).request ≡ outcome_saying (cond (eqb barred 0) (accepts (told ∷ [])) (refuses barred))
    unfolding obey_outcome_at obeyed_of
    obeyed = rw e

    replied : taken_answer row sent ≡ reply
    replied = ap (reply_of (parts_of bytes)) obeyed ∙ reply-judged (parts_of bytes) barred told e8

    board-framed : Framed row bytes buffer (taken_answer row sent) (taken_row row sent) (buffer_with buffer (taken_answer row sent))
    unfolding obey_row_at obeyed_of frame_answer frame_row frame_buffer
    board-framed = (
      replied ∙ rw (e6, e7, e8, good, there),
      (
        rw (e6, e7, e8, good, e, there) (set-kept (eqb barred 0) row (frame_place bytes) (board_framed row bytes)),
        ap (buffer_with buffer) replied ∙ rw (e6, e7, e8, good, there) (put-judged barred (byte bytes 0) (byte bytes 1) told buffer),
      ),
    )

  -- which is not
  none-framed : ltb (frame_place bytes) (length row) ≡ false → Framed row bytes buffer (taken_answer row sent) (taken_row row sent) (buffer_with buffer (taken_answer row sent))
  unfolding obey_outcome_at obey_row_at frame_answer frame_row frame_buffer
  none-framed e =
      let none = has-none row good (board_of (byte bytes 0)) (ltb-false (frame_place bytes) (length row) e) in
      (rw (e6, e7, e8, good, e, none), (rw (e6, e7, e8, good, e, none), rw (e6, e7, e8, good, e, none)))

-- a frame to a good row
pub frame-good : (row : List Board) (bytes buffer : List ℕ) → good_row row ≡ true → Framed row bytes buffer (frame_answer_in row bytes buffer) (frame_row_in row bytes buffer) (frame_buffer_in row bytes buffer)
unfolding frame_answer_in frame_row_in frame_buffer_in taken_apart frame_answer frame_row frame_buffer
frame-good row bytes buffer good =
    split (eqb (length bytes) 4)
    (λ e6.
    split (ltb (length buffer) 4)
    (λ e7. (rw (e6, e7, good), (rw (e6, e7, good), rw (e6, e7, good))))
    (λ e7.
    split (right bytes (length buffer))
    (λ e8.
    rw (apart_none bytes (length buffer) e6 e7 e8)
    (split (ltb (frame_place bytes) (length row)) (λ e. board-framed row bytes buffer good e6 e7 e8 e) (λ e. none-framed row bytes buffer good e6 e7 e8 e)))
    (λ e8. (rw (e6, e7, e8, good), (rw (e6, e7, e8, good), rw (e6, e7, e8, good))))))
    (λ e6. (rw (e6, good), (rw (e6, good), rw (e6, good))))

-- a frame to a bad row
pub frame-bad : (row : List Board) (bytes buffer : List ℕ) → good_row row ≡ false → Framed row bytes buffer (Err (numbered 1)) row buffer
unfolding frame_answer frame_row frame_buffer
frame-bad row bytes buffer bad = (rw bad, (rw bad, rw bad))

-- ---- what the look at the row, and the look for a board, came to
pub checked-good : (row : List Board) → row_checked row ≡ Ok tt → good_row row ≡ true
checked-good row e = split (good_row row) (λ g. g) (λ g. cc (rw g at e))

checked-bad : (row : List Board) (why : Refusal) → row_checked row ≡ Err why → (good_row row ≡ false) × (numbered 1 ≡ why)
checked-bad row why e = split (good_row row) (λ g. cc (rw g at e)) (λ g. (g, cc (rw g at e)))

pub place-found : (row : List Board) (n at : ℕ) → place_in row n ≡ Ok at → (ltb (place_of n) (length row) ≡ true) × (place_of n ≡ at)
place-found row n at e = split (ltb (place_of n) (length row)) (λ h. (h, cc (rw h at e))) (λ h. cc (rw h at e))

place-none : (row : List Board) (n : ℕ) (why : Refusal) → place_in row n ≡ Err why → (ltb (place_of n) (length row) ≡ false) × (numbered 2 ≡ why)
place-none row n why e = split (ltb (place_of n) (length row)) (λ h. cc (rw h at e)) (λ h. (h, cc (rw h at e)))

-- ---- and what leaves there by `?`
pub row-refused : {T : Type 0} (row : List Board) (why : Refusal) (r : Result T Refusal) → row_checked row ≡ Err why → IsErrAnd r (λ e. e ≡ why) → (good_row row ≡ false) × (r ≡ Err (numbered 1))
row-refused row why r e left =
    let p = err_from_is_err_and r left in
    let bad = checked-bad row why e in
    (bad.0, p.1 ∙ ap Err (p.2 ∙ sym bad.1))

pub place-refused : {T : Type 0} (row : List Board) (n : ℕ) (why : Refusal) (r : Result T Refusal) → place_in row n ≡ Err why → IsErrAnd r (λ e. e ≡ why) → (ltb (place_of n) (length row) ≡ false) × (r ≡ Err (numbered 2))
place-refused row n why r e left =
    let p = err_from_is_err_and r left in
    let none = place-none row n why e in
    (none.0, p.1 ∙ ap Err (p.2 ∙ sym none.1))
