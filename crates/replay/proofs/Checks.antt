-- A check as a whole: what is told where it can not be made, and what is told where it is.
-- Assumes nothing.
use Prim.Native.Nat.{ℕ, zero, suc, ◌+◌, ◌*◌, ◌/◌, ◌%◌, ◌≤◌}
use native.Mathlib.Omega.{arith}
use mathlib.Core.Path.{◌≡◌, refl, sym, ap, ◌∙◌}
use mathlib.Core.Bool.{Bool, true, false, true≢false, cond, not, ◌||◌}
use mathlib.Core.List.{List, map}
use Rattle.std.proofs.Common.{Ok, Err}
use lib.Dec.{eqb, ltb}
use lib.ListN.{length, drop, length-drop}
use borrow.Author.Tests.{eqb-true, eqb-false, eq-eqb, ne_eqb, le-ltb, ltb-false}
use Rattle.lists.specs.Compare.{◌above◌, outside}
use Rattle.lists.specs.Every.{every}
use Rattle.lists.proofs.Split.{split}
use Rattle.refusal.specs.Said.{first}
use Rattle.format.specs.Read.{board_count, act_count, board_in, boards_from, boards_in, acts_from, acts_in, acts_at, bar_of, head_tests, boards_tests, acts_tests, read_tests, reads}
use Rattle.format.proofs.WrittenAgain.{board-clear, boards-clear, head_clear, reads-clear, boards-read}
use Rattle.reader.specs.declared.Stop.{Stop}
use Rattle.reader.specs.declared.Counts.{Counts}
use Rattle.reader.specs.Reader.{Read, stop_of, acts_step, read_of}
use Rattle.reader.specs.Told.{number_of, read_told}
use Rattle.reader.proofs.Told.{number-some}
use Rattle.reader.proofs.Many.{number_is}
use Rattle.reader.proofs.Whole.{number-first, few, boards-room}
use Rattle.board.specs.declared.Board.{Board}
use Rattle.board.specs.Plan.{bad_plan, plan_of}
use Rattle.stack.specs.Open.{good_plans, opened, open_answer, open_row}
use Rattle.replay.specs.declared.Checked.{Checked}
use Rattle.replay.specs.Check.{plan_by, plans_in, row_unfit, wrong_after, row_after, checked, check_of, check_row}
use Rattle.replay.specs.Way.{held}
use Rattle.replay.proofs.Places.{plans-length}

-- ---- what a reading that was not refused says
whole : (bytes : List ℕ) → (read_of bytes).number ≡ 0 → read_of bytes ≡ record { at = length bytes; boards = board_count bytes; acts = act_count bytes; number = 0 }
unfolding read_of
whole bytes e =
    let s = stop_of (read_tests bytes) (length bytes) in
    split (eqb s.number 0) (λ z. rw z) (λ z. absurd (eqb-false s.number 0 z (rw z at e)))

reads_so : (bytes : List ℕ) → (read_of bytes).number ≡ 0 → reads bytes ≡ true
reads_so bytes e = eq-eqb _ 0 (sym (number-first bytes) ∙ e)

eqb-sym : (m n : ℕ) → eqb m n ≡ eqb n m
eqb-sym m n = split (eqb m n) (λ e. e ∙ sym (eq-eqb n m (sym (eqb-true m n e)))) (λ e. e ∙ sym (ne_eqb n m (λ z. eqb-false m n e (sym z))))

-- ---- a check that can not be made: the bytes can not be read, or the row has a record too many or too few; and what is told then
abbrev pub cannot : Read → ℕ → Bool
cannot r boards = not (eqb r.number 0) || not (eqb r.boards boards)

abbrev pub refused_check : Read → Checked
refused_check r = cond (eqb r.number 0) (checked (held r.boards) 1) (checked (held r.at) r.number)

module _ (row : List Board) (bytes : List ℕ) where
  abbrev r : Read
  r = read_of bytes

  not-read : eqb r.number 0 ≡ false → (refused_check r ≡ check_of row bytes) × (row ≡ check_row row bytes)
  unfolding check_of check_row
  not-read e = (rw e, rw e)

  module _ (e : r.number ≡ 0) where
    boards-are : r.boards ≡ length (boards_in bytes)
    boards-are = ap (λ (x : Read). x.boards) (whole bytes e) ∙ sym (boards-read bytes)

    few-boards : board_count bytes ≤ 16
    few-boards = few (board_count bytes) (head_clear bytes (reads-clear bytes (reads_so bytes e)).0).2

    pub unfit-is : row_unfit row bytes ≡ not (eqb r.boards (length row))
    unfit-is = ap not (eqb-sym (length row) (length (boards_in bytes)) ∙ ap (λ (n : ℕ). eqb n (length row)) (sym boards-are))

    not-fit : row_unfit row bytes ≡ true → (refused_check r ≡ check_of row bytes) × (row ≡ check_row row bytes)
    unfolding check_of check_row
    not-fit u =
        let all : held r.boards ≡ length (boards_in bytes) = omega (arith, boards-are, boards-read bytes, few-boards) in
        (rw (eq-eqb r.number 0 e, u, all), rw (eq-eqb r.number 0 e, u))

  -- it is told, and nothing is touched
  pub unchecked : cannot r (length row) ≡ true → (refused_check r ≡ check_of row bytes) × (row ≡ check_row row bytes)
  unchecked c =
      split (eqb r.number 0)
      (λ z. let e = eqb-true r.number 0 z in not-fit e (unfit-is e ∙ (rw z at c)))
      (λ z. not-read z)

  -- ---- so told of where reading stopped
  pub stop-told : (e : Stop) → read_told (length bytes) (Err e) ≡ r → (checked (held e.at) (number_of e.fault) ≡ check_of row bytes) × (row ≡ check_row row bytes)
  stop-told e so =
      let some = ne_eqb (number_of e.fault) 0 (number-some e.fault) in
      let refused = unchecked (rw (← so, some)) in
      (rw (← so, some) at refused.0, refused.1)

  -- and of the counts of one that is read
  module _ (counts : Counts) (so : read_told (length bytes) (Ok counts) ≡ r) where
    abbrev none : r.number ≡ 0
    none = sym (ap (λ (x : Read). x.number) so)

    pub count-few : counts.boards ≤ 16
    count-few = omega (arith, few-boards none, boards-read bytes, boards-are none, ap (λ (x : Read). x.boards) so)

    pub counts-told : (counts.boards ≡ length row → ⊥) → (checked counts.boards 1 ≡ check_of row bytes) × (row ≡ check_row row bytes)
    counts-told other =
        let apart = ne_eqb counts.boards (length row) other in
        let all : held counts.boards ≡ counts.boards = omega (arith, count-few) in
        let refused = unchecked (rw (← so, apart)) in
        (rw (← so, all) at refused.0, refused.1)

-- ---- boards that were read open a stack
plan-good : (kind cells : ℕ) → (kind above 1) ≡ false → outside 5 10 cells ≡ false → bad_plan (plan_of (256 * kind + cells)) ≡ false
plan-good kind cells k c =
    let one : kind ≤ 1 = ltb-false 1 kind k in
    let ten : cells ≤ 10 = ltb-false 10 cells (second (ltb cells 5) (ltb 10 cells) c) in
    let kind-is : (256 * kind + cells) / 256 % 256 ≡ kind = omega (arith, one, ten) in
    let cells_is : (256 * kind + cells) % 256 ≡ cells = omega (arith, one, ten) in
    rw (kind-is, cells_is, le-ltb 2 kind (omega (arith, one)), ne_eqb kind 2 (λ e. omega (arith, one, e)), c)
  where
    second : (a b : Bool) → (a || b) ≡ false → b ≡ false
    second false b e = e
    second true b e = absurd (true≢false e)

plans-good : (n at : ℕ) (rest : List ℕ) → first (map bar_of (boards_tests n at rest)) ≡ 0 → good_plans (map plan_by (boards_from n rest)) ≡ true
unfolding boards_from every
plans-good zero at rest e = refl
plans-good (suc n) at rest e =
    let h = boards-clear n at rest e in
    let b = board-clear at rest h.0 in
    rw (plan-good (board_in rest).kind (board_in rest).cells b.1 b.2, plans-good n (at + 2) (drop 2 rest) h.1)

-- ---- it is made: the boards are opened, and the acts done again
module _ (row : List Board) (bytes : List ℕ) (counts : Counts) (so : read_told (length bytes) (Ok counts) ≡ read_of bytes) (fits : counts.boards ≡ length row) where
  read-so : (read_of bytes).number ≡ 0
  read-so = sym (ap (λ (x : Read). x.number) so)

  boards-so : counts.boards ≡ board_count bytes
  boards-so = ap (λ (x : Read). x.boards) (so ∙ whole bytes read-so)

  acts-so : counts.acts ≡ act_count bytes
  acts-so = ap (λ (x : Read). x.acts) (so ∙ whole bytes read-so)

  clear : (first (map bar_of (head_tests bytes)) ≡ 0) × (first (map bar_of (boards_tests (board_count bytes) 8 (drop 8 bytes))) ≡ 0) × (first (map bar_of (acts_tests (act_count bytes) (acts_at bytes) (drop (acts_at bytes) bytes))) ≡ 0)
  clear = reads-clear bytes (reads_so bytes read-so)

  counts-so : outside 1 16 (board_count bytes) ≡ false
  counts-so = (head_clear bytes clear.0).2

  abbrev from : ℕ
  from = 8 + 2 * counts.boards

  pub acts-inside : from ≤ length bytes
  acts-inside = omega (arith, boards-so, (head_clear bytes clear.0).0, boards-room (board_count bytes) 8 (drop 8 bytes) clear.1, length-drop 8 bytes)

  pub acts-whole : (acts_step counts.acts from (drop from bytes)).number ≡ 0
  unfolding acts_step
  acts-whole = rw (boards-so, acts-so) (number_is (acts_tests (act_count bytes) (acts_at bytes) (drop (acts_at bytes) bytes)) (acts_at bytes + length (drop (acts_at bytes) bytes)) ∙ clear.2)

  abbrev listed : List ℕ
  listed = map plan_by (boards_from (length row) (drop 8 bytes))

  listed-are : listed ≡ plans_in bytes
  unfolding boards_in
  listed-are = ap (λ (n : ℕ). map plan_by (boards_from n (drop 8 bytes))) (sym fits ∙ boards-so)

  bars : (not (eqb (length listed) (length row)) || outside 1 16 (length listed) || not (good_plans listed)) ≡ false
  bars =
      let long = eq-eqb (length listed) (length row) (plans-length (length row) (drop 8 bytes)) in
      let many : outside 1 16 (length listed) ≡ false = ap (outside 1 16) (plans-length (length row) (drop 8 bytes) ∙ sym fits ∙ boards-so) ∙ counts-so in
      let good : good_plans listed ≡ true = ap good_plans (ap (λ (n : ℕ). map plan_by (boards_from n (drop 8 bytes))) (sym fits ∙ boards-so)) ∙ plans-good (board_count bytes) 8 (drop 8 bytes) clear.1 in
      rw (long, many, good)

  pub not-refused : open_answer row listed ≡ Ok tt
  unfolding open_answer
  not-refused = rw bars

  opens : open_row row listed ≡ opened (plans_in bytes)
  unfolding open_row
  opens = rw bars (ap opened listed-are)

  these : acts_from counts.acts (drop from bytes) ≡ acts_in bytes
  unfolding acts_in
  these = rw (boards-so, acts-so)

  fit : row_unfit row bytes ≡ false
  fit = unfit-is row bytes read-so ∙ rw (eq-eqb (read_of bytes).boards (length row) (sym (ap (λ (x : Read). x.boards) so) ∙ fits))

  pub told : (checked (wrong_after 0 (open_row row listed) (acts_from counts.acts (drop from bytes))) 0 ≡ check_of row bytes)
      × (row_after (open_row row listed) (acts_from counts.acts (drop from bytes)) ≡ check_row row bytes)
  unfolding check_of check_row
  told = (rw (opens, these, eq-eqb (read_of bytes).number 0 read-so, fit), rw (opens, these, eq-eqb (read_of bytes).number 0 read-so, fit))

-- ---- so told: bytes that are read without refusal, on a row with a record for each board; and their boards open a stack
module _ (row : List Board) (bytes : List ℕ) (so : reads bytes ≡ true) where
  number-none : (read_of bytes).number ≡ 0
  number-none = number-first bytes ∙ eqb-true _ 0 so

  pub check-told : row_unfit row bytes ≡ false → check_of row bytes ≡ checked (wrong_after 0 (opened (plans_in bytes)) (acts_in bytes)) 0
  unfolding check_of
  check-told fit = rw (eq-eqb (read_of bytes).number 0 number-none, fit)

  pub plans-open : (outside 1 16 (length (plans_in bytes)) ≡ false) × (good_plans (plans_in bytes) ≡ true)
  unfolding boards_in
  plans-open =
      let clear = reads-clear bytes so in
      (ap (outside 1 16) (plans-length (board_count bytes) (drop 8 bytes)) ∙ (head_clear bytes clear.0).2, plans-good (board_count bytes) 8 (drop 8 bytes) clear.1)
