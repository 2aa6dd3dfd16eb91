-- A recording as a whole: the header, then the boards, then the acts, and the first that stops decides. The number told is the first of the table's rows.
-- Assumes nothing.
use Prim.Native.Nat.{ℕ, zero, suc, ◌+◌, ◌*◌, ◌≤◌}
use native.Mathlib.Omega.{arith}
use mathlib.Core.Path.{◌≡◌, refl, sym, ap, ◌∙◌}
use mathlib.Core.Bool.{Bool, true, false, true≢false, cond, ◌||◌}
use mathlib.Core.List.{List, ◌++◌, map}
use Rattle.std.proofs.Common.{Ok, Err}
use lib.Dec.{eqb, ltb}
use lib.ListN.{length, drop, length-drop}
use borrow.Author.Tests.{eq-eqb, ne_eqb, eqb-true, ltb-false}
use Rattle.lists.specs.Compare.{outside}
use Rattle.lists.proofs.Split.{split}
use Rattle.refusal.specs.Said.{first}
use Rattle.format.specs.Read.{board_count, act_count, acts_at, act_long, bar_of, head_tests, act_tests, boards_tests, acts_tests, read_tests, read_bars}
use Rattle.format.proofs.Fronts.{real_tests, real-append, head-real, boards-real, act-real}
use Rattle.format.proofs.WrittenAgain.{head_clear, boards-clear, board-clear}
use Rattle.reader.specs.declared.Stop.{Stop}
use Rattle.reader.specs.declared.Counts.{Counts}
use Rattle.reader.specs.Reader.{Step, Read, stop, stop_of, refused_read, read_of, head_stop, boards_step, acts_step}
use Rattle.reader.specs.Told.{counted, step_told, read_told}
use Rattle.reader.proofs.Told.{told-some}
use Rattle.reader.proofs.Many.{number_is, stop-append, goes_on}

-- the number of a reading is the first of its refusals in their order
pub number-first : (bytes : List ℕ) → (read_of bytes).number ≡ first (read_bars bytes)
unfolding read_of
number-first bytes =
    let s = stop_of (read_tests bytes) (length bytes) in
    split (eqb s.number 0) (λ e. rw e (sym (eqb-true s.number 0 e) ∙ number_is (read_tests bytes) (length bytes))) (λ e. rw e (number_is (read_tests bytes) (length bytes)))

-- ---- what a part that stops nothing says
pub head-on : (bytes : List ℕ) → (head_stop bytes).number ≡ 0 → (8 ≤ length bytes) × (outside 1 16 (board_count bytes) ≡ false)
unfolding head_stop
head-on bytes e = let h = head_clear bytes (sym (number_is (head_tests bytes) 8) ∙ e) in (h.0, h.2)

pub boards-room : (n at : ℕ) (rest : List ℕ) → first (map bar_of (boards_tests n at rest)) ≡ 0 → 2 * n ≤ length rest
boards-room zero at rest e = omega arith
boards-room (suc n) at rest e =
    let h = boards-clear n at rest e in
    omega (arith, (board-clear at rest h.0).0, boards-room n (at + 2) (drop 2 rest) h.1, length-drop 2 rest)

pub boards-on : (n at : ℕ) (rest : List ℕ) → (boards_step n at rest).number ≡ 0 → (boards_step n at rest ≡ stop 0 (at + 2 * n)) × (2 * n ≤ length rest)
unfolding boards_step
boards-on n at rest e = (goes_on (boards_tests n at rest) (at + 2 * n) (boards-real n at rest) e, boards-room n at rest (sym (number_is (boards_tests n at rest) (at + 2 * n)) ∙ e))

pub few : (n : ℕ) → outside 1 16 n ≡ false → n ≤ 16
few n = by (ltb n 1)
  where
    by : (b : Bool) → (b || ltb 16 n) ≡ false → n ≤ 16
    by false e = ltb-false 16 n e
    by true e = absurd (true≢false e)

acts-real : (n at : ℕ) (rest : List ℕ) → real_tests (acts_tests n at rest) ≡ true
unfolding acts_tests
acts-real zero at rest = refl
acts-real (suc n) at rest = real-append (act_tests at rest) (acts_tests n (at + act_long rest) (drop (act_long rest) rest)) (act-real at rest) (acts-real n (at + act_long rest) (drop (act_long rest) rest))

read_real : (bytes : List ℕ) → real_tests (read_tests bytes) ≡ true
unfolding read_tests
read_real bytes =
    let listed = boards_tests (board_count bytes) 8 (drop 8 bytes) in
    let acted = acts_tests (act_count bytes) (acts_at bytes) (drop (acts_at bytes) bytes) in
    real-append (head_tests bytes) (listed ++ acted) (head-real bytes) (real-append listed acted (boards-real (board_count bytes) 8 (drop 8 bytes)) (acts-real (act_count bytes) (acts_at bytes) (drop (acts_at bytes) bytes)))

-- ---- the first part that stops decides
module _ (bytes : List ℕ) where
  abbrev boards : Step
  boards = boards_step (board_count bytes) 8 (drop 8 bytes)

  abbrev acts : Step
  acts = acts_step (act_count bytes) (acts_at bytes) (drop (acts_at bytes) bytes)

  abbrev by : Step → Read
  by s = cond (eqb s.number 0) (record { at = length bytes; boards = board_count bytes; acts = act_count bytes; number = 0 }) (refused_read s)

  head_first : stop_of (read_tests bytes) (length bytes) ≡ cond (eqb (head_stop bytes).number 0) (stop_of (boards_tests (board_count bytes) 8 (drop 8 bytes) ++ acts_tests (act_count bytes) (acts_at bytes) (drop (acts_at bytes) bytes)) (length bytes)) (head_stop bytes)
  unfolding read_tests head_stop
  head_first = stop-append (head_tests bytes) (boards_tests (board_count bytes) 8 (drop 8 bytes) ++ acts_tests (act_count bytes) (acts_at bytes) (drop (acts_at bytes) bytes)) 8 (length bytes) (head-real bytes)

  boards-then : stop_of (boards_tests (board_count bytes) 8 (drop 8 bytes) ++ acts_tests (act_count bytes) (acts_at bytes) (drop (acts_at bytes) bytes)) (length bytes) ≡ cond (eqb boards.number 0) (stop_of (acts_tests (act_count bytes) (acts_at bytes) (drop (acts_at bytes) bytes)) (length bytes)) boards
  unfolding boards_step
  boards-then = stop-append (boards_tests (board_count bytes) 8 (drop 8 bytes)) (acts_tests (act_count bytes) (acts_at bytes) (drop (acts_at bytes) bytes)) (8 + 2 * board_count bytes) (length bytes) (boards-real (board_count bytes) 8 (drop 8 bytes))

  head-last : ((head_stop bytes).number ≡ 0 → ⊥) → stop_of (read_tests bytes) (length bytes) ≡ head_stop bytes
  head-last e = head_first ∙ rw (ne_eqb (head_stop bytes).number 0 e)

  pub read_head : ((head_stop bytes).number ≡ 0 → ⊥) → refused_read (head_stop bytes) ≡ read_of bytes
  unfolding read_of
  read_head e = sym (ap by (head-last e) ∙ rw (ne_eqb (head_stop bytes).number 0 e))

  module _ (head : (head_stop bytes).number ≡ 0) where
    boards-last : (boards.number ≡ 0 → ⊥) → stop_of (read_tests bytes) (length bytes) ≡ boards
    boards-last e = head_first ∙ rw (eq-eqb (head_stop bytes).number 0 head) (boards-then ∙ rw (ne_eqb boards.number 0 e))

    pub read-boards : (boards.number ≡ 0 → ⊥) → refused_read boards ≡ read_of bytes
    unfolding read_of
    read-boards e = sym (ap by (boards-last e) ∙ rw (ne_eqb boards.number 0 e))

    module _ (listed : boards.number ≡ 0) where
      pub acts-inside : acts_at bytes ≤ length bytes
      acts-inside = omega (arith, (head-on bytes head).0, (boards-on (board_count bytes) 8 (drop 8 bytes) listed).1, length-drop 8 bytes)

      acts-last : stop_of (read_tests bytes) (length bytes) ≡ acts
      unfolding acts_step
      acts-last =
          let end : acts_at bytes + length (drop (acts_at bytes) bytes) ≡ length bytes = omega (arith, acts-inside, length-drop (acts_at bytes) bytes) in
          head_first ∙ rw (eq-eqb (head_stop bytes).number 0 head) (boards-then ∙ rw (eq-eqb boards.number 0 listed, end))

      pub read-acts : (acts.number ≡ 0 → ⊥) → refused_read acts ≡ read_of bytes
      unfolding read_of
      read-acts e = sym (ap by acts-last ∙ rw (ne_eqb acts.number 0 e))

      pub read_all : acts.number ≡ 0 → read_told (length bytes) (Ok (counted bytes)) ≡ read_of bytes
      unfolding read_of
      read_all e = sym (ap by acts-last ∙ rw (eq-eqb acts.number 0 e))

-- ---- the same of what each part of the code found
module _ (bytes : List ℕ) where
  pub stops-head : (e : Stop) → step_told (Err e) ≡ head_stop bytes → read_told (length bytes) (Err e) ≡ read_of bytes
  stops-head e eh = ap refused_read eh ∙ read_head bytes (told-some e eh)

  module _ (head : stop 0 8 ≡ head_stop bytes) where
    head-none : (head_stop bytes).number ≡ 0
    head-none = sym (ap (λ (s : Step). s.number) head)

    pub head-room : 8 ≤ length bytes
    head-room = (head-on bytes head-none).0

    module _ (counts : Counts) (these : counts ≡ counted bytes) where
      abbrev listed : Step
      listed = boards_step counts.boards 8 (drop 8 bytes)

      same : listed ≡ boards bytes
      same = rw these

      pub stops-boards : (e : Stop) → step_told (Err e) ≡ listed → read_told (length bytes) (Err e) ≡ read_of bytes
      stops-boards e eb = ap refused_read (eb ∙ same) ∙ read-boards bytes head-none (told-some e (eb ∙ same))

      module _ (next : ℕ) (eb : stop 0 next ≡ listed) where
        boards-none : (boards bytes).number ≡ 0
        boards-none = sym (ap (λ (s : Step). s.number) (eb ∙ same))

        there : next ≡ acts_at bytes
        there = ap (λ (s : Step). s.at) (eb ∙ same ∙ (boards-on (board_count bytes) 8 (drop 8 bytes) boards-none).0)

        pub acts-room : next ≤ length bytes
        acts-room = omega (arith, there, acts-inside bytes head-none boards-none)

        abbrev acted : Step
        acted = acts_step counts.acts next (drop next bytes)

        those : acted ≡ acts bytes
        those = rw (these, there)

        pub stops-acts : (e : Stop) → step_told (Err e) ≡ acted → read_told (length bytes) (Err e) ≡ read_of bytes
        stops-acts e ea = ap refused_read (ea ∙ those) ∙ read-acts bytes head-none boards-none (told-some e (ea ∙ those))

        pub reads_all : (end : ℕ) → stop 0 end ≡ acted → read_told (length bytes) (Ok counts) ≡ read_of bytes
        reads_all end ea = rw these (read_all bytes head-none boards-none (sym (ap (λ (s : Step). s.number) (ea ∙ those))))
