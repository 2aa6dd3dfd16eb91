-- The acts of a recording that was read whole, done again: the first wrong place, and the row after it.
-- Assumes nothing.
use Prim.Native.Nat.{ℕ, zero, suc, ◌+◌, ◌-◌, ◌<◌, ◌≤◌}
use native.Mathlib.Omega.{arith}
use mathlib.Core.Path.{◌≡◌, refl, sym, ap, ◌∙◌}
use mathlib.Core.Logic.{◌↔◌}
use mathlib.Core.Bool.{true, false, true≢false, cond}
use mathlib.Core.List.{List, [], ◌∷◌, map}
use lib.Dec.{eqb}
use lib.ListN.{length, take, drop, length-drop}
use lib.Seq.{drop-drop}
use Rattle.lists.proofs.Split.{split}
use Rattle.lists.specs.Compare.{outside}
use Rattle.refusal.specs.declared.Refusal.{Refusal}
use Rattle.refusal.specs.Said.{said_by, first}
use Rattle.refusal.proofs.Laws.{number-not-zero}
use Rattle.format.specs.Format.{Sent, sample, frame, reading, widths}
use Rattle.format.specs.Read.{numbers_in, kind_in, long_in, wrong_long, sent_in, widths_by, answer_in, act_in as noted_in, act_long, acts_from, bar_of, act_tests, acts_tests}
use Rattle.format.specs.Read.{number_of as number_given}
use Rattle.format.proofs.WrittenAgain.{act-clear, acts-clear}
use Rattle.reader.specs.Reader.{Step, stop, act_step, acts_step}
use Rattle.reader.proofs.Many.{number_is, act-on}
use Rattle.board.specs.declared.Board.{Board}
use Rattle.board.specs.Sample.{sampled_values}
use Rattle.frame.specs.Reply.{bytes_of}
use Rattle.reading.specs.Reading.{whole_said}
use Rattle.stack.specs.Read.{reading_of}
use Rattle.stack.specs.Sample.{sample_answer}
use Rattle.stack.specs.Frame.{frame_answer}
use Rattle.acts.specs.declared.Act.{Act}
use Rattle.std.proofs.Common.{Result, Ok, Err}
use Rattle.std.proofs.lemmas.List.{take_rest}
use Rattle.acts.specs.InPlace.{act_told, act_row}
use Rattle.replay.specs.Check.{readings_by, lent, said_on, row_on, right, wrong_after, row_after}
use Rattle.replay.specs.Way.{act_in, padded, told_said, IsWhole}
use Rattle.replay.proofs.Same.{Shaped, act-alike, padded-once, same-is, is_same}

-- ---- each answer has as many values as its kind of act
says-shaped : {A : Type 0} (k : ℕ) (values : A → List ℕ) → ((a : A) → length (values a) ≡ k) → (r : Result A Refusal) → Shaped k (said_by values r)
says-shaped k values same (Ok a) = same a
says-shaped k values same (Err why) = rw (number-not-zero why)

said-shaped : (row : List Board) (s : Sent) → Shaped (length (widths s)) (said_on row s)
said-shaped row (sample board elapsed load thermistor shunt cells) = says-shaped 2 sampled_values (λ s. refl) (sample_answer row board (readings_by elapsed load thermistor shunt) cells)
said-shaped row (frame bytes) = says-shaped 4 bytes_of (λ r. refl) (frame_answer row bytes lent)
said-shaped row reading = says-shaped 5 whole_said (λ w. refl) (reading_of row)

widths-are : (rest : List ℕ) → widths_by (kind_in rest) ≡ widths (sent_in rest)
unfolding sent_in
widths-are rest = split (eqb (kind_in rest) 1) (λ e. rw e) (λ e. split (eqb (kind_in rest) 2) (λ f. rw (e, f)) (λ f. rw (e, f)))

numbers-length : (ws l : List ℕ) → length (numbers_in ws l) ≡ length ws
unfolding numbers_in
numbers-length [] l = refl
numbers-length (w ∷ ws) l = ap suc (numbers-length ws (drop w l))

few-widths : (kind : ℕ) → length (widths_by kind) ≤ 5
few-widths kind = split (eqb kind 1) (λ e. rw e (omega arith)) (λ e. split (eqb kind 2) (λ f. rw (e, f) (omega arith)) (λ f. rw (e, f) (omega arith)))

answer-shaped : (rest : List ℕ) → Shaped (length (widths_by (kind_in rest))) (answer_in rest)
unfolding answer_in
answer-shaped rest =
    let n = number_given rest in
    numbers-length (cond (eqb n 0) (widths_by (kind_in rest)) []) _ ∙ split (eqb n 0) (λ e. rw e) (λ e. rw e)

-- ---- the code's judgement of an act is the definition's
module _ (row : List Board) (rest : List ℕ) (body : long_in rest ≤ length (drop 2 rest)) where
  told-is : padded (answer_in rest) ≡ padded (told_said (act_told row (act_in rest))) → answer_in rest ≡ said_on row (sent_in rest)
  told-is e =
      padded-once (length (widths_by (kind_in rest))) (answer_in rest) (said_on row (sent_in rest)) (few-widths (kind_in rest)) (answer-shaped rest)
      (said-shaped row (sent_in rest) ∙ sym (ap (λ (ws : List ℕ). cond (eqb (said_on row (sent_in rest)).number 0) (length ws) 0) (widths-are rest)))
      (e ∙ ap padded (act-alike row rest body).0)

  pub right-so : padded (told_said (act_told row (act_in rest))) ≡ padded (answer_in rest) → right row (noted_in rest) ≡ true
  right-so e = is_same (answer_in rest) (said_on row (sent_in rest)) (told-is (sym e))

  pub not-right : (padded (told_said (act_told row (act_in rest))) ≡ padded (answer_in rest) → ⊥) → right row (noted_in rest) ≡ false
  not-right e =
      split (right row (noted_in rest))
      (λ r. absurd (e (ap padded ((act-alike row rest body).0 ∙ sym (same-is (answer_in rest) (said_on row (sent_in rest)) r)))))
      (λ r. r)

-- ---- an act that is left, where reading stops at none of them
module _ (row : List Board) (bytes : List ℕ) (acts done at : ℕ) (more : done < acts) (inside : at ≤ length bytes) (whole : (acts_step (acts - done) at (drop at bytes)).number ≡ 0) where
  abbrev rest : List ℕ
  rest = drop at bytes

  abbrev left : ℕ
  left = acts - (done + 1)

  one_fewer : acts - done ≡ suc left
  one_fewer = omega (arith, more)

  clear : (first (map bar_of (act_tests at rest)) ≡ 0) × (first (map bar_of (acts_tests left (at + act_long rest) (drop (act_long rest) rest))) ≡ 0)
  unfolding acts_step
  clear = acts-clear left at rest (sym (number_is (acts_tests (suc left) at rest) (at + length rest)) ∙ (rw one_fewer at whole))

  act-fine : (outside 1 3 (kind_in rest) ≡ false) × (wrong_long (kind_in rest) (long_in rest) ≡ false) × (act_long rest ≤ length rest)
  act-fine = act-clear at rest clear.0

  act-whole : IsWhole rest
  unfolding act_long
  act-whole = record { known = act-fine.0; fitting = act-fine.1; inside = act-fine.2 }

  pub shown-whole : IsWhole (take (length bytes - at) rest)
  shown-whole = rw (take_rest bytes at) act-whole

  -- reading goes on behind it
  pub goes-on : (act_step at rest).number ≡ 0
  unfolding act_step
  goes-on = number_is (act_tests at rest) (at + act_long rest) ∙ clear.0

  body : long_in rest ≤ length (drop 2 rest)
  body = omega (arith, act-whole.inside, length-drop 2 rest)

  -- it is done on the row, and the answer held against the one recorded
  module _ (a : Act) (ea : a ≡ act_in (take (length bytes - at) rest)) (told : Result (List ℕ) ℕ) (et : told ≡ padded (told_said (act_told row a))) (noted : Result (List ℕ) ℕ) (en : noted ≡ padded (answer_in (take (length bytes - at) rest))) where
    act-is : a ≡ act_in rest
    act-is = ea ∙ ap act_in (take_rest bytes at)

    noted-is : noted ≡ padded (answer_in rest)
    noted-is = en ∙ ap (λ (l : List ℕ). padded (answer_in l)) (take_rest bytes at)

    answers : told ≡ padded (told_said (act_told row (act_in rest)))
    answers = et ∙ ap (λ (b : Act). padded (told_said (act_told row b))) act-is

    row-so : act_row row a ≡ row_on row (sent_in rest)
    row-so = ap (act_row row) act-is ∙ (act-alike row rest body).1

    pub act-wrong : (told ≡ noted → ⊥) → (done + 1 ≡ wrong_after done row (acts_from (acts - done) rest)) × (act_row row a ≡ row_after row (acts_from (acts - done) rest))
    unfolding wrong_after row_after acts_from
    act-wrong e =
        let wrong = not-right row rest body (λ z. e (answers ∙ z ∙ sym noted-is)) in
        (rw (one_fewer, wrong), row-so ∙ rw (one_fewer, wrong))

    -- it is right, and the next one follows
    module _ (right-is : told ≡ noted) (next : ℕ) (on : stop 0 next ≡ act_step at rest) where
      there : next ≡ at + act_long rest
      there = ap (λ (s : Step). s.at) (on ∙ (act-on at rest goes-on).0)

      behind : drop next bytes ≡ drop (act_long rest) rest
      behind = ap (λ (n : ℕ). drop n bytes) there ∙ sym (drop-drop (act_long rest) at bytes)

      pub next-inside : next ≤ length bytes
      next-inside = omega (arith, there, act-fine.2, length-drop at bytes, inside)

      pub next-whole : (acts_step left next (drop next bytes)).number ≡ 0
      unfolding acts_step
      next-whole =
          number_is (acts_tests left next (drop next bytes)) (next + length (drop next bytes))
          ∙ ap (λ (l : List ℕ). first (map bar_of (acts_tests left next l))) behind
          ∙ ap (λ (n : ℕ). first (map bar_of (acts_tests left n (drop (act_long rest) rest)))) there
          ∙ clear.1

      pub act-right : (wrong_after (done + 1) (act_row row a) (acts_from left (drop next bytes)) ≡ wrong_after done row (acts_from (acts - done) rest))
          × (row_after (act_row row a) (acts_from left (drop next bytes)) ≡ row_after row (acts_from (acts - done) rest))
      unfolding wrong_after row_after acts_from
      act-right =
          let right = right-so row rest body (sym answers ∙ right-is ∙ noted-is) in
          (rw (one_fewer, right, behind, row-so), rw (one_fewer, right, behind, row-so))

-- ---- none is left
pub acts-over : (row : List Board) (bytes : List ℕ) (acts done at : ℕ) → acts ≤ done
    → (0 ≡ wrong_after done row (acts_from (acts - done) (drop at bytes))) × (row ≡ row_after row (acts_from (acts - done) (drop at bytes)))
unfolding wrong_after row_after acts_from
acts-over row bytes acts done at over = let none : acts - done ≡ 0 = omega (arith, over) in (rw none, rw none)

-- ---- a whole run over the acts that are left: an act that is answered as was recorded is followed by the one behind it, and any other ends the run;
-- it ends with a place, from 1, or 0 where none was wrong, and with a row
abbrev pub Runs : List ℕ → ℕ → ℕ → List Board → ℕ → ℕ → List Board → Type 0
Runs bytes zero done row at place end = (place ≡ 0) × (end ≡ row)
Runs bytes (suc n) done row at place end =
    let rest = drop at bytes in
    let told = padded (told_said (act_told row (act_in rest))) in
    let noted = padded (answer_in rest) in
    (told ≡ noted → Runs bytes n (done + 1) (act_row row (act_in rest)) (act_step at rest).at place end) × ((told ≡ noted → ⊥) → (place ≡ done + 1) × (end ≡ act_row row (act_in rest)))

-- where reading stops at none of them, a run ends with the first wrong place and the row after it, and with nothing else
pub acts-run : (n : ℕ) (row : List Board) (bytes : List ℕ) (done at : ℕ) → at ≤ length bytes → first (map bar_of (acts_tests n at (drop at bytes))) ≡ 0
    → (place : ℕ) (end : List Board) → Runs bytes n done row at place end ↔ ((place ≡ wrong_after done row (acts_from n (drop at bytes))) × (end ≡ row_after row (acts_from n (drop at bytes))))
unfolding wrong_after row_after acts_from act_step act_long
acts-run zero row bytes done at inside clear place end = (λ r. r, λ r. r)
acts-run (suc n) row bytes done at inside clear place end =
    let rest = drop at bytes in
    let here = acts-clear n at rest clear in
    let fine = act-clear at rest here.0 in
    let body : long_in rest ≤ length (drop 2 rest) = omega (arith, fine.2, length-drop 2 rest) in
    let alike = act-alike row rest body in
    let goes : (act_step at rest).number ≡ 0 = number_is (act_tests at rest) (at + act_long rest) ∙ here.0 in
    let next : (act_step at rest).at ≡ at + act_long rest = ap (λ (s : Step). s.at) (act-on at rest goes).0 in
    let behind : drop (act_step at rest).at bytes ≡ drop (act_long rest) rest = ap (λ (k : ℕ). drop k bytes) next ∙ sym (drop-drop (act_long rest) at bytes) in
    let within : (act_step at rest).at ≤ length bytes = omega (arith, next, fine.2, length-drop at bytes, inside) in
    let left : first (map bar_of (acts_tests n (act_step at rest).at (drop (act_step at rest).at bytes))) ≡ 0 =
    ap (λ (l : List ℕ). first (map bar_of (acts_tests n (act_step at rest).at l))) behind ∙ ap (λ (k : ℕ). first (map bar_of (acts_tests n k (drop (act_long rest) rest)))) next ∙ here.1 in
    let row' = act_row row (act_in rest) in
    let ih = acts-run n row' bytes (done + 1) (act_step at rest).at within left place end in
    split (right row (noted_in rest))
    (λ e.
    let same : padded (told_said (act_told row (act_in rest))) ≡ padded (answer_in rest) = ap padded (alike.0 ∙ sym (same-is (answer_in rest) (said_on row (sent_in rest)) e)) in
    let p : wrong_after (done + 1) row' (acts_from n (drop (act_step at rest).at bytes)) ≡ wrong_after done row (acts_from (suc n) rest) = rw (e, behind, alike.1) in
    let q : row_after row' (acts_from n (drop (act_step at rest).at bytes)) ≡ row_after row (acts_from (suc n) rest) = rw (e, behind, alike.1) in
    (λ r. let w = ih.0 (r.0 same) in (w.0 ∙ p, w.1 ∙ q), λ w. (λ s. ih.1 (w.0 ∙ sym p, w.1 ∙ sym q), λ other. absurd (other same))))
    (λ e.
    let other : padded (told_said (act_told row (act_in rest))) ≡ padded (answer_in rest) → ⊥ = λ z. true≢false (sym (right-so row rest body z) ∙ e) in
    let p : done + 1 ≡ wrong_after done row (acts_from (suc n) rest) = rw e in
    let q : row' ≡ row_after row (acts_from (suc n) rest) = alike.1 ∙ rw e in
    (λ r. let w = r.1 other in (w.0 ∙ p, w.1 ∙ q), λ w. (λ s. absurd (other s), λ o. (w.0 ∙ sym p, w.1 ∙ sym q))))
