-- Tests one behind the other: what a reading does that none of the first ones stops; so many boards, so many acts.
-- Assumes nothing.
use Prim.Native.Nat.{ℕ, suc, ◌+◌, ◌*◌, ◌-◌, ◌<◌, ◌≤◌}
use native.Mathlib.Omega.{arith}
use mathlib.Core.Path.{◌≡◌, refl, sym, ap, ◌∙◌}
use mathlib.Core.Bool.{true, cond, not}
use mathlib.Core.List.{List, [], ◌∷◌, ◌++◌, map}
use lib.Dec.{eqb}
use lib.ListN.{length, drop, length-drop}
use lib.Seq.{drop-drop}
use borrow.Author.Tests.{eq-eqb, ne_eqb, eqb-false, lt-ltb}
use Rattle.lists.proofs.Split.{split, both, not_yes}
use Rattle.refusal.specs.Said.{first}
use Rattle.format.specs.Read.{Test, bar_of, act_long, board_tests, act_tests, boards_tests, acts_tests}
use Rattle.format.proofs.Fronts.{real_tests, board-real, act-real}
use Rattle.format.proofs.WrittenAgain.{board-clear, act-clear}
use Rattle.std.proofs.Common.{Err}
use Rattle.reader.specs.declared.Stop.{Stop}
use Rattle.reader.specs.Told.{step_told}
use Rattle.reader.proofs.Told.{told-some}
use Rattle.reader.specs.Reader.{Step, stop, stop_of, board_step, act_step, boards_step, acts_step}

-- the number told is that of the first test that holds
pub number_is : (ts : List Test) (next : ℕ) → (stop_of ts next).number ≡ first (map bar_of ts)
number_is [] next = refl
number_is (t ∷ ts) next = split t.when (λ e. rw e) (λ e. rw e (number_is ts next))

pub stop-append : (ts us : List Test) (a b : ℕ) → real_tests ts ≡ true → stop_of (ts ++ us) b ≡ cond (eqb (stop_of ts a).number 0) (stop_of us b) (stop_of ts a)
stop-append [] us a b n = refl
stop-append (t ∷ ts) us a b n =
    let h = both (not (eqb t.number 0)) (real_tests ts) n in
    split t.when (λ e. rw (e, not_yes (eqb t.number 0) h.0)) (λ e. rw e (stop-append ts us a b h.1))

-- where nothing stops it, reading goes on at the place that was given
pub goes_on : (ts : List Test) (next : ℕ) → real_tests ts ≡ true → (stop_of ts next).number ≡ 0 → stop_of ts next ≡ stop 0 next
goes_on [] next n e = refl
goes_on (t ∷ ts) next n e =
    let h = both (not (eqb t.number 0)) (real_tests ts) n in
    split t.when
    (λ w. absurd (eqb-false t.number 0 (not_yes (eqb t.number 0) h.0) (rw w at e)))
    (λ w. rw w (goes_on ts next h.1 (rw w at e)))

-- ---- a board or an act that is not refused is whole
module _ (at : ℕ) (rest : List ℕ) where
  pub board-on : (board_step at rest).number ≡ 0 → (board_step at rest ≡ stop 0 (at + 2)) × (2 ≤ length rest)
  unfolding board_step
  board-on e = (goes_on (board_tests at rest) (at + 2) (board-real at rest) e, (board-clear at rest (sym (number_is (board_tests at rest) (at + 2)) ∙ e)).0)

  pub act-on : (act_step at rest).number ≡ 0 → (act_step at rest ≡ stop 0 (at + act_long rest)) × (act_long rest ≤ length rest)
  unfolding act_step
  act-on e = (goes_on (act_tests at rest) (at + act_long rest) (act-real at rest) e, (act-clear at rest (sym (number_is (act_tests at rest) (at + act_long rest)) ∙ e)).2)

-- ---- so many boards
pub boards-none : (at : ℕ) (rest : List ℕ) → boards_step 0 at rest ≡ stop 0 at
unfolding boards_step boards_tests
boards-none at rest = let here : at + 0 ≡ at = omega arith in rw here

pub boards-stop : (n at : ℕ) (rest : List ℕ) → ((board_step at rest).number ≡ 0 → ⊥) → board_step at rest ≡ boards_step (suc n) at rest
unfolding boards_step boards_tests board_step
boards-stop n at rest e = sym (stop-append (board_tests at rest) (boards_tests n (at + 2) (drop 2 rest)) (at + 2) (at + 2 * suc n) (board-real at rest) ∙ rw (ne_eqb _ 0 e))

pub boards-turn : (n at : ℕ) (rest : List ℕ) → (board_step at rest).number ≡ 0 → boards_step (suc n) at rest ≡ boards_step n (at + 2) (drop 2 rest)
unfolding boards_step boards_tests board_step
boards-turn n at rest e =
    let there : at + 2 * suc n ≡ at + 2 + 2 * n = omega arith in
    stop-append (board_tests at rest) (boards_tests n (at + 2) (drop 2 rest)) (at + 2) (at + 2 * suc n) (board-real at rest) ∙ rw (eq-eqb _ 0 e, there)

-- ---- so many acts, and nothing behind them
pub acts-none : (at : ℕ) (rest : List ℕ) → length rest ≡ 0 → stop 0 at ≡ acts_step 0 at rest
unfolding acts_step acts_tests
acts-none at rest e = let here : at + 0 ≡ at = omega arith in rw (e, here)

pub acts-left : (at : ℕ) (rest : List ℕ) → 1 ≤ length rest → stop 19 at ≡ acts_step 0 at rest
unfolding acts_step acts_tests
acts-left at rest h = rw (lt-ltb 0 (length rest) h)

pub acts-stop : (n at : ℕ) (rest : List ℕ) → ((act_step at rest).number ≡ 0 → ⊥) → act_step at rest ≡ acts_step (suc n) at rest
unfolding acts_step acts_tests act_step
acts-stop n at rest e = sym (stop-append (act_tests at rest) (acts_tests n (at + act_long rest) (drop (act_long rest) rest)) (at + act_long rest) (at + length rest) (act-real at rest) ∙ rw (ne_eqb _ 0 e))

pub acts-turn : (n at : ℕ) (rest : List ℕ) → (act_step at rest).number ≡ 0 → acts_step (suc n) at rest ≡ acts_step n (at + act_long rest) (drop (act_long rest) rest)
unfolding acts_step acts_tests act_step
acts-turn n at rest e =
    let inside = (act-on at rest e).1 in
    let there : at + length rest ≡ at + act_long rest + length (drop (act_long rest) rest) = omega (arith, length-drop (act_long rest) rest, inside) in
    stop-append (act_tests at rest) (acts_tests n (at + act_long rest) (drop (act_long rest) rest)) (at + act_long rest) (at + length rest) (act-real at rest) ∙ rw (eq-eqb _ 0 e, there)

-- ---- a loop over boards, and one over acts: what is left, and the first of it
module _ (bytes : List ℕ) (many i at : ℕ) (here : i < many) where
  one_fewer : many - i ≡ suc (many - (i + 1))
  one_fewer = omega (arith, here)

  pub boards-ends : (e : Stop) → step_told (Err e) ≡ board_step at (drop at bytes) → step_told (Err e) ≡ boards_step (many - i) at (drop at bytes)
  boards-ends e so = rw one_fewer (so ∙ boards-stop (many - (i + 1)) at (drop at bytes) (told-some e so))

  pub boards-next : (next : ℕ) → stop 0 next ≡ board_step at (drop at bytes) → at ≤ length bytes
      → (next ≤ length bytes) × (boards_step (many - (i + 1)) next (drop next bytes) ≡ boards_step (many - i) at (drop at bytes))
  boards-next next so inside =
      let none : (board_step at (drop at bytes)).number ≡ 0 = sym (ap (λ (s : Step). s.number) so) in
      let on = board-on at (drop at bytes) none in
      let there : next ≡ at + 2 = ap (λ (s : Step). s.at) (so ∙ on.0) in
      (omega (arith, there, on.1, length-drop at bytes, inside), rw (there, one_fewer) (sym (boards-turn (many - (i + 1)) at (drop at bytes) none ∙ ap (boards_step (many - (i + 1)) (at + 2)) (drop-drop 2 at bytes))))

  pub acts-ends : (e : Stop) → step_told (Err e) ≡ act_step at (drop at bytes) → step_told (Err e) ≡ acts_step (many - i) at (drop at bytes)
  acts-ends e so = rw one_fewer (so ∙ acts-stop (many - (i + 1)) at (drop at bytes) (told-some e so))

  pub acts-next : (next : ℕ) → stop 0 next ≡ act_step at (drop at bytes) → at ≤ length bytes
      → (next ≤ length bytes) × (acts_step (many - (i + 1)) next (drop next bytes) ≡ acts_step (many - i) at (drop at bytes))
  acts-next next so inside =
      let none : (act_step at (drop at bytes)).number ≡ 0 = sym (ap (λ (s : Step). s.number) so) in
      let on = act-on at (drop at bytes) none in
      let long = act_long (drop at bytes) in
      let there : next ≡ at + long = ap (λ (s : Step). s.at) (so ∙ on.0) in
      (omega (arith, there, on.1, length-drop at bytes, inside), rw (there, one_fewer) (sym (acts-turn (many - (i + 1)) at (drop at bytes) none ∙ ap (acts_step (many - (i + 1)) (at + long)) (drop-drop long at bytes))))

module _ (bytes : List ℕ) (many i at : ℕ) (over : many ≤ i) where
  none_left : many - i ≡ 0
  none_left = omega (arith, over)

  pub boards-over : stop 0 at ≡ boards_step (many - i) at (drop at bytes)
  boards-over = rw none_left (sym (boards-none at (drop at bytes)))

  pub acts-over : length bytes ≤ at → stop 0 at ≡ acts_step (many - i) at (drop at bytes)
  acts-over end = rw none_left (acts-none at (drop at bytes) (omega (arith, length-drop at bytes, end)))

  pub acts-more : at < length bytes → stop 19 at ≡ acts_step (many - i) at (drop at bytes)
  acts-more more = rw none_left (acts-left at (drop at bytes) (omega (arith, length-drop at bytes, more)))
