-- The opening of a stack is that of a row of as many records as there are counts, or plans.
-- Assumes nothing.
use Prim.Native.Nat.{ℕ, zero, suc, ◌-◌, ◌≤◌, ◌<◌}
use native.Mathlib.Numerals.{unary_clauses}
use native.Mathlib.Omega.{arith}
use mathlib.Core.Path.{◌≡◌, refl, sym, ap, ◌∙◌, subst}
use mathlib.Core.Bool.{or-true}
use mathlib.Core.List.{List, [], ◌++◌}
use Rattle.std.proofs.Common.{Result, Ok, Err}
use lib.Dec.{ltb}
use lib.ListN.{length, replicate, take, drop, length-map}
use lib.Seq.{length-take-le}
use borrow.Author.Tests.{lt-ltb, eq-eqb}
use Rattle.refusal.specs.declared.Refusal.{Refusal}
use Rattle.refusal.specs.declared.Refusal.TheVariants.{BadRow}
use Rattle.refusal.specs.Said.{Said, first}
use Rattle.refusal.proofs.Laws.{judged-number}
use Rattle.board.specs.declared.Board.{Board}
use Rattle.board.specs.Sample.{fresh}
use Rattle.board.specs.Plan.{stand_alone}
use Rattle.stack.specs.Open.{Opening, open_bars, opening_said, open_answer, open_row, count_plans}
use Rattle.stack.proofs.Laws.{open_said}
use Rattle.held.specs.declared.Stack.{Stack}
use Rattle.held.specs.Held.{Start, no_stack, fresh_row, start_of, open_of, started}

-- the first k of n are k
first-many : {X : Type 0} (l : List X) (k n : ℕ) → length l ≡ n → k ≤ n → k ≡ length (take k l)
first-many l k n e h = sym (length-take-le k l (omega (arith, e, h)))

started-ok : (start : Start) → start.answer ≡ Ok tt → started start ≡ Ok start.stack
unfolding started
started-ok start e = rw e

started-err : (start : Start) (why : Refusal) → start.answer ≡ Err why → started start ≡ Err why
unfolding started
started-err start why e = rw e

-- and what that says of the opening
pub opened-by : (start : Start) (new : Stack) → Ok new ≡ started start → (start.answer ≡ Ok tt) × (start.stack ≡ new)
unfolding started
opened-by start new = by start.answer refl
  where
    by : (a : Opening) → start.answer ≡ a → Ok new ≡ started start → (start.answer ≡ Ok tt) × (start.stack ≡ new)
    by (Ok done) e q = let r : ◌≡◌ {A = Result Stack Refusal} (Ok new) (Ok start.stack) = rw e at q in (e, cc)
    by (Err why) e q = let r : ◌≡◌ {A = Result Stack Refusal} (Ok new) (Err why) = rw e at q in let z : ◌≡◌ {A = ℕ} 0 1 = cc in absurd (omega arith)

pub refused-by : (start : Start) (why : Refusal) → Err why ≡ started start → start.answer ≡ Err why
unfolding started
refused-by start why = by start.answer refl
  where
    by : (a : Opening) → start.answer ≡ a → Err why ≡ started start → start.answer ≡ Err why
    by (Ok done) e q = let r : ◌≡◌ {A = Result Stack Refusal} (Err why) (Ok start.stack) = rw e at q in let z : ◌≡◌ {A = ℕ} 0 1 = cc in absurd (omega arith)
    by (Err other) e q = let r : ◌≡◌ {A = Result Stack Refusal} (Err why) (Err other) = rw e at q in let s : why ≡ other = cc in e ∙ ap Err (sym s)

-- more than 16 plans are refused, whatever they are
over-plans : (plans : List ℕ) → 16 < length plans → start_of plans ≡ record { stack = no_stack; answer = Err BadRow }
unfolding start_of
over-plans plans h = rw (eq-eqb (length plans) (length plans) refl, lt-ltb 16 (length plans) h, or-true (ltb (length plans) 1))

drop-same : (n m : ℕ) (b : Board) → drop n (replicate m b) ≡ replicate (m - n) b
drop-same zero m b = simp unary_clauses refl
drop-same (suc n) zero b = let none : 0 - suc n ≡ 0 = omega arith in rw none
drop-same (suc n) (suc m) b = simp unary_clauses (drop-same n m b)

module _ (plans : List ℕ) (few : length plans ≤ 16) where
  abbrev blank : List Board
  blank = take (length plans) (replicate 16 (fresh 0))

  long : length blank ≡ length plans
  long = sym (first-many (replicate 16 (fresh 0)) (length plans) 16 refl few)

  -- what the opening says is what the table says of the plans alone
  first_said : (opening_said (open_answer blank plans)).number ≡ first (open_bars (length plans) plans)
  first_said = rw long at (ap (λ (s : Said). s.number) (open_said blank plans) ∙ judged-number (open_bars (length blank) plans) [])

  number_is : (o : Opening) → open_answer blank plans ≡ o → (opening_said o).number ≡ first (open_bars (length plans) plans)
  number_is o e = sym (ap (λ (a : Opening). (opening_said a).number) e) ∙ first_said

  said : open_answer blank plans ≡ (start_of plans).answer
  unfolding start_of open_answer
  said = rw long

  opened_stack : (boards : List Board) → open_answer blank plans ≡ Ok tt → boards ≡ open_row blank plans ++ drop (length plans) (replicate 16 (fresh 0))
      → (start_of plans).stack ≡ record { boards = boards; count = length plans }
  unfolding start_of open_row fresh_row
  opened_stack boards e b =
      let ok = eq-eqb (first (open_bars (length plans) plans)) 0 (sym (number_is (Ok tt) e)) in rw (b, long, ok, drop-same (length plans) 16 (fresh 0))

  opened-plans : (boards : List Board) → open_answer blank plans ≡ Ok tt → boards ≡ open_row blank plans ++ drop (length plans) (replicate 16 (fresh 0))
      → Ok (record { boards = boards; count = length plans }) ≡ started (start_of plans)
  opened-plans boards e b = sym (started-ok (start_of plans) (sym said ∙ e) ∙ ap Ok (opened_stack boards e b))

  refused-plans : (why : Refusal) → open_answer blank plans ≡ Err why → Err why ≡ started (start_of plans)
  refused-plans why e = sym (started-err (start_of plans) why (sym said ∙ e))

-- the same of counts, of which there are as many as plans
module _ (counts : List ℕ) where
  many : length counts ≡ length (count_plans counts)
  many = sym (length-map counts stand_alone)

  pub over : 16 < length counts → open_of counts ≡ record { stack = no_stack; answer = Err BadRow }
  over h = over-plans (count_plans counts) (subst (λ (n : ℕ). 16 < n) many h)

  pub over-held : 16 < length counts → Err BadRow ≡ started (open_of counts)
  over-held h = sym (started-err (open_of counts) BadRow (ap (λ (s : Start). s.answer) (over h)))

  -- in a stack without boards
  module _ (few : length counts ≤ 16) (none : Stack) (no : none ≡ no_stack) where
    few-plans : length (count_plans counts) ≤ 16
    few-plans = subst (λ (n : ℕ). n ≤ 16) many few

    by-plans : {o : Opening} → open_answer (take (length counts) none.boards) (count_plans counts) ≡ o → open_answer (blank (count_plans counts) few-plans) (count_plans counts) ≡ o
    by-plans e = (λ i. open_answer (take (sym many i) (sym no i).boards) (count_plans counts)) ∙ e

    pub opened-held : (boards : List Board) → open_answer (take (length counts) none.boards) (count_plans counts) ≡ Ok tt
        → boards ≡ open_row (take (length counts) none.boards) (count_plans counts) ++ drop (length counts) none.boards → Ok (record { boards = boards; count = length counts }) ≡ started (open_of counts)
    opened-held boards e b =
        (λ i. Ok (record { boards = boards; count = many i }))
        ∙ opened-plans (count_plans counts) few-plans boards (by-plans e) (b ∙ (λ i. open_row (take (many i) (no i).boards) (count_plans counts) ++ drop (many i) (no i).boards))

    pub refused-held : (why : Refusal) → open_answer (take (length counts) none.boards) (count_plans counts) ≡ Err why → Err why ≡ started (open_of counts)
    refused-held why e = refused-plans (count_plans counts) few-plans why (by-plans e)
