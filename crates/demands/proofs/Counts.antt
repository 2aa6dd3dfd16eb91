-- What the demands say of openings by plans they say of document 01's, whose boards are stand-alone.
-- Assumes nothing.
use Prim.Native.Nat.{ℕ}
use native.Mathlib.Omega.{arith}
use mathlib.Core.Path.{◌≡◌, refl, sym, ap, ap₂, ◌∙◌, subst}
use mathlib.Core.Logic.{◌⊎◌}
use mathlib.Core.Bool.{Bool, true, false, true≢false, cond, not, ◌&&◌, ◌||◌}
use mathlib.Core.List.{List, [], ◌∷◌}
use lib.Dec.{ltb, eqb}
use lib.ListN.{length, replicate, length-map}
use borrow.Author.Tests.{ltb-true, ltb-false, lt-ltb, le-ltb, eq-eqb}
use Rattle.lists.specs.Compare.{outside}
use Rattle.lists.specs.Every.{every}
use Rattle.lists.proofs.Split.{split, both}
use Rattle.board.specs.declared.Board.{Board}
use Rattle.board.specs.declared.Plan.{Plan}
use Rattle.board.specs.Plan.{bad_plan, plan_of, stand_alone}
use Rattle.board.specs.Sample.{fresh}
use Rattle.board.proofs.Counts.{plan-stands}
use Rattle.stack.specs.Row.{bad_count}
use Rattle.stack.specs.Open.{good_plans, count_plans, open_row}
use Rattle.demands.specs.Acts.{reading, outcome, next, opened_row, final, answers}
use Rattle.demands.specs.Shuffle.{picked, Shuffle}
use Rattle.demands.specs.Tied.{tied}
use Rattle.demands.specs.Demands.{Log, log, begun, row_given, taken, told, nothing}
use Rattle.demands.specs.Refused.{Outside, Some}
use Rattle.demands.specs.Mechanic.{Answers}
use Rattle.demands.specs.Host.{alone}
use Rattle.demands.specs.Counts.{opens_counts, counts_row, begun_counts, ByCounts}
use Rattle.demands.proofs.Asked.{Asks, asks-same, asks-or, asks-not, asks-twice, asks-outside, asks-some}
use Rattle.demands.proofs.Demanded.{demand2, opens-good}
use Rattle.demands.proofs.Order.{demand3}
use Rattle.demands.proofs.Mechanic.{mechanic}

-- a count is a bad plan exactly if it is outside 5 to 10
bad-count : (n : ℕ) → bad_plan (plan_of (stand_alone n)) ≡ outside 5 10 n
bad-count n =
    split (ltb n 256)
    (λ e. ap bad_plan (plan-stands 0 n 0 0 (omega arith) (ltb-true n 256 e) (omega arith) (omega arith)))
    (λ e. let many = ltb-false n 256 e in rw (e, le-ltb n 5 (omega (arith, many)), lt-ltb 10 n (omega (arith, many))))

plan-is : (n : ℕ) → outside 5 10 n ≡ false → plan_of (stand_alone n) ≡ alone n
plan-is n e =
    split (ltb n 256)
    (λ h. plan-stands 0 n 0 0 (omega arith) (ltb-true n 256 h) (omega arith) (omega arith))
    (λ h. let many = ltb-false n 256 h in absurd (true≢false (sym (rw (le-ltb n 5 (omega (arith, many)), lt-ltb 10 n (omega (arith, many)))) ∙ e)))

good-counts : (counts : List ℕ) → good_plans (count_plans counts) ≡ every (λ n. not (outside 5 10 n)) counts
unfolding every
good-counts [] = refl
good-counts (n ∷ counts) = ap₂ (λ (a b : Bool). not a && b) (bad-count n) (good-counts counts)

begun-are : (counts : List ℕ) → every (λ n. not (outside 5 10 n)) counts ≡ true → begun (count_plans counts) ≡ begun_counts counts
unfolding every
begun-are [] e = refl
begun-are (n ∷ counts) e =
    let parts = both (not (outside 5 10 n)) (every (λ n. not (outside 5 10 n)) counts) e in
    ap₂ (λ (p : Plan) (later : List Log). log p [] ∷ later) (plan-is n (not-not (outside 5 10 n) parts.0)) (begun-are counts parts.1)
  where
    not-not : (b : Bool) → not b ≡ true → b ≡ false
    not-not false e = refl
    not-not true e = absurd (true≢false (sym e))

many : (counts : List ℕ) → length (count_plans counts) ≡ length counts
many counts = length-map counts stand_alone

row_is : (counts : List ℕ) → opened_row (count_plans counts) ≡ counts_row counts
row_is counts = ap (λ (n : ℕ). open_row (replicate n (fresh 0)) (count_plans counts)) (many counts)

-- the test that an opening is not refused, and what it asks of the counts
opens-test : (counts : List ℕ) → opens_counts counts ≡ not (bad_count (length counts) || not (every (λ n. not (outside 5 10 n)) counts))
opens-test counts = rw (eq-eqb (length (count_plans counts)) (length (count_plans counts)) refl, many counts, good-counts counts) (by (bad_count (length counts)) (every (λ n. not (outside 5 10 n)) counts))
  where
    by : (a b : Bool) → eqb (cond (a || not b) 1 0) 0 ≡ not (a || not b)
    by true b = refl
    by false true = refl
    by false false = refl

opening-ask : (counts : List ℕ) → Asks (opens_counts counts) (¬ (Outside 1 16 (length counts) ⊎ Some 0 (Outside 5 10) counts))
opening-ask counts =
    let bad = bad_count (length counts) in
    let some = not (every (λ n. not (outside 5 10 n)) counts) in
    asks-same (opens_counts counts) (not (bad || some)) (opens-test counts)
    (asks-not (bad || some) (asks-or bad some (asks-outside 1 16 (length counts))
    (asks-some 0 (Outside 5 10) (λ n. not (outside 5 10 n)) (λ n. asks-twice (outside 5 10 n) (asks-outside 5 10 n)) counts)))

module _ (counts : List ℕ) (e : opens_counts counts ≡ true) where
  logs-are : begun (count_plans counts) ≡ begun_counts counts
  logs-are = begun-are counts (sym (good-counts counts) ∙ (opens-good (count_plans counts) e).1)

  at-start : (P : List Board → List Log → Type 0) → P (opened_row (count_plans counts)) (begun (count_plans counts)) → P (counts_row counts) (begun_counts counts)
  at-start P so = subst (λ (row : List Board). P row (begun_counts counts)) (row_is counts) (subst (P (opened_row (count_plans counts))) logs-are so)

pub by-counts : ByCounts
by-counts =
    record {
      opening = opening-ask;
      demand2 = λ counts e acts.
          at-start counts e (λ row logs. (answers next outcome row acts ≡ answers taken told logs acts) × (final next row acts ≡ row_given (final taken logs acts)))
          (demand2 (count_plans counts) e acts);
      demand3 = λ counts e acts order w.
          at-start counts e (λ row logs. (answers next outcome row (picked reading order acts) ≡ picked nothing order (answers taken told logs acts)) × (final next row (picked reading order acts) ≡ final next row acts))
          (demand3 (count_plans counts) e acts order (subst (λ (m : ℕ). Shuffle (tied m) reading acts order) (sym (many counts)) w));
      mechanic = λ counts e acts. at-start counts e (λ row logs. Answers (final next row acts) (final taken logs acts)) (mechanic (count_plans counts) e acts);
    }
