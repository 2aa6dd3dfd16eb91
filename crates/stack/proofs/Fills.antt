-- The records of an opening, put one by one; and the opening from counts.
-- Assumes nothing.
use Prim.Native.Nat.{ℕ, suc, ◌+◌, ◌<◌, ◌≤◌}
use native.Mathlib.Omega.{arith}
use native.Mathlib.Numerals.{add-one}
use mathlib.Core.Path.{◌≡◌, refl, sym, ap, ◌∙◌}
use mathlib.Core.Bool.{Bool, true, false, true≢false, cond, not, ◌&&◌, ◌||◌, and-false}
use mathlib.Core.List.{List, [], ◌∷◌, ◌++◌, map, append-nil}
use lib.Dec.{ltb, eqb}
use lib.ListN.{length, get_or, set, take, drop, drop_of_length-le}
use lib.Seq.{take_all, drop-cons, take-suc-set, append_snoc}
use borrow.Author.Tests.{eqb-true, eq-eqb}
use Rattle.std.specs.Prelude.{Ok, Err}
use Rattle.refusal.specs.Refusals.{numbered}
use Rattle.lists.specs.Every.{every}
use Rattle.lists.proofs.Split.{split, both}
use Rattle.board.specs.declared.Board.{Board}
use Rattle.board.specs.Plan.{bad_plan, plan_of, stand_alone}
use Rattle.board.specs.Sample.{fresh}
use Rattle.stack.specs.Row.{bad_count}
use Rattle.stack.specs.Open.{good_plans, bad_plans, open_answer, open_row, count_plans, open_counts_answer, open_counts_row}
use Rattle.stack.specs.Way.{plain_counts}

-- one record more of the row as its plan gives it
pub row_next : (plans : List ℕ) (row : List Board) → length row ≡ length plans → (i : ℕ) → i < length plans
    → take (i + 1) (set row i (fresh (get_or plans i 0))) ++ map fresh (drop (i + 1) plans) ≡ take i row ++ map fresh (drop i plans)
row_next plans row same i p =
    rw (add-one i, take-suc-set row i (fresh (get_or plans i 0)) (rw same p), drop-cons plans i 0 p) (append_snoc (take i row) (fresh (get_or plans i 0)) (map fresh (drop (suc i) plans)))

-- behind the last record the row is what the plans give
pub row_full : (plans : List ℕ) (row : List Board) → length row ≡ length plans → (i : ℕ) → length plans ≤ i → take i row ++ map fresh (drop i plans) ≡ map fresh plans → row ≡ map fresh plans
row_full plans row same i l e = rw (take_all i row (omega arith), drop_of_length-le plans l, append-nil row) at e

-- what an opening says of its plans: they are bad, or they open the row
pub opens-not : (row : List Board) (plans : List ℕ) → (not (eqb (length plans) (length row)) || bad_count (length plans) || not (good_plans plans)) ≡ true
    → (Err (numbered 1) ≡ open_answer row plans) × (row ≡ open_row row plans)
unfolding open_answer open_row
opens-not row plans e = (rw e, rw e)

pub opens-good : (row : List Board) (plans : List ℕ) → length plans ≡ length row → bad_plans plans ≡ false → (Ok tt ≡ open_answer row plans) × (map fresh plans ≡ open_row row plans)
unfolding open_answer open_row
opens-good row plans same good = let e = eq-eqb (length plans) (length row) same in (rw (e, good), rw (e, good))

-- any plans on any row: one for each record and all of them good, every record is as its board starts; else the answer is refusal 1, and no record changes
abbrev pub can_open : List Board → List ℕ → Bool
can_open row plans = eqb (length plans) (length row) && not (bad_plans plans)

pub opens : (row : List Board) (plans : List ℕ) → (cond (can_open row plans) (Ok tt) (Err (numbered 1)) ≡ open_answer row plans) × (cond (can_open row plans) (map fresh plans) row ≡ open_row row plans)
opens row plans =
    split (eqb (length plans) (length row))
    (λ e.
    split (bad_plans plans)
    (λ bad. let told = opens-not row plans (rw e bad) in (rw (e, bad) told.0, rw (e, bad) told.1))
    (λ good. let told = opens-good row plans (eqb-true (length plans) (length row) e) good in (rw (e, good) told.0, rw (e, good) told.1)))
    (λ e. let told = opens-not row plans (rw e) in (rw e told.0, rw e told.1))

-- ---- an opening from counts: counts below 256 are their plans, and any other is none that can be opened
pub plain-are : (counts : List ℕ) → plain_counts counts ≡ true → count_plans counts ≡ counts
unfolding every
plain-are [] e = refl
plain-are (n ∷ counts) e =
    let parts = both (ltb n 256) (plain_counts counts) e in
    let here : stand_alone n ≡ n = rw parts.0 (omega arith) in
    ap (λ (m : ℕ). m ∷ count_plans counts) here ∙ ap (λ (rest : List ℕ). n ∷ rest) (plain-are counts parts.1)

or_yes : (a b : Bool) → (a || b || true) ≡ true
or_yes true b = refl
or_yes false true = refl
or_yes false false = refl

none-good : (counts : List ℕ) → plain_counts counts ≡ false → good_plans (count_plans counts) ≡ false
unfolding every
none-good [] e = absurd (true≢false e)
none-good (n ∷ counts) e =
    split (ltb n 256)
    (λ h. ap (λ (t : Bool). not (bad_plan (plan_of (stand_alone n))) && t) (none-good counts (rw h at e)) ∙ and-false (not (bad_plan (plan_of (stand_alone n)))))
    (λ h. rw h)

pub opens_plain : (row : List Board) (counts : List ℕ) → plain_counts counts ≡ true → (open_answer row counts ≡ open_counts_answer row counts) × (open_row row counts ≡ open_counts_row row counts)
opens_plain row counts e = (ap (open_answer row) (sym (plain-are counts e)), ap (open_row row) (sym (plain-are counts e)))

pub opens-none : (row : List Board) (counts : List ℕ) → plain_counts counts ≡ false → (Err (numbered 1) ≡ open_counts_answer row counts) × (row ≡ open_counts_row row counts)
unfolding open_answer open_row
opens-none row counts e =
    let plans = count_plans counts in
    let refused = ap (λ (t : Bool). not (eqb (length plans) (length row)) || bad_count (length plans) || not t) (none-good counts e) ∙ or_yes (not (eqb (length plans) (length row))) (bad_count (length plans)) in
    (rw refused, rw refused)
