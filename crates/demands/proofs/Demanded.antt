-- Demand 2: what the library does with any acts after any opening is what the paper tells of them.
-- Assumes nothing.
use Prim.Native.Nat.{ℕ}
use mathlib.Core.Path.{◌≡◌, refl, ap, ap₂, sym, ◌∙◌}
use mathlib.Core.Bool.{Bool, true, false, true≢false, cond, not, ◌&&◌, ◌||◌}
use mathlib.Core.List.{List, [], ◌∷◌}
use lib.Dec.{eqb}
use lib.ListN.{length, replicate, length-replicate, length-map}
use lib.Seq.{map-set_same}
use Rattle.lists.specs.Every.{every}
use Rattle.lists.proofs.Split.{both}
use Rattle.refusal.specs.Said.{Bar, bar, first, unless_refused}
use Rattle.board.specs.declared.Board.{Board}
use Rattle.board.specs.declared.Plan.{Plan}
use Rattle.board.specs.Plan.{bad_plan, plan_of}
use Rattle.board.specs.Sample.{fresh, bad_board}
use Rattle.stack.specs.Row.{bad_count, good_row, place_of}
use Rattle.stack.specs.Open.{good_plans, opened, open_row}
use Rattle.stack.specs.Frame.{frame_place}
use Rattle.board.proofs.Counts.{good-plan}
use Rattle.demands.specs.Paper.{Entry, sampled}
use Rattle.demands.specs.Acts.{Act, sample, frame, listing, reading, up, Outcome, bars, outcome, next, final, answers}
use Rattle.demands.specs.Demands.{Log, no_log, begun, log_at, joined, board_given, row_given, frame_entry, joins, taken, told, opens, Demand2}
use Rattle.demands.specs.Refused.{plans_by, plans_of}
use Rattle.demands.proofs.Given.{given-start}
use Rattle.demands.proofs.Clear.{clear}
use Rattle.demands.proofs.Asked.{every_of}
use Rattle.demands.proofs.Tells.{tells, gives}

-- ---- no act changes a board's plan, and whether a row is good goes by the plans alone

kept-plans : (refusals : List Bar) (logs : List Log) (at : ℕ) (e : Entry) → plans_of (unless_refused refusals logs (joins logs at e)) ≡ plans_of logs
kept-plans refusals logs at e = by (eqb (first refusals) 0)
  where
    by : (t : Bool) → plans_of (cond t (joins logs at e) logs) ≡ plans_of logs
    by true = map-set_same (λ (l : Log). l.plan) logs at (joined (log_at logs at) e) no_log refl
    by false = refl

pub same-plans : (logs : List Log) (a : Act) → plans_of (taken logs a) ≡ plans_of logs
same-plans logs (sample n x mv) = kept-plans (bars (row_given logs) (sample n x mv)) logs (place_of n) (sampled x mv)
same-plans logs (frame bytes buffer) = kept-plans (bars (row_given logs) (frame bytes buffer)) logs (frame_place bytes) (frame_entry bytes)
same-plans logs (listing n buffer) = refl
same-plans logs reading = refl
same-plans logs up = refl

abbrev pub good_of : List Plan → Bool
good_of plans = not (bad_count (length plans)) && every (λ p. not (bad_plan p)) plans

every-plan : (logs : List Log) → every (λ b. not (bad_board b)) (row_given logs) ≡ every (λ p. not (bad_plan p)) (plans_of logs)
unfolding every
every-plan [] = refl
every-plan (l ∷ logs) = rw (every-plan logs)

pub good-plans : (logs : List Log) → good_row (row_given logs) ≡ good_of (plans_of logs)
unfolding good_row
good-plans logs = rw (length-map logs board_given, length-map logs (λ (l : Log). l.plan), every-plan logs)

-- ---- the opening

pub begun-plans : (plans : List ℕ) → plans_of (begun plans) ≡ plans_by plans
begun-plans [] = refl
begun-plans (n ∷ plans) = ap (λ (l : List Plan). plan_of n ∷ l) (begun-plans plans)

all-good : (a b c : Bool) → (not a || b || not c) ≡ false → (b ≡ false) × (c ≡ true)
all-good true false true e = (refl, refl)
all-good true false false e = (refl, sym e)
all-good true true c e = absurd (true≢false e)
all-good false b c e = absurd (true≢false e)

pub opens-good : (plans : List ℕ) → opens plans ≡ true → (bad_count (length plans) ≡ false) × (good_plans plans ≡ true)
opens-good plans e =
    let same = eqb (length plans) (length plans) in
    all-good same (bad_count (length plans)) (good_plans plans) (clear (bar 1 (not same || bad_count (length plans) || not (good_plans plans))) [] refl e).0

pub opens-fine : (plans : List ℕ) → opens plans ≡ true → good_of (plans_by plans) ≡ true
opens-fine plans e = let good = opens-good plans e in rw (length-map plans plan_of, good.0, ← (every_of (λ p. not (bad_plan p)) plan_of plans), good.1)

-- a fresh board is the one that the paper gives of no acts
fresh-given : (plans : List ℕ) → good_plans plans ≡ true → opened plans ≡ row_given (begun plans)
unfolding every
fresh-given [] e = refl
fresh-given (n ∷ plans) e =
    let good = both (not (bad_plan (plan_of n))) (good_plans plans) e in
    ap₂ (λ (b : Board) (row : List Board). b ∷ row) (sym (given-start n (good-plan (plan_of n) good.0))) (fresh-given plans good.1)

-- whatever stood in the records
pub opened-given : (row : List Board) (plans : List ℕ) → length row ≡ length plans → opens plans ≡ true → open_row row plans ≡ row_given (begun plans)
unfolding open_row
opened-given row plans same e = rw (same, e) (fresh-given plans (opens-good plans e).1)

-- ---- demand 2

-- from any logs of good plans
told-on : (logs : List Log) → good_of (plans_of logs) ≡ true → (acts : List Act) → answers next outcome (row_given logs) acts ≡ answers taken told logs acts
told-on logs good [] = refl
told-on logs good (a ∷ acts) =
    ap₂ (λ (o : Outcome) (later : List Outcome). o ∷ later) (tells logs (good-plans logs ∙ good) a)
    (ap (λ (row : List Board). answers next outcome row acts) (gives logs a) ∙ told-on (taken logs a) (ap good_of (same-plans logs a) ∙ good) acts)

given-on : (logs : List Log) (acts : List Act) → final next (row_given logs) acts ≡ row_given (final taken logs acts)
given-on logs [] = refl
given-on logs (a ∷ acts) = ap (λ (row : List Board). final next row acts) (gives logs a) ∙ given-on (taken logs a) acts

pub demand2 : Demand2
demand2 plans e acts =
    let start = opened-given (replicate (length plans) (fresh 0)) plans (length-replicate (length plans) (fresh 0)) e in
    let fine : good_of (plans_of (begun plans)) ≡ true = ap good_of (begun-plans plans) ∙ opens-fine plans e in (
      ap (λ (row : List Board). answers next outcome row acts) start ∙ told-on (begun plans) fine acts,
      ap (λ (row : List Board). final next row acts) start ∙ given-on (begun plans) acts,
    )

-- ---- the row stays a good one

pub final-plans : (logs : List Log) (acts : List Act) → plans_of (final taken logs acts) ≡ plans_of logs
final-plans logs [] = refl
final-plans logs (a ∷ acts) = final-plans (taken logs a) acts ∙ same-plans logs a

pub final-good : (plans : List ℕ) → opens plans ≡ true → (acts : List Act) → good_row (row_given (final taken (begun plans) acts)) ≡ true
final-good plans e acts =
    good-plans (final taken (begun plans) acts) ∙ ap good_of (final-plans (begun plans) acts ∙ begun-plans plans) ∙ opens-fine plans e
