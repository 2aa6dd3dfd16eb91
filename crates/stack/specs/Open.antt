-- The opening of a lent row, by plans and by bare cell counts (01, The stack and its readings; Refusal number 1; 02, ticket 3).
-- Assumes nothing.
use Rattle.std.specs.Prelude.{ℕ, Bool, not, ◌||◌, List, [], ◌∷◌, map, eqb, length, Result}
use Rattle.refusal.specs.declared.Refusal.{Refusal}
use Rattle.refusal.specs.Said.{Said, said_by, saying_by, Bar, bar, judged, unless_refused}
use Rattle.lists.specs.Every.{every}
use Rattle.board.specs.declared.Board.{Board}
use Rattle.board.specs.Plan.{bad_plan, plan_of, stand_alone}
use Rattle.board.specs.Sample.{fresh}
use Rattle.stack.specs.Row.{bad_count}

-- each board is of a kind that there is and has 5 to 10 cells
abbrev pub good_plans : List ℕ → Bool
good_plans plans = every (λ plan. not (bad_plan (plan_of plan))) plans

-- refusal 1: no plan for each record of the row and none beside, without 1 to 16 of them, or a bad plan
abbrev pub open_bars : ℕ → List ℕ → List Bar
open_bars boards plans = bar 1 (not (eqb (length plans) boards) || bad_count (length plans) || not (good_plans plans)) ∷ []

-- the same without a row: plans that open no stack of any
abbrev pub bad_plans : List ℕ → Bool
bad_plans plans = bad_count (length plans) || not (good_plans plans)

-- the plan of each board, southernmost first, gives the row
abbrev pub opened : List ℕ → List Board
opened plans = map fresh plans

-- the paper's number and values of an answer, and the answer that says them: an opening gives no value
abbrev pub Opening : Type 0
Opening = Result (Unit {0}) Refusal

abbrev pub opening_said : Opening → Said
opening_said a = said_by (λ done. []) a

abbrev pub opening_saying : Said → Opening
opening_saying s = saying_by (λ said. tt) s

-- an opening's answer, and the row after it: at a refusal the row that was lent
unfoldable pub open_answer : List Board → List ℕ → Opening
open_answer row plans = opening_saying (judged (open_bars (length row) plans) [])

unfoldable pub open_row : List Board → List ℕ → List Board
open_row row plans = unless_refused (open_bars (length row) plans) row (opened plans)

-- ---- the opening of document 01, from the cell count of each board: they are stand-alone
abbrev pub count_plans : List ℕ → List ℕ
count_plans counts = map stand_alone counts

abbrev pub open_counts_answer : List Board → List ℕ → Opening
open_counts_answer row counts = open_answer row (count_plans counts)

abbrev pub open_counts_row : List Board → List ℕ → List Board
open_counts_row row counts = open_row row (count_plans counts)
