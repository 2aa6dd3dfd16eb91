-- Document 01's own openings, from the cell count of each board: the stand-alone boards of the demands (01, The stack and its readings; 02, ticket 3).
-- Assumes nothing.
use Rattle.std.specs.Prelude.{ℕ, ◌≡◌, ◌⊎◌, ◌↔◌, Bool, true, List, [], map, length, replicate}
use Rattle.board.specs.declared.Board.{Board}
use Rattle.board.specs.Sample.{fresh}
use Rattle.stack.specs.Open.{count_plans, open_counts_row}
use Rattle.demands.specs.Acts.{Act, reading, outcome, next, final, answers}
use Rattle.demands.specs.Shuffle.{picked, Shuffle}
use Rattle.demands.specs.Tied.{tied}
use Rattle.demands.specs.Demands.{Log, log, row_given, taken, told, opens, nothing}
use Rattle.demands.specs.Refused.{Outside, Some}
use Rattle.demands.specs.Mechanic.{Answers}
use Rattle.demands.specs.Host.{alone}

-- counts that are not refused, the row that open_counts gives of as many records, and the log of each board
abbrev pub opens_counts : List ℕ → Bool
opens_counts counts = opens (count_plans counts)

abbrev pub counts_row : List ℕ → List Board
counts_row counts = open_counts_row (replicate (length counts) (fresh 0)) counts

abbrev pub begun_counts : List ℕ → List Log
begun_counts counts = map (λ n. log (alone n) []) counts

pub record ByCounts : Type 0 where
  -- an opening is 1 to 16 boards of 5 to 10 cells, and no number stands for anything else: 261 is refused
  pub opening : (counts : List ℕ) → (opens_counts counts ≡ true) ↔ (¬ (Outside 1 16 (length counts) ⊎ Some 0 (Outside 5 10) counts))
  -- demands 2 and 3
  pub demand2 : (counts : List ℕ) → opens_counts counts ≡ true → (acts : List Act)
      → (answers next outcome (counts_row counts) acts ≡ answers taken told (begun_counts counts) acts)
      × (final next (counts_row counts) acts ≡ row_given (final taken (begun_counts counts) acts))
  pub demand3 : (counts : List ℕ) → opens_counts counts ≡ true → (acts : List Act) (order : List ℕ) → Shuffle (tied (length counts)) reading acts order
      → (answers next outcome (counts_row counts) (picked reading order acts) ≡ picked nothing order (answers taken told (begun_counts counts) acts))
      × (final next (counts_row counts) (picked reading order acts) ≡ final next (counts_row counts) acts)
  -- and what a mechanic would ask
  pub mechanic : (counts : List ℕ) → opens_counts counts ≡ true → (acts : List Act) → Answers (final next (counts_row counts) acts) (final taken (begun_counts counts) acts)
