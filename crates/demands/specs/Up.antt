-- Whether anything is up, a second time: the reading's line, and the boards looked at, straight from the latches of each board's history (02, ticket 9).
-- Assumes nothing.
use Rattle.std.specs.Prelude.{ℕ, ◌<◌, ◌≡◌, ◌⊎◌, List, length, get_or}
use Rattle.refusal.specs.Said.{accepts, value}
use Rattle.settings.specs.Faults.{Fault}
use Rattle.board.specs.declared.Board.{Board}
use Rattle.demands.specs.Acts.{Act, reading, up, outcome, next, opened_row, final}
use Rattle.demands.specs.Demands.{Log, begun, taken, up_says}
use Rattle.demands.specs.Refused.{NoStack, plans_by}
use Rattle.demands.specs.Whole.{Latched, LineUp, OneIf}

-- the two values: the line, and a number below which no board has a latch; the board of that number has one, or none has and it is the number of boards
pub record Looked (logs : List Log) (says : List ℕ) : Type 0 where
  pub two : length says ≡ 2
  pub line : OneIf (LineUp logs 1) (get_or says 0 0)
  pub below : (b : ℕ) (f : Fault) → b < get_or says 1 0 → ¬ Latched logs b f
  pub there : ((f : Fault) × Latched logs (get_or says 1 0) f) ⊎ ((¬ LineUp logs 1) × (get_or says 1 0 ≡ length logs))

pub record UpByPaper : Type 0 where
  -- on any row, good or damaged, the refusal and the line are the reading's
  pub up-is-line : (row : List Board) → ((outcome row up).said.number ≡ (outcome row reading).said.number) × (value 0 (outcome row up).said ≡ value 0 (outcome row reading).said)
  -- what is told of any logs; and what the library answers after any opening that is a stack, and any acts
  pub told : (logs : List Log) → Looked logs (up_says logs)
  pub answered : (plans : List ℕ) → ¬ NoStack (plans_by plans) → (acts : List Act) → (says : List ℕ)
      × ((outcome (final next (opened_row plans) acts) up).said ≡ accepts says)
      × Looked (final taken (begun plans) acts) says
