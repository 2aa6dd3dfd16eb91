-- The contract of each public routine, as the toolchain makes it of the clauses in src, says this of the result and of all that is lent, and nothing else.
-- A contract that said less would still be met: crate determined and the demands rest on these lines.
-- Assumes nothing.
use mathlib.Core.Path.{◌≡◌, refl}
use Prim.Native.Nat.{ℕ}
use mathlib.Core.List.{List, [], ◌∷◌}
use seplogic.Ra.Ura.{Ura}
use base.Logic.{SProp}
use prog.Memory.{Memory}
use prog.Routine.{Routine}
use types.Logic.{Logic}
use contract.Monad.{Fun}
use denote.Builtin.{u8, u32, unit}
use denote.RattleType.{RattleType}
use denote.Triple.Clauses.{closing}
use Rattle.walks.proofs.Form.{Form, handed, shown, ended_of, clauses-of}
use Rattle.walks.proofs.Callee.{on-cells, on-frame, on_list, of-slice}
use Rattle.board.specs.declared.Board.{Board}
use Rattle.board.specs.contracts.Board as Boards
use Rattle.board.specs.contracts.Readings as Readings
use Rattle.std.specs.contracts.result.Result as Result
use Rattle.refusal.specs.contracts.Refusal as Refusal
use Rattle.board.specs.contracts.Sampled as Sampled
use Rattle.reading.specs.contracts.Whole as Whole
use Rattle.reading.specs.contracts.Line as Line
use Rattle.frame.specs.contracts.Reply as Reply
use Rattle.stack.specs.Open.{Opening, open_answer, open_row, open_counts_answer, open_counts_row}
use Rattle.stack.specs.Sample.{sample_answer, sample_row}
use Rattle.stack.specs.Frame.{frame_answer, frame_row, frame_buffer}
use Rattle.stack.specs.List.{list_answer, list_buffer}
use Rattle.stack.specs.Read.{reading_of}
use Rattle.stack.specs.Up.{up_of}
use Rattle.stack.specs.contracts.open_row as open-row
use Rattle.stack.specs.contracts.open_counts as open-counts
use Rattle.stack.specs.contracts.sample_stack as sample-stack
use Rattle.stack.specs.contracts.frame_stack as frame-stack
use Rattle.stack.specs.contracts.list_stack as list-stack
use Rattle.stack.specs.contracts.read_stack as read-stack
use Rattle.stack.specs.contracts.up_stack as up-stack

-- what an act gives, or its refusal
abbrev pub answer_row : RattleType → RattleType
answer_row value = Result.the_row value Refusal.the_row

-- the answer and the row
abbrev opens_by : (List Board → List ℕ → Opening) → (List Board → List ℕ → List Board) → Form
opens_by answer after = record {
  lifetimes = 2;
  params = handed 0 tt Boards.the_row ∷ shown 1 tt u32 ∷ [];
  result = answer_row unit;
  says_of = λ κs a r e. (r ≡ answer a.0.now a.1.0.now) × (e.0.now ≡ after a.0.now a.1.0.now);
}

abbrev pub open_form : Form
open_form = opens_by open_answer open_row

abbrev pub counts_form : Form
counts_form = opens_by open_counts_answer open_counts_row

abbrev pub sample_form : Form
sample_form = on-cells (answer_row Sampled.the_row) Boards.the_row u32 Readings.the_row u32 sample_answer sample_row

-- the answer, the row and the buffer
abbrev pub frame_form : Form
frame_form = on-frame (answer_row Reply.the_row) Boards.the_row u8 u8 frame_answer frame_row frame_buffer

-- the answer and the buffer; the row is only read
abbrev pub list_form : Form
list_form = on_list (answer_row u32) Boards.the_row u32 u32 list_answer list_buffer

-- the answer; the row is only read
abbrev pub read_form : Form
read_form = of-slice (answer_row Whole.the_row) Boards.the_row reading_of

abbrev pub up_form : Form
up_form = of-slice (answer_row Line.the_row) Boards.the_row up_of

module _ {M : Type 1} {𝓤 : Ura M} (𝓛 : Logic 𝓤) (mem : Memory → SProp 𝓤) (run : Routine → Fun 𝓤) where
  pub open-row-says : open-row.spec 𝓛 mem run ≡ closing 𝓛 (ended_of open_form) (clauses-of open_form 𝓤)
  open-row-says = refl

  pub open-counts-says : open-counts.spec 𝓛 mem run ≡ closing 𝓛 (ended_of counts_form) (clauses-of counts_form 𝓤)
  open-counts-says = refl

  pub sample-stack-says : sample-stack.spec 𝓛 mem run ≡ closing 𝓛 (ended_of sample_form) (clauses-of sample_form 𝓤)
  sample-stack-says = refl

  pub frame-stack-says : frame-stack.spec 𝓛 mem run ≡ closing 𝓛 (ended_of frame_form) (clauses-of frame_form 𝓤)
  frame-stack-says = refl

  pub list-stack-says : list-stack.spec 𝓛 mem run ≡ closing 𝓛 (ended_of list_form) (clauses-of list_form 𝓤)
  list-stack-says = refl

  pub read-stack-says : read-stack.spec 𝓛 mem run ≡ closing 𝓛 (ended_of read_form) (clauses-of read_form 𝓤)
  read-stack-says = refl

  pub up-stack-says : up-stack.spec 𝓛 mem run ≡ closing 𝓛 (ended_of up_form) (clauses-of up_form 𝓤)
  up-stack-says = refl
