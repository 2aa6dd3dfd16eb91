-- The contract of each act for C, as the toolchain makes it of the clauses in src, says this of the number and of all that is lent, and nothing else.
-- A contract that said less would still be met: crate determined and the demands rest on these lines.
-- Assumes nothing.
use mathlib.Core.Path.{◌≡◌, refl}
use Prim.Native.Nat.{ℕ}
use mathlib.Core.List.{List, [], ◌∷◌}
use seplogic.Ra.Ura.{Ura}
use base.Logic.{SProp}
use prog.Memory.{Memory}
use prog.Routine.{Routine}
use types.Logic.{Logic}
use contract.Monad.{Fun}
use denote.Builtin.{u8, u32}
use denote.RattleType.{RattleType}
use denote.Triple.Clauses.{closing}
use Rattle.walks.proofs.Form.{Form, value, shown, handed, behind, ended_of, clauses-of}
use Rattle.walks.proofs.Callee.{on-frame, on_list}
use Rattle.board.specs.Sample.{sample_of}
use Rattle.board.specs.declared.Board.{Board}
use Rattle.board.specs.contracts.Board as Boards
use Rattle.board.specs.contracts.Readings as Readings
use Rattle.stack.specs.Open.{open_row, open_counts_row}
use Rattle.stack.specs.Sample.{sample_row}
use Rattle.stack.specs.Frame.{frame_row, frame_buffer}
use Rattle.stack.specs.List.{list_buffer}
use Rattle.replay.specs.Check.{check_of, check_row}
use Rattle.replay.specs.contracts.Checked as Checked
use Rattle.adomvik.specs.Calls.{open_number, counts_number, sample_number, sample_out, board_number, board_out, frame_number, list_number, read_number, read_out, up_number, up_out}
use Rattle.board.specs.contracts.Sampled as Sampled
use Rattle.adomvik.specs.contracts.Reading as Reading
use Rattle.adomvik.specs.contracts.Up as Up
use Rattle.adomvik.specs.contracts.adomvik_open as adomvik-open
use Rattle.adomvik.specs.contracts.adomvik_open_plans as adomvik-open-plans
use Rattle.adomvik.specs.contracts.adomvik_sample as adomvik-sample
use Rattle.adomvik.specs.contracts.adomvik_sample_board as adomvik-sample-board
use Rattle.adomvik.specs.contracts.adomvik_frame as adomvik-frame
use Rattle.adomvik.specs.contracts.adomvik_list as adomvik-list
use Rattle.adomvik.specs.contracts.adomvik_read as adomvik-read
use Rattle.adomvik.specs.contracts.adomvik_up as adomvik-up
use Rattle.adomvik.specs.contracts.adomvik_check_row as adomvik-check-row

-- the number and the row
abbrev opens_by : (List Board → List ℕ → ℕ) → (List Board → List ℕ → List Board) → Form
opens_by number after = record {
  lifetimes = 2;
  params = handed 0 tt Boards.the_row ∷ shown 1 tt u32 ∷ [];
  result = u8;
  says_of = λ κs a r e. (r ≡ number a.0.now a.1.0.now) × (e.0.now ≡ after a.0.now a.1.0.now);
}

abbrev pub open_form : Form
open_form = opens_by counts_number open_counts_row

abbrev pub plans_form : Form
plans_form = opens_by open_number open_row

-- the number, the row or the record, and the place
abbrev pub sample_form : Form
sample_form = record {
  lifetimes = 3;
  params = handed 0 tt Boards.the_row ∷ value u32 ∷ value Readings.the_row ∷ shown 1 tt u32 ∷ behind 2 tt Sampled.the_row ∷ [];
  result = u8;
  says_of = λ κs a r e.
      let row = a.0.now in
      let n = a.1.0 in
      let x = a.1.1.0 in
      let mv = a.1.1.1.0.now in
      let out = a.1.1.1.1.0.now in
      (r ≡ sample_number row n x mv) × ((e.0.now ≡ sample_row row n x mv) × (e.1.1.1.1.0.now ≡ sample_out row n x mv out));
}

abbrev pub board_form : Form
board_form = record {
  lifetimes = 3;
  params = behind 0 tt Boards.the_row ∷ value Readings.the_row ∷ shown 1 tt u32 ∷ behind 2 tt Sampled.the_row ∷ [];
  result = u8;
  says_of = λ κs a r e.
      let b = a.0.now in
      let x = a.1.0 in
      let mv = a.1.1.0.now in
      let out = a.1.1.1.0.now in
      (r ≡ board_number b x mv) × ((e.0.now ≡ (sample_of b x mv).board) × (e.1.1.1.0.now ≡ board_out b x mv out));
}

-- the number, the row and the buffer
abbrev pub frame_form : Form
frame_form = on-frame u8 Boards.the_row u8 u8 frame_number frame_row frame_buffer

-- the number and the words; the row is only read
abbrev pub list_form : Form
list_form = on_list u32 Boards.the_row u32 u32 list_number list_buffer

-- the number and the place; the row is only read
abbrev tells_by : (P : RattleType) → (List Board → ℕ) → (List Board → P.Denot → P.Denot) → Form
tells_by P number out = record {
  lifetimes = 2;
  params = shown 0 tt Boards.the_row ∷ behind 1 tt P ∷ [];
  result = u8;
  says_of = λ κs a r e. (r ≡ number a.0.now) × (e.1.0.now ≡ out a.0.now a.1.0.now);
}

abbrev pub read_form : Form
read_form = tells_by Reading.the_row read_number read_out

abbrev pub up_form : Form
up_form = tells_by Up.the_row up_number up_out

-- what a check tells, and the row
abbrev pub check_form : Form
check_form = record {
  lifetimes = 2;
  params = handed 0 tt Boards.the_row ∷ shown 1 tt u8 ∷ [];
  result = Checked.the_row;
  says_of = λ κs a r e. (r ≡ check_of a.0.now a.1.0.now) × (e.0.now ≡ check_row a.0.now a.1.0.now);
}

module _ {M : Type 1} {𝓤 : Ura M} (𝓛 : Logic 𝓤) (mem : Memory → SProp 𝓤) (run : Routine → Fun 𝓤) where
  pub open-says : adomvik-open.spec 𝓛 mem run ≡ closing 𝓛 (ended_of open_form) (clauses-of open_form 𝓤)
  open-says = refl

  pub open-plans-says : adomvik-open-plans.spec 𝓛 mem run ≡ closing 𝓛 (ended_of plans_form) (clauses-of plans_form 𝓤)
  open-plans-says = refl

  pub sample-says : adomvik-sample.spec 𝓛 mem run ≡ closing 𝓛 (ended_of sample_form) (clauses-of sample_form 𝓤)
  sample-says = refl

  pub sample-board-says : adomvik-sample-board.spec 𝓛 mem run ≡ closing 𝓛 (ended_of board_form) (clauses-of board_form 𝓤)
  sample-board-says = refl

  pub frame-says : adomvik-frame.spec 𝓛 mem run ≡ closing 𝓛 (ended_of frame_form) (clauses-of frame_form 𝓤)
  frame-says = refl

  pub list-says : adomvik-list.spec 𝓛 mem run ≡ closing 𝓛 (ended_of list_form) (clauses-of list_form 𝓤)
  list-says = refl

  pub read-says : adomvik-read.spec 𝓛 mem run ≡ closing 𝓛 (ended_of read_form) (clauses-of read_form 𝓤)
  read-says = refl

  pub up-says : adomvik-up.spec 𝓛 mem run ≡ closing 𝓛 (ended_of up_form) (clauses-of up_form 𝓤)
  up-says = refl

  pub check-row-says : adomvik-check-row.spec 𝓛 mem run ≡ closing 𝓛 (ended_of check_form) (clauses-of check_form 𝓤)
  check-row-says = refl
