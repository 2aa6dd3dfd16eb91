-- The contract of each export is that of the public library's act of the same name, as the toolchain makes both of the clauses in src. So what
-- is proved of those acts elsewhere holds of the library for C.
-- Assumes nothing.
use mathlib.Core.Path.{◌≡◌, refl}
use seplogic.Ra.Ura.{Ura}
use base.Logic.{SProp}
use prog.Memory.{Memory}
use prog.Routine.{Routine}
use types.Logic.{Logic}
use contract.Monad.{Fun}
use Rattle.adomvik.specs.contracts.adomvik_open as lib-open
use Rattle.adomvik.specs.contracts.adomvik_open_plans as lib-open-plans
use Rattle.adomvik.specs.contracts.adomvik_sample as lib-sample
use Rattle.adomvik.specs.contracts.adomvik_sample_board as lib-sample-board
use Rattle.adomvik.specs.contracts.adomvik_frame as lib-frame
use Rattle.adomvik.specs.contracts.adomvik_list as lib-list
use Rattle.adomvik.specs.contracts.adomvik_read as lib-read
use Rattle.adomvik.specs.contracts.adomvik_up as lib-up
use Rattle.adomvik.specs.contracts.adomvik_begin as lib-begin
use Rattle.adomvik.specs.contracts.adomvik_note_sample as lib-note-sample
use Rattle.adomvik.specs.contracts.adomvik_note_frame as lib-note-frame
use Rattle.adomvik.specs.contracts.adomvik_note_reading as lib-note-reading
use Rattle.adomvik.specs.contracts.adomvik_note_other as lib-note-other
use Rattle.adomvik.specs.contracts.adomvik_check_row as lib-check-row
use Rattle.adomvik_c.specs.contracts.adomvik_open as c-open
use Rattle.adomvik_c.specs.contracts.adomvik_open_plans as c-open-plans
use Rattle.adomvik_c.specs.contracts.adomvik_sample as c-sample
use Rattle.adomvik_c.specs.contracts.adomvik_sample_board as c-sample-board
use Rattle.adomvik_c.specs.contracts.adomvik_frame as c-frame
use Rattle.adomvik_c.specs.contracts.adomvik_list as c-list
use Rattle.adomvik_c.specs.contracts.adomvik_read as c-read
use Rattle.adomvik_c.specs.contracts.adomvik_up as c-up
use Rattle.adomvik_c.specs.contracts.adomvik_begin as c-begin
use Rattle.adomvik_c.specs.contracts.adomvik_note_sample as c-note-sample
use Rattle.adomvik_c.specs.contracts.adomvik_note_frame as c-note-frame
use Rattle.adomvik_c.specs.contracts.adomvik_note_reading as c-note-reading
use Rattle.adomvik_c.specs.contracts.adomvik_note_other as c-note-other
use Rattle.adomvik_c.specs.contracts.adomvik_check_row as c-check-row

module _ {M : Type 1} {𝓤 : Ura M} (𝓛 : Logic 𝓤) (mem : Memory → SProp 𝓤) (run : Routine → Fun 𝓤) where
  pub open-same : c-open.spec 𝓛 mem run ≡ lib-open.spec 𝓛 mem run
  open-same = refl

  pub open-plans-same : c-open-plans.spec 𝓛 mem run ≡ lib-open-plans.spec 𝓛 mem run
  open-plans-same = refl

  pub sample-same : c-sample.spec 𝓛 mem run ≡ lib-sample.spec 𝓛 mem run
  sample-same = refl

  pub sample-board-same : c-sample-board.spec 𝓛 mem run ≡ lib-sample-board.spec 𝓛 mem run
  sample-board-same = refl

  pub frame-same : c-frame.spec 𝓛 mem run ≡ lib-frame.spec 𝓛 mem run
  frame-same = refl

  pub list-same : c-list.spec 𝓛 mem run ≡ lib-list.spec 𝓛 mem run
  list-same = refl

  pub read-same : c-read.spec 𝓛 mem run ≡ lib-read.spec 𝓛 mem run
  read-same = refl

  pub up-same : c-up.spec 𝓛 mem run ≡ lib-up.spec 𝓛 mem run
  up-same = refl

  pub begin-same : c-begin.spec 𝓛 mem run ≡ lib-begin.spec 𝓛 mem run
  begin-same = refl

  pub note-sample-same : c-note-sample.spec 𝓛 mem run ≡ lib-note-sample.spec 𝓛 mem run
  note-sample-same = refl

  pub note-frame-same : c-note-frame.spec 𝓛 mem run ≡ lib-note-frame.spec 𝓛 mem run
  note-frame-same = refl

  pub note-reading-same : c-note-reading.spec 𝓛 mem run ≡ lib-note-reading.spec 𝓛 mem run
  note-reading-same = refl

  pub note-other-same : c-note-other.spec 𝓛 mem run ≡ lib-note-other.spec 𝓛 mem run
  note-other-same = refl

  pub check-row-same : c-check-row.spec 𝓛 mem run ≡ lib-check-row.spec 𝓛 mem run
  check-row-same = refl
