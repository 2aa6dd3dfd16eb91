-- An act keeps the length of its row.
-- Assumes nothing.
use mathlib.Core.Path.{◌≡◌, refl}
use mathlib.Core.List.{List}
use lib.ListN.{length}
use Rattle.board.specs.declared.Board.{Board}
use Rattle.stack.proofs.Laws.{sample-length, frame-length}
use Rattle.acts.specs.declared.Act.{Act}
use Rattle.acts.specs.declared.Act.TheVariants.{Sample, Frame, Reading}
use Rattle.acts.specs.InPlace.{cells_in, bytes_in, lent_in, act_row}

pub act-length : (row : List Board) (a : Act) → length (act_row row a) ≡ length row
unfolding act_row
act-length row (Sample s) = sample-length row s.board s.readings (cells_in s)
act-length row (Frame f) = frame-length row (bytes_in f) (lent_in f)
act-length row Reading = refl
