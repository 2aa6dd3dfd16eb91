-- The paper's session: what its definitions tell is what it prints, and by demand 2 so is what the library answers.
-- Assumes nothing.
use Prim.Native.Nat.{ℕ}
use mathlib.Core.Path.{◌≡◌, refl, ap, ◌∙◌}
use mathlib.Core.List.{List, map}
use Rattle.lists.specs.Every.{every}
use Rattle.lists.specs.Marks.{number, marks, lowest}
use Rattle.lists.specs.Each.{each}
use Rattle.cells.specs.Bleed.{bled}
use Rattle.latches.specs.Latches.{latches_byte, register0}
use Rattle.board.specs.Shunt.{shunt_above}
use Rattle.frame.specs.Check.{shifted, checked}
use Rattle.reading.specs.Reading.{line_up, first_flagged, read_of}
use Rattle.stack.specs.Row.{good_row}
use Rattle.demands.specs.Acts.{Outcome, outcome, next, opened_row, answers}
use Rattle.demands.specs.Demands.{begun, taken, told}
use Rattle.demands.specs.Session.{plans, session, printed}
use Rattle.demands.proofs.Demanded.{demand2}

abbrev values_of : List Outcome → List (List ℕ)
values_of outcomes = map (λ o. o.said.values) outcomes

pub session-told : values_of (answers taken told (begun plans) session) ≡ printed
unfolding each shunt_above number bled register0 latches_byte shifted checked good_row every read_of line_up first_flagged lowest marks
session-told = refl

pub session-answered : values_of (answers next outcome (opened_row plans) session) ≡ printed
unfolding every
session-answered = ap values_of (demand2 plans refl session).0 ∙ session-told
