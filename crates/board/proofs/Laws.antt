-- A sample, said once over the fault; and what its answer says.
-- Assumes nothing.
use Prim.Native.Nat.{ℕ}
use mathlib.Core.Path.{◌≡◌, refl}
use mathlib.Core.Bool.{not, ◌&&◌}
use mathlib.Core.List.{List}
use lib.Dec.{ltb, leb}
use borrow.Author.Tests.{le-leb, lt-leb, ltb-true, ltb-false}
use Rattle.lists.proofs.Split.{split}
use Rattle.std.specs.Prelude.{Result}
use Rattle.refusal.specs.declared.Refusal.{Refusal}
use Rattle.refusal.proofs.Laws.{said-back}
use Rattle.settings.specs.Faults.{Fault}
use Rattle.cells.specs.Cells.{high_of, span_of}
use Rattle.cells.proofs.Ends.{every-within, all-below-release, all-above-release}
use Rattle.board.specs.declared.Board.{Board}
use Rattle.board.specs.declared.Readings.{Readings}
use Rattle.board.specs.declared.Sampled.{Sampled}
use Rattle.latches.specs.Latches.{latch, latch_next, latches_of}
use Rattle.board.specs.Sample.{sampled_values, sampled_in, answer_said, answer_saying, swept_at, latches_after, latches_next, board_with, entered, runs_next, currents_next, stands, lets_go, out_of_range}
use Rattle.board.specs.Host.{holds_on}
use Rattle.board.specs.Way.{out_of_range_by, latches_by, latches_left}
use Rattle.latches.proofs.Packed.{latches-kept, latch-of}

-- an answer is determined by the number and the values that it says
pub answer-said : (a : Result Sampled Refusal) → answer_saying (answer_said a) ≡ a
answer-said = said-back sampled_values sampled_in (λ s. refl)

-- at an accepted sample an unlatched fault latches exactly if its condition has stood its delay, and a latched one unlatches exactly if it lets go,
-- and on a host board only overtemperature by itself; a garden board has no delays
pub latch-after : (f : Fault) (b : Board) (x : Readings) (mv : List ℕ)
    → latch f (latches_of (runs_next b x mv).latches)
    ≡ latch_next (latch f (latches_of b.latches)) (stands b.working (swept_at b x mv) (currents_next b.working b.currents x) x f)
    (not (holds_on b.kind f) && lets_go b.working (swept_at b x mv) (currents_next b.working b.currents x) x mv f)
unfolding board_with entered latches_next
latch-after f b x mv = rw (latches-kept (latches_after b x mv), latch-of f)

-- a cell reads above 5,000 mV exactly if the highest does
above-not-within : (most v : ℕ) → ltb most v ≡ not (leb v most)
above-not-within most v = split (ltb most v) (λ e. rw (e, lt-leb v most (ltb-true most v e))) (λ e. rw (e, le-leb v most (ltb-false most v e)))

pub range-by : (x : Readings) (mv : List ℕ) → out_of_range_by x (span_of mv) ≡ out_of_range x mv
range-by x mv = rw (every-within 5000 mv, above-not-within 5000 (high_of mv))

-- all cells are where OV and UV let go exactly if the highest and the lowest are
pub latches-by : (b : Board) (x : Readings) (mv : List ℕ) → latches_left b x (span_of mv) mv ≡ latches_after b x mv
unfolding latches_by latches_next
latches-by b x mv = rw (all-below-release b.working mv, all-above-release b.working mv)
