-- On the way: every cell is inside exactly if the lowest and the highest are (proofs/Laws.antt). Nobody need believe it.
-- Assumes nothing.
use Rattle.std.specs.Prelude.{ℕ, Bool, cond, not, ◌&&◌, List, Option, Some, None, ltb}
use Rattle.cells.specs.declared.Cell.{Cell}
use Rattle.cells.specs.declared.Span.{Span}
use Rattle.garden.specs.declared.Garden.{Garden}
use Rattle.garden.specs.declared.Device.{Device}
use Rattle.garden.specs.declared.Grown.{Grown}
use Rattle.garden.specs.declared.Reached.{Reached}
use Rattle.garden.specs.Device.{device_of, ov_inner, uv_inner}
use Rattle.garden.specs.Filter.{ov_reached, uv_reached, latch_after, back_after, grow_with}

abbrev pub ov_inside_by : Device → Span → Bool
ov_inside_by d span = ltb span.high (ov_inner d)

abbrev pub uv_inside_by : Device → Bool → Span → Bool
uv_inside_by d loaded span = ltb (uv_inner d) span.low && not (d.load_removal && loaded)

abbrev pub reached_by : Device → ℕ → List Cell → List ℕ → Reached
reached_by d trigger cells mv = record { ov = ov_reached d cells mv trigger; uv = uv_reached d cells mv trigger }

-- the recovery count of a fault that is latched after the sample
abbrev pub filtered_by : ℕ → Bool → ℕ → Bool → ℕ → Option ℕ
filtered_by trigger was back inside reached = cond (latch_after trigger was back inside reached) (Some (back_after trigger was back inside)) None

unfoldable pub grow_by : Garden → List Cell → Bool → Bool → Bool → Span → List ℕ → Grown
grow_by g cells ov uv loaded span mv =
    let d = device_of g.row in
    grow_with d g cells ov uv (ov_inside_by d span) (uv_inside_by d loaded span) mv
