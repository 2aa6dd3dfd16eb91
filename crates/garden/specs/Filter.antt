-- One sample of a garden board: counts, recovery counts and the two latches (02, tickets 5 and 8; 003 for the scheme). Each fault goes by itself, and by whether it was
-- latched before the sample.
-- Assumes nothing.
use Rattle.std.specs.Prelude.{ℕ, ◌+◌, ◌-◌, min, Bool, cond, not, ◌&&◌, ◌||◌, List, ◌++◌, eqb, drop}
use Rattle.lists.specs.Compare.{◌above◌, ◌below◌, ◌at_or_above◌}
use Rattle.lists.specs.Every.{every}
use Rattle.lists.specs.Marks.{lowest}
use Rattle.lists.specs.Each.{each}
use Rattle.cells.specs.declared.Cell.{Cell}
use Rattle.cells.specs.Cells.{cell_at, reading_at, cell_count}
use Rattle.garden.specs.declared.Garden.{Garden}
use Rattle.garden.specs.declared.Device.{Device}
use Rattle.garden.specs.declared.Grown.{Grown}
use Rattle.garden.specs.Device.{device_of, ov_inner, uv_inner}

-- up by one, or down by one and never below zero; a count that is kept fits a byte
unfoldable pub count_next : Bool → ℕ → ℕ
count_next up count = cond up (min 255 (count + 1)) (count - 1)

-- a count has reached the trigger
abbrev pub reaches : ℕ → ℕ → Bool
reaches trigger count = count at_or_above trigger

module _ (d : Device) (cells : List Cell) (mv : List ℕ) where
  -- of the cell at a place: its counts one sample on, up where it reads strictly past the level
  abbrev pub ov_count_at : ℕ → ℕ
  ov_count_at k = count_next (reading_at mv k above d.ov) (cell_at cells k).ov

  abbrev pub uv_count_at : ℕ → ℕ
  uv_count_at k = count_next (reading_at mv k below d.uv) (cell_at cells k).uv

  -- the cell after the sample: where it is said so the counts of a fault are zero
  abbrev pub cell_after : Bool → Bool → ℕ → Cell
  cell_after ov_none uv_none k = record { ov = cond ov_none 0 (ov_count_at k); uv = cond uv_none 0 (uv_count_at k) }

  unfoldable pub cells_after : Bool → Bool → List Cell
  cells_after ov_none uv_none = each 0 (cell_count mv) (cell_after ov_none uv_none) ++ drop (cell_count mv) cells

  -- the lowest cell whose count reaches the trigger, or 0
  abbrev pub ov_reached : ℕ → ℕ
  ov_reached trigger = lowest 1 (each 0 (cell_count mv) (λ k. reaches trigger (ov_count_at k)))

  abbrev pub uv_reached : ℕ → ℕ
  uv_reached trigger = lowest 1 (each 0 (cell_count mv) (λ k. reaches trigger (uv_count_at k)))

-- every cell strictly inside, by each fault's own level and hysteresis; UV of a row with load removal asks that the load is off too
abbrev pub ov_inside : Device → List ℕ → Bool
ov_inside d mv = every (λ v. v below ov_inner d) mv

abbrev pub uv_inside : Device → Bool → List ℕ → Bool
uv_inside d loaded mv = every (λ v. v above uv_inner d) mv && not (d.load_removal && loaded)

-- one fault: latched before the sample or not, its recovery count, whether every cell is inside, and the lowest cell that reaches the trigger
abbrev pub latch_after : ℕ → Bool → ℕ → Bool → ℕ → Bool
latch_after trigger was back inside reached = cond was (not (reaches trigger (count_next inside back))) (not (eqb reached 0))

-- at the trigger it lets go and the recovery count is zero, and stays so while it is unlatched
abbrev pub back_after : ℕ → Bool → ℕ → Bool → ℕ
back_after trigger was back inside = cond (was && not (reaches trigger (count_next inside back))) (count_next inside back) 0

-- its counts are zero where it latches, and while it is latched
abbrev pub zeroed : Bool → ℕ → Bool
zeroed was reached = was || not (eqb reached 0)

-- both faults of a board, with what is inside; the lowest cells that reach the trigger are told
unfoldable pub grow_with : Device → Garden → List Cell → Bool → Bool → Bool → Bool → List ℕ → Grown
grow_with d g cells ov uv ovIn uvIn mv =
    let ov_low = ov_reached d cells mv g.trigger in
    let uv_low = uv_reached d cells mv g.trigger in
    record {
      cells = cells_after d cells mv (zeroed ov ov_low) (zeroed uv uv_low);
      garden =
          record {
            row = g.row;
            trigger = g.trigger;
            ov_back = back_after g.trigger ov g.ov_back ovIn;
            uv_back = back_after g.trigger uv g.uv_back uvIn;
          };
      ov = latch_after g.trigger ov g.ov_back ovIn ov_low;
      uv = latch_after g.trigger uv g.uv_back uvIn uv_low;
      ov_cell = ov_low;
      uv_cell = uv_low;
    }

abbrev pub grow_of : Garden → List Cell → Bool → Bool → Bool → List ℕ → Grown
grow_of g cells ov uv loaded mv =
    let d = device_of g.row in
    grow_with d g cells ov uv (ov_inside d mv) (uv_inside d loaded mv) mv
