-- The cells of one board at a sample (01, When a fault latches and lets go; Bleeding).
-- Assumes nothing.
use Rattle.std.specs.Prelude.{ℕ, min, max, Bool, not, ◌&&◌, ◌||◌, List, [], ◌∷◌, ◌++◌, length, get_or, drop, replicate}
use Rattle.lists.specs.Compare.{◌above◌, ◌below◌, ◌at_or_below◌}
use Rattle.lists.specs.Every.{every}
use Rattle.settings.specs.declared.Settings.{Settings}
use Rattle.settings.specs.Levels.{ov_level, ov_release, ov_delay, uv_level, uv_delay}
use Rattle.runs.specs.Stored.{run_next, stood}
use Rattle.lists.specs.Marks.{number, marked, lowest}
use Rattle.cells.specs.declared.Cell.{Cell}
use Rattle.cells.specs.declared.Span.{Span}
use Rattle.cells.specs.declared.Swept.{Swept}
use Rattle.lists.specs.Each.{each}
use Rattle.cells.specs.Bleed.{bled}

-- OV is a cell above its level, UV a cell below its level; a cell keeps a run of each
unfoldable pub cell_by : ℕ → ℕ → ℕ → Cell → ℕ → Cell
cell_by ov uv elapsed c mv = record { ov = run_next c.ov (mv above ov) elapsed; uv = run_next c.uv (mv below uv) elapsed }

abbrev pub cell_next : Settings → ℕ → Cell → ℕ → Cell
cell_next s elapsed c mv = cell_by (ov_level s) (uv_level s) elapsed c mv

-- a cell is flagged when its OV run has stood the delay, and loses its flag when it reads lower than OV level less hysteresis
abbrev pub flag_by : ℕ → Bool → Bool → ℕ → Bool
flag_by release stands flagged mv = stands || (flagged && not (mv below release))

abbrev pub flag_next : Settings → Bool → Bool → ℕ → Bool
flag_next s stands flagged mv = flag_by (ov_release s) stands flagged mv

-- the cell at a place
abbrev pub cell_at : List Cell → ℕ → Cell
cell_at cells k = get_or cells k (record { ov = 0; uv = 0 })

-- the reading at a place
abbrev pub reading_at : List ℕ → ℕ → ℕ
reading_at mv k = get_or mv k 0

-- a board has 10 cells at most
abbrev pub cell_count : List ℕ → ℕ
cell_count mv = min (length mv) 10

-- what the cells are held against, from the settings
pub record Limits : Type 0 where
  pub ov : ℕ
  pub ov_release : ℕ
  pub ov_delay : ℕ
  pub uv : ℕ
  pub uv_delay : ℕ

abbrev pub limits_of : Settings → Limits
limits_of s = record { ov = ov_level s; ov_release = ov_release s; ov_delay = ov_delay s; uv = uv_level s; uv_delay = uv_delay s }

module _ (l : Limits) (elapsed : ℕ) (cells : List Cell) (flags : ℕ) (mv : List ℕ) where
  -- of the cell at a place: the cell after the sample, whether it has stood its delays, and whether it is flagged
  abbrev pub next_at : ℕ → Cell
  next_at k = cell_by l.ov l.uv elapsed (cell_at cells k) (reading_at mv k)

  abbrev pub ov_stood_at : ℕ → Bool
  ov_stood_at k = stood l.ov_delay (next_at k).ov

  abbrev pub uv_stood_at : ℕ → Bool
  uv_stood_at k = stood l.uv_delay (next_at k).uv

  abbrev pub flagged_at : ℕ → Bool
  flagged_at k = flag_by l.ov_release (ov_stood_at k) (marked flags k) (reading_at mv k)

  -- of all cells: those after the sample, the flagged and the bled ones, and those whose OV run and whose UV run has stood.
  -- What a board keeps past its cells stays
  unfoldable pub sweep_by : Swept
  sweep_by =
      record {
        cells = each 0 (cell_count mv) next_at ++ drop (cell_count mv) cells;
        flags = number (each 0 (cell_count mv) flagged_at);
        bled = number (bled (each 0 (cell_count mv) flagged_at));
        ov_stood = number (each 0 (cell_count mv) ov_stood_at);
        uv_stood = number (each 0 (cell_count mv) uv_stood_at);
      }

abbrev pub sweep_of : Settings → ℕ → List Cell → ℕ → List ℕ → Swept
sweep_of s elapsed cells flags mv = sweep_by (limits_of s) elapsed cells flags mv

-- the lowest cell of a set, or 0 where there is none
abbrev pub lowest_cell : ℕ → ℕ
lowest_cell set = lowest 1 (each 0 10 (λ k. marked set k))

-- no run and no flag: a board at its start; and a cycle that is spent starts every run over
abbrev pub no_cells : List Cell
no_cells = replicate 10 (record { ov = 0; uv = 0 })

-- no cell reads above 5,000 mV
abbrev pub readable : List ℕ → Bool
readable mv = every (λ v. v at_or_below 5000) mv

-- the lowest and the highest of some readings; of none the lowest is above every level, and the highest below
unfoldable pub low_of : List ℕ → ℕ
low_of [] = 4294967295
low_of (v ∷ mv) = min v (low_of mv)

unfoldable pub high_of : List ℕ → ℕ
high_of [] = 0
high_of (v ∷ mv) = max v (high_of mv)

abbrev pub span_of : List ℕ → Span
span_of mv = record { low = low_of mv; high = high_of mv }
