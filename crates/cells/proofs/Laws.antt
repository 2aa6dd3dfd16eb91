-- What a sample makes of each cell, over the cell's place: nothing but its own run or flag, its own reading, the elapsed time and the settings.
-- Assumes nothing.
use Prim.Native.Nat.{ℕ, ◌<◌}
use mathlib.Core.Path.{◌≡◌, ◌∙◌}
use mathlib.Core.List.{List}
use lib.ListN.{length, drop, get_or-append}
use Rattle.settings.specs.declared.Settings.{Settings}
use Rattle.settings.specs.Levels.{ov_delay, uv_delay}
use Rattle.runs.specs.Stored.{stood}
use Rattle.lists.specs.Marks.{marked}
use Rattle.cells.specs.declared.Cell.{Cell}
use Rattle.lists.specs.Each.{each}
use Rattle.cells.specs.Cells.{cell_next, flag_next, cell_at, reading_at, cell_count, limits_of, next_at, ov_stood_at, uv_stood_at, flagged_at, sweep_by, sweep_of}
use Rattle.lists.proofs.Each.{each-length, each-place}
use Rattle.cells.proofs.Sets.{set_at}

module _ (s : Settings) (elapsed : ℕ) (cells : List Cell) (flags : ℕ) (mv : List ℕ) where
  pub cell-after : (k : ℕ) → k < cell_count mv → cell_at (sweep_of s elapsed cells flags mv).cells k ≡ cell_next s elapsed (cell_at cells k) (reading_at mv k)
  unfolding sweep_by
  cell-after k h =
      let f = next_at (limits_of s) elapsed cells flags mv in
      let long : k < length (each 0 (cell_count mv) f) = rw (each-length f 0 (cell_count mv)) h in
      let none : Cell = record { ov = 0; uv = 0 } in
      get_or-append (each 0 (cell_count mv) f) (drop (cell_count mv) cells) none k long ∙ each-place f (cell_count mv) k none h

  pub flag-after : (k : ℕ) → k < cell_count mv
      → marked (sweep_of s elapsed cells flags mv).flags k
      ≡ flag_next s (stood (ov_delay s) (cell_next s elapsed (cell_at cells k) (reading_at mv k)).ov) (marked flags k) (reading_at mv k)
  unfolding sweep_by
  flag-after k h = set_at (flagged_at (limits_of s) elapsed cells flags mv) (cell_count mv) k h

  -- the sets of the cells that have stood
  pub ov-stood-after : (k : ℕ) → k < cell_count mv → marked (sweep_of s elapsed cells flags mv).ov_stood k ≡ stood (ov_delay s) (cell_next s elapsed (cell_at cells k) (reading_at mv k)).ov
  unfolding sweep_by
  ov-stood-after k h = set_at (ov_stood_at (limits_of s) elapsed cells flags mv) (cell_count mv) k h

  pub uv-stood-after : (k : ℕ) → k < cell_count mv → marked (sweep_of s elapsed cells flags mv).uv_stood k ≡ stood (uv_delay s) (cell_next s elapsed (cell_at cells k) (reading_at mv k)).uv
  unfolding sweep_by
  uv-stood-after k h = set_at (uv_stood_at (limits_of s) elapsed cells flags mv) (cell_count mv) k h
