-- The laws of the garden packs' counts: they fit a byte; the cells, one by one; and what is inside.
-- Assumes nothing.
use Prim.Native.Nat.{ℕ, zero, suc, ◌+◌, ◌-◌, ◌<◌, ◌≤◌}
use native.Mathlib.Nat.{not-suc-le-zero}
use native.Mathlib.Omega.{arith}
use mathlib.Core.Path.{◌≡◌, refl, sym, ap, ap₂, ◌∙◌}
use mathlib.Core.Bool.{Bool, true, false, cond, not, ◌&&◌}
use mathlib.Core.List.{List, ◌++◌}
use lib.Dec.{eqb}
use lib.ListN.{length, get_or, take, drop, set, take-append-drop}
use Rattle.std.proofs.Common.{Option, Some, None, Bor}
use Rattle.std.specs.Option.{is_some, unwrap_or, option_copied}
use Rattle.std.specs.Slice.{IsItemAt}
use Rattle.lists.specs.Each.{each}
use Rattle.lists.proofs.Each.{each-down, each_none, set_front}
use Rattle.cells.specs.declared.Cell.{Cell}
use Rattle.cells.specs.Cells.{span_of}
use Rattle.cells.proofs.Ends.{every-below, every-above}
use Rattle.garden.specs.declared.Garden.{Garden}
use Rattle.garden.specs.declared.Device.{Device}
use Rattle.garden.specs.Device.{device, devices, device_of, ov_inner, uv_inner}
use Rattle.garden.specs.Filter.{count_next, reaches, latch_after, back_after, cell_after, grow_with, grow_of}
use Rattle.garden.specs.Way.{filtered_by, grow_by}

-- ---- a count
pub count_fits : (up : Bool) (count : ℕ) → count ≤ 255 → count_next up count ≤ 255
unfolding count_next
count_fits true count h = omega arith
count_fits false count h = omega arith

-- ---- the device table: UV levels fit, and OV lets go above zero
pub device-fits : (row : ℕ) → ((device_of row).ov_hysteresis ≤ (device_of row).ov) × ((device_of row).uv + (device_of row).uv_hysteresis ≤ 3300) × (0 < ov_inner (device_of row))
unfolding device_of
device-fits zero = (omega arith, omega arith, omega arith)
device-fits (suc zero) = (omega arith, omega arith, omega arith)
device-fits (suc (suc zero)) = (omega arith, omega arith, omega arith)
device-fits (suc (suc (suc n))) = (omega arith, omega arith, omega arith)

pub device-at : (row : ℕ) (other : Device) → row < 3 → get_or devices row other ≡ device_of row
unfolding device_of
device-at zero other p = refl
device-at (suc zero) other p = refl
device-at (suc (suc zero)) other p = refl
device-at (suc (suc (suc n))) other p = absurd (omega arith)

pub device-past : (row : ℕ) → 3 ≤ row → device_of row ≡ device 4200 200 2900 400 true
unfolding device_of
device-past zero p = absurd (omega arith)
device-past (suc zero) p = absurd (omega arith)
device-past (suc (suc zero)) p = absurd (omega arith)
device-past (suc (suc (suc n))) p = refl

-- the row that the table lends at a place, or the first
pub row_at : (r : Option (Bor Device)) (row : ℕ) → IsItemAt devices row r → unwrap_or (option_copied r) (device 4200 200 2900 400 true) ≡ device_of row
row_at None row g = sym (device-past row g.3)
row_at (Some x) row g = g.1 ∙ device-at row x.now g.3.0

-- ---- one fault: whether it is latched, and its recovery count, which is zero where it is not
latched-some : (t : Bool) (n : ℕ) → is_some (cond t (Some n) None) ≡ t
latched-some true n = refl
latched-some false n = refl

some-or-zero : (t : Bool) (n : ℕ) → unwrap_or (cond t (Some (cond t n 0)) None) 0 ≡ cond t n 0
some-or-zero true n = refl
some-or-zero false n = refl

zero-or-none : (t : Bool) → ◌≡◌ {A = ℕ} (unwrap_or (cond t (Some 0) None) 0) 0
zero-or-none true = refl
zero-or-none false = refl

pub filtered-latched : (trigger : ℕ) (was : Bool) (back : ℕ) (inside : Bool) (reached : ℕ) → is_some (filtered_by trigger was back inside reached) ≡ latch_after trigger was back inside reached
filtered-latched trigger was back inside reached = latched-some (latch_after trigger was back inside reached) (back_after trigger was back inside)

pub filtered-back : (trigger : ℕ) (was : Bool) (back : ℕ) (inside : Bool) (reached : ℕ) → unwrap_or (filtered_by trigger was back inside reached) 0 ≡ back_after trigger was back inside
filtered-back trigger true back inside reached = some-or-zero (not (reaches trigger (count_next inside back))) (count_next inside back)
filtered-back trigger false back inside reached = zero-or-none (not (eqb reached 0))

-- ---- the cells, from the highest down
module _ (d : Device) (cells : List Cell) (mv : List ℕ) (ov_none uv_none : Bool) (n : ℕ) where
  abbrev pub Counted : ℕ → List Cell → Type 0
  Counted i next = next ≡ take i cells ++ (each i (n - i) (cell_after d cells mv ov_none uv_none) ++ drop n cells)

  pub none-counted : Counted n cells
  none-counted = rw (each_none (cell_after d cells mv ov_none uv_none) n, take-append-drop n cells)

  pub one-counted : (i : ℕ) (next : List Cell) → 0 < i → i ≤ n → n ≤ length cells → Counted i next → Counted (i - 1) (set next (i - 1) (cell_after d cells mv ov_none uv_none (i - 1)))
  one-counted zero next p q h e = absurd (not-suc-le-zero p)
  one-counted (suc j) next p q h e =
      let N = cell_after d cells mv ov_none uv_none in
      let back : suc j - 1 ≡ j = omega arith in
      rw (each-down N (suc j) n p q, e, back) (set_front cells (each (suc j) (n - suc j) N ++ drop n cells) j (N j) (omega arith))

-- ---- every cell is inside exactly if the lowest and the highest are
pub grow-by : (g : Garden) (cells : List Cell) (ov uv loaded : Bool) (mv : List ℕ) → grow_by g cells ov uv loaded (span_of mv) mv ≡ grow_of g cells ov uv loaded mv
unfolding grow_by
grow-by g cells ov uv loaded mv =
    let d = device_of g.row in
    let fits = device-fits g.row in
    ap₂ (λ (a b : Bool). grow_with d g cells ov uv a b mv)
    (sym (every-below (ov_inner d) fits.2 mv))
    (ap (λ (t : Bool). t && not (d.load_removal && loaded)) (sym (every-above (uv_inner d) (omega (arith, fits.1)) mv)))
