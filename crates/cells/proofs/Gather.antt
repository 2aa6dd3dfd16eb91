-- One pass over the cells, from the highest down: what it has gathered, and one cell more.
-- Assumes nothing.
use Prim.Native.Nat.{ℕ, zero, suc, ◌-◌, ◌^◌, ◌<◌, ◌≤◌}
use native.Mathlib.Nat.{not-suc-le-zero}
use native.Mathlib.Omega.{arith}
use mathlib.Core.Path.{◌≡◌, ap, sym, ◌∙◌}
use mathlib.Core.Bool.{Bool}
use mathlib.Core.List.{List, ◌++◌}
use lib.Dec.{ltb}
use lib.ListN.{length, take, drop, set, take-append-drop, length-take, get_or-append}
use lib.Seq.{get_or-take}
use Rattle.runs.specs.Stored.{run_next, stood}
use Rattle.lists.specs.Marks.{number, marked, marks}
use Rattle.lists.proofs.Marks.{number-below, marks-number}
use Rattle.cells.specs.declared.Cell.{Cell}
use Rattle.lists.specs.Each.{each}
use Rattle.cells.specs.Bleed.{bled}
use Rattle.cells.specs.Cells.{cell_by, cell_at, reading_at, cell_count, Limits, next_at, ov_stood_at, uv_stood_at, flagged_at, sweep_by}
use Rattle.cells.specs.Way.{mark_next, flag_at}
use Rattle.lists.proofs.Each.{each-length, each-down, each_none, each_same, set_front}
use Rattle.cells.proofs.Bleed.{mark-turn, below-ten}
use Rattle.cells.proofs.Sets.{set_at}

module _ (l : Limits) (elapsed : ℕ) (cells : List Cell) (flags : ℕ) (mv : List ℕ) (n : ℕ) where
  -- what the pass holds with the cells from place i up behind it
  pub record Gathered (i : ℕ) (next : List Cell) (ov_stood uv_stood lower : ℕ) : Type 0 where
    pub in_cells : next ≡ take i cells ++ (each i (n - i) (next_at l elapsed cells flags mv) ++ drop n cells)
    pub in-ov : ov_stood ≡ number (each i (n - i) (ov_stood_at l elapsed cells flags mv))
    pub in-uv : uv_stood ≡ number (each i (n - i) (uv_stood_at l elapsed cells flags mv))
    pub in-low : lower ≡ number (each i (n - i) (λ k. ltb (reading_at mv k) l.ov_release))

  -- nothing yet
  pub nothing : n ≤ length cells → Gathered n cells 0 0 0
  unfolding number
  nothing h =
      record {
        in_cells = rw (each_none (next_at l elapsed cells flags mv) n, take-append-drop n cells);
        in-ov = rw (each_none (ov_stood_at l elapsed cells flags mv) n);
        in-uv = rw (each_none (uv_stood_at l elapsed cells flags mv) n);
        in-low = rw (each_none (λ k. ltb (reading_at mv k) l.ov_release) n);
      }

  -- the cell at place i - 1 is still the one that was handed in
  waits : {i : ℕ} {next : List Cell} {ov_stood uv_stood lower : ℕ}
      → Gathered i next ov_stood uv_stood lower → 0 < i → i ≤ n → n ≤ length cells → cell_at next (i - 1) ≡ cell_at cells (i - 1)
  waits {i} g p q h =
      let rest = each i (n - i) (next_at l elapsed cells flags mv) ++ drop n cells in
      rw (g.in_cells, get_or-append (take i cells) rest (record { ov = 0; uv = 0 }) (i - 1) (rw (length-take i cells) (omega arith)), get_or-take i cells (i - 1) (record { ov = 0; uv = 0 }) (omega arith))

  -- its two runs are the cell after the sample
  two_runs : (k : ℕ) (c : Cell) (ov uv : ℕ) → c ≡ cell_at cells k → ov ≡ run_next c.ov (ltb l.ov (reading_at mv k)) elapsed
      → uv ≡ run_next c.uv (ltb (reading_at mv k) l.uv) elapsed → record { ov = ov; uv = uv } ≡ next_at l elapsed cells flags mv k
  unfolding cell_by
  two_runs k c ov uv ec eo eu = rw (eo, eu, ec)

  -- the runs at place i - 1, what was found of them, and all before
  pub turn : {i : ℕ} {next : List Cell} {ov_stood uv_stood lower : ℕ} (ov uv : ℕ) (high low : Bool)
      → Gathered i next ov_stood uv_stood lower
      → ov ≡ run_next (cell_at next (i - 1)).ov (ltb l.ov (reading_at mv (i - 1))) elapsed
      → uv ≡ run_next (cell_at next (i - 1)).uv (ltb (reading_at mv (i - 1)) l.uv) elapsed
      → high ≡ stood l.ov_delay ov → low ≡ stood l.uv_delay uv → 0 < i → i ≤ n → n ≤ length cells
      → Gathered (i - 1) (set next (i - 1) (record { ov = ov; uv = uv })) (mark_next high ov_stood) (mark_next low uv_stood) (mark_next (ltb (reading_at mv (i - 1)) l.ov_release) lower)
  turn {i = zero} ov uv high low g eo eu eh el p q h = absurd (not-suc-le-zero p)
  turn {i = suc j} {next} ov uv high low g eo eu eh el p q h =
      let N = next_at l elapsed cells flags mv in
      let H = ov_stood_at l elapsed cells flags mv in
      let L = uv_stood_at l elapsed cells flags mv in
      let U : ℕ → Bool = λ k. ltb (reading_at mv k) l.ov_release in
      let back : suc j - 1 ≡ j = omega arith in
      let cell = two_runs (suc j - 1) (cell_at next (suc j - 1)) ov uv (waits g p q h) eo eu in
      let is-high : high ≡ H (suc j - 1) = eh ∙ ap (λ (c : Cell). stood l.ov_delay c.ov) cell in
      let is-low : low ≡ L (suc j - 1) = el ∙ ap (λ (c : Cell). stood l.uv_delay c.uv) cell in
      record {
        in_cells = rw (each-down N (suc j) n p q, cell, g.in_cells, back) (set_front cells (each (suc j) (n - suc j) N ++ drop n cells) j (N j) (omega arith));
        in-ov = rw (each-down H (suc j) n p q, is-high, g.in-ov) (mark-turn (H (suc j - 1)) (each (suc j) (n - suc j) H));
        in-uv = rw (each-down L (suc j) n p q, is-low, g.in-uv) (mark-turn (L (suc j - 1)) (each (suc j) (n - suc j) L));
        in-low = rw (each-down U (suc j) n p q, g.in-low) (mark-turn (U (suc j - 1)) (each (suc j) (n - suc j) U));
      }

  -- the number of up to ten cells is below 1,024
  few : (f : ℕ → Bool) (i : ℕ) → n ≤ 10 → number (each i (n - i) f) < 1024
  few f i h = below-ten (each i (n - i) f) (rw (each-length f i (n - i)) (omega arith))

  pub few-ov : {i : ℕ} {next : List Cell} {ov_stood uv_stood lower : ℕ}
      → Gathered i next ov_stood uv_stood lower → n ≤ 10 → ov_stood < 1024
  few-ov {i} g h = rw g.in-ov (few (ov_stood_at l elapsed cells flags mv) i h)

  pub few-uv : {i : ℕ} {next : List Cell} {ov_stood uv_stood lower : ℕ}
      → Gathered i next ov_stood uv_stood lower → n ≤ 10 → uv_stood < 1024
  few-uv {i} g h = rw g.in-uv (few (uv_stood_at l elapsed cells flags mv) i h)

  pub few-lower : {i : ℕ} {next : List Cell} {ov_stood uv_stood lower : ℕ}
      → Gathered i next ov_stood uv_stood lower → n ≤ 10 → lower < 1024
  few-lower {i} g h = rw g.in-low (few (λ k. ltb (reading_at mv k) l.ov_release) i h)

-- with every cell behind it the pass has what is asked
module _ (l : Limits) (elapsed : ℕ) (cells : List Cell) (flags : ℕ) (mv : List ℕ) {n i : ℕ} {next : List Cell} {ov_stood uv_stood lower : ℕ} (g : Gathered l elapsed cells flags mv n i next ov_stood uv_stood lower) (z : i ≡ 0) where
  abbrev H : ℕ → Bool
  H = ov_stood_at l elapsed cells flags mv

  abbrev L : ℕ → Bool
  L = uv_stood_at l elapsed cells flags mv

  abbrev U : ℕ → Bool
  U k = ltb (reading_at mv k) l.ov_release

  abbrev F : ℕ → Bool
  F = flagged_at l elapsed cells flags mv

  all-behind : n - i ≡ n
  all-behind = omega (arith, z)

  all-ov : ov_stood ≡ number (each 0 n H)
  all-ov = g.in-ov ∙ rw (all-behind, z)

  all-uv : uv_stood ≡ number (each 0 n L)
  all-uv = g.in-uv ∙ rw (all-behind, z)

  all-lower : lower ≡ number (each 0 n U)
  all-lower = g.in-low ∙ rw (all-behind, z)

  set_below : (f : ℕ → Bool) → number (each 0 n f) < 2 ^ n
  set_below f = rw (each-length f 0 n) at (number-below (each 0 n f))

  -- they are sets of the cells
  pub two-sets : (ov_stood < 2 ^ n) × (lower < 2 ^ n)
  two-sets = rw (all-ov, all-lower) (set_below H, set_below U)

  own : (f : ℕ → Bool) (set : ℕ) → set ≡ number (each 0 n f) → (k : ℕ) → k < n → marked set k ≡ f k
  own f set e k p = rw e (set_at f n k p)

  -- the cells are flagged by their own runs and readings
  by-sets : each 0 n (flag_at ov_stood lower flags) ≡ each 0 n F
  by-sets = each_same (flag_at ov_stood lower flags) F 0 n (λ k p. rw (own H ov_stood all-ov k (omega arith), own U lower all-lower k (omega arith)))

  pub done : (flagged bleed : ℕ) → n ≡ cell_count mv → flagged ≡ number (each 0 n (flag_at ov_stood lower flags)) → bleed ≡ number (bled (marks n flagged))
      → record { cells = next; flags = flagged; bled = bleed; ov_stood = ov_stood; uv_stood = uv_stood } ≡ sweep_by l elapsed cells flags mv
  unfolding sweep_by
  done flagged bleed en ef eb =
      let is-flagged : flagged ≡ number (each 0 n F) = ef ∙ ap number by-sets in
      let back : marks n (number (each 0 n F)) ≡ each 0 n F = ap (λ (m : ℕ). marks m (number (each 0 n F))) (sym (each-length F 0 n)) ∙ marks-number (each 0 n F) in
      let is-bled : bleed ≡ number (bled (each 0 n F)) = eb ∙ rw (is-flagged, back) in
      rw (is-flagged, is-bled, all-ov, all-uv, g.in_cells, all-behind, z, en)
