-- Calm cells stay as they are: a pass over them finds no run, no flag and nothing to bleed.
-- Assumes nothing.
use Prim.Native.Nat.{ℕ, zero, suc, ◌+◌, ◌<◌, ◌≤◌}
use native.Mathlib.Omega.{arith}
use mathlib.Core.Path.{◌≡◌, refl, sym, ap, ◌∙◌}
use mathlib.Core.Bool.{Bool, true, false, ◌&&◌}
use mathlib.Core.List.{List, ◌∷◌, ◌++◌}
use lib.Dec.{ltb, eqb}
use lib.ListN.{length, get_or, drop}
use lib.Seq.{drop-cons}
use borrow.Author.Tests.{ltb-true, le-ltb, eqb-true, le-leb}
use Rattle.lists.proofs.Split.{both}
use Rattle.lists.proofs.Every.{every-at}
use Rattle.settings.specs.declared.Settings.{Settings}
use Rattle.settings.specs.Levels.{ov_level, ov_release, uv_level, uv_release}
use Rattle.runs.specs.Stored.{run_next}
use Rattle.runs.proofs.Laws.{none-stood}
use Rattle.lists.specs.Marks.{number}
use Rattle.lists.proofs.Marks.{marked-above}
use Rattle.cells.specs.declared.Cell.{Cell}
use Rattle.lists.specs.Each.{each}
use Rattle.cells.specs.Bleed.{bled}
use Rattle.cells.specs.Cells.{cell_by, cell_at, reading_at, cell_count, limits_of, next_at, ov_stood_at, uv_stood_at, flagged_at, sweep_by, sweep_of, readable, low_of, high_of, span_of}
use Rattle.cells.specs.Way.{no_run, no_runs, calm_of}
use Rattle.lists.proofs.Each.{each_same}
use Rattle.cells.proofs.Ends.{every-within, all-below-release, all-above-release}

-- ---- lists by places
each-get_d : {A : Type 0} (xs : List A) (d : A) (i n : ℕ) → i + n ≤ length xs → each i n (λ k. get_or xs k d) ++ drop (i + n) xs ≡ drop i xs
unfolding each
each-get_d xs d i zero h = let here : i + 0 ≡ i = omega arith in rw here
each-get_d {A} xs d i (suc n) h =
    let there : i + suc n ≡ suc i + n = omega arith in
    rw (there, drop-cons xs i d (omega arith)) (ap (λ (l : List A). get_or xs i d ∷ l) (each-get_d xs d (suc i) n (omega arith)))

pub none_number : (i n : ℕ) → number (each i n (λ _. false)) ≡ 0
unfolding each number
none_number i zero = refl
none_number i (suc n) = rw (none_number (suc i) n)

pub none-bled : (i n : ℕ) → bled (each i n (λ _. false)) ≡ each i n (λ _. false)
unfolding each bled
none-bled i zero = refl
none-bled i (suc n) = rw (none-bled (suc i) n)

-- ---- the readings: with the lowest and the highest where UV and OV let go, no cell is above the OV level nor below the UV level
module _ (s : Settings) (cells : List Cell) (mv : List ℕ) (calm : calm_of s cells (span_of mv) ≡ true) where
  abbrev they-read : Bool
  they-read = ltb (uv_release s) (low_of mv) && ltb (high_of mv) (ov_release s)

  ten : length cells ≡ 10
  unfolding calm_of
  ten = eqb-true (length cells) 10 (both (eqb (length cells) 10) (no_runs cells && they-read) calm).0

  two-parts : (no_runs cells ≡ true) × (they-read ≡ true)
  unfolding calm_of
  two-parts = both (no_runs cells) they-read (both (eqb (length cells) 10) (no_runs cells && they-read) calm).1

  above-release : ltb (uv_release s) (low_of mv) ≡ true
  above-release = (both (ltb (uv_release s) (low_of mv)) (ltb (high_of mv) (ov_release s)) two-parts.1).0

  below-release : ltb (high_of mv) (ov_release s) ≡ true
  below-release = (both (ltb (uv_release s) (low_of mv)) (ltb (high_of mv) (ov_release s)) two-parts.1).1

  not-over : (k : ℕ) → k < length mv → ltb (ov_level s) (reading_at mv k) ≡ false
  not-over k p =
      let below = ltb-true (reading_at mv k) (ov_release s) (every-at (λ v. ltb v (ov_release s)) mv k 0 (all-below-release s mv ∙ below-release) p) in
      le-ltb (ov_level s) (reading_at mv k) (omega (arith, below))

  not-under : (k : ℕ) → k < length mv → ltb (reading_at mv k) (uv_level s) ≡ false
  not-under k p =
      let above = ltb-true (uv_release s) (reading_at mv k) (every-at (λ v. ltb (uv_release s) v) mv k 0 (all-above-release s mv ∙ above-release) p) in
      le-ltb (reading_at mv k) (uv_level s) (omega (arith, above))

  pub calm-readable : readable mv ≡ true
  calm-readable = let below = ltb-true (high_of mv) (ov_release s) below-release in every-within 5000 mv ∙ le-leb (high_of mv) 5000 (omega (arith, below))

-- ---- the pass
module _ (s : Settings) (elapsed : ℕ) (cells : List Cell) (mv : List ℕ) (calm : calm_of s cells (span_of mv) ≡ true) where
  long : length cells ≡ 10
  long = ten s cells mv calm

  over : (k : ℕ) → k < cell_count mv → ltb (ov_level s) (reading_at mv k) ≡ false
  over k p = not-over s cells mv calm k (omega arith)

  under : (k : ℕ) → k < cell_count mv → ltb (reading_at mv k) (uv_level s) ≡ false
  under k p = not-under s cells mv calm k (omega arith)

  runs : (k : ℕ) → k < cell_count mv → no_run (cell_at cells k) ≡ true
  runs k p = every-at no_run cells k (record { ov = 0; uv = 0 }) (two-parts s cells mv calm).0 (omega (arith, long))

  stays : (k : ℕ) → k < cell_count mv → next_at (limits_of s) elapsed cells 0 mv k ≡ cell_at cells k
  unfolding cell_by run_next
  stays k p =
      let c = cell_at cells k in
      let none = both (eqb c.ov 0) (eqb c.uv 0) (runs k p) in
      let ov = eqb-true c.ov 0 none.0 in
      let uv = eqb-true c.uv 0 none.1 in
      rw (over k p, under k p) (λ i. record { ov = sym ov i; uv = sym uv i })

  no-ov : (k : ℕ) → k < cell_count mv → ov_stood_at (limits_of s) elapsed cells 0 mv k ≡ false
  unfolding cell_by run_next
  no-ov k p = rw (over k p) (none-stood (limits_of s).ov_delay)

  no-uv : (k : ℕ) → k < cell_count mv → uv_stood_at (limits_of s) elapsed cells 0 mv k ≡ false
  unfolding cell_by run_next
  no-uv k p = rw (under k p) (none-stood (limits_of s).uv_delay)

  no_flag : (k : ℕ) → k < cell_count mv → flagged_at (limits_of s) elapsed cells 0 mv k ≡ false
  no_flag k p = rw (no-ov k p, marked-above 0 0 k (omega arith) (omega arith))

  pub calm-sweep : sweep_of s elapsed cells 0 mv ≡ record { cells = cells; flags = 0; bled = 0; ov_stood = 0; uv_stood = 0 }
  unfolding sweep_by
  calm-sweep =
      let n = cell_count mv in
      let none : Cell = record { ov = 0; uv = 0 } in
      let same = each_same (next_at (limits_of s) elapsed cells 0 mv) (λ k. get_or cells k none) 0 n (λ k p. stays k (omega arith)) in
      let flags = each_same (flagged_at (limits_of s) elapsed cells 0 mv) (λ _. false) 0 n (λ k p. no_flag k (omega arith)) in
      let ov = each_same (ov_stood_at (limits_of s) elapsed cells 0 mv) (λ _. false) 0 n (λ k p. no-ov k (omega arith)) in
      let uv = each_same (uv_stood_at (limits_of s) elapsed cells 0 mv) (λ _. false) 0 n (λ k p. no-uv k (omega arith)) in
      let all_of : 0 + n ≡ n = omega arith in
      let there : 0 + n ≤ length cells = omega (arith, long) in
      let stored = ap (λ (l : List Cell). l ++ drop n cells) same ∙ ap (λ (m : ℕ). each 0 n (λ k. get_or cells k none) ++ drop m cells) (sym all_of) ∙ each-get_d cells none 0 n there in
      let unflagged = ap number flags ∙ none_number 0 n in
      let unbled = ap (λ (l : List Bool). number (bled l)) flags ∙ ap number (none-bled 0 n) ∙ none_number 0 n in
      let no-ov-yet = ap number ov ∙ none_number 0 n in
      let no-uv-yet = ap number uv ∙ none_number 0 n in
      λ i. record { cells = stored i; flags = unflagged i; bled = unbled i; ov_stood = no-ov-yet i; uv_stood = no-uv-yet i }
