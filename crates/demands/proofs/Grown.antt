-- What a garden board keeps is what the paper gives of its accepted acts, one act on: its counts are the filter's.
-- Assumes nothing.
use Prim.Native.Nat.{ℕ, ◌<◌, ◌≤◌}
use native.Mathlib.Omega.{arith}
use mathlib.Core.Path.{◌≡◌, refl, sym, ap, ap₂, ◌∙◌}
use mathlib.Core.Bool.{Bool, true, false, cond, not, ◌&&◌}
use mathlib.Core.List.{List, [], ◌∷◌, ◌++◌}
use lib.Dec.{ltb, leb, eqb}
use lib.ListN.{length, drop}
use Rattle.lists.specs.Each.{each, some}
use Rattle.lists.specs.Marks.{number, lowest}
use Rattle.lists.proofs.Split.{split}
use Rattle.lists.proofs.Each.{all-places}
use Rattle.settings.specs.Faults.{Fault, SCD, OCD, OV, UV}
use Rattle.cells.specs.declared.Cell.{Cell}
use Rattle.cells.specs.Cells.{cell_at, reading_at, cell_count, no_cells}
use Rattle.cells.specs.Bleed.{bled}
use Rattle.cells.proofs.Sets.{some-lowest}
use Rattle.cells.proofs.Stays.{none_number, none-bled}
use Rattle.garden.specs.Device.{ov_inner, uv_inner}
use Rattle.garden.specs.Filter.{count_next, reaches, cell_after, cells_after, ov_inside, uv_inside, latch_after, back_after, zeroed, grow_with}
use Rattle.latches.specs.declared.Latches.{Latches}
use Rattle.latches.specs.Latches.{latch, latches, risen, latches_of, latches_byte}
use Rattle.latches.specs.Tallies.{tallies_next}
use Rattle.latches.proofs.Packed.{latches-kept, latch-of}
use Rattle.board.specs.declared.Board.{Board}
use Rattle.board.specs.declared.Readings.{Readings}
use Rattle.board.specs.declared.Plan.{Plan}
use Rattle.board.specs.Plan.{is_garden, bad_plan}
use Rattle.board.specs.Host.{status_by, last_of}
use Rattle.board.specs.Sample.{attached, swept_at, risen_by, entered, runs_next, grown_at, grown_latches, garden_with, reached_cell, garden_next, board_next, runs_status, garden_status, sample_values}
use Rattle.board.proofs.Counts.{good-plan, good-trigger}
use Rattle.demands.specs.Paper.{sampled, framed, History, staged, working, spent, sample_of, clear_set, counted, past_level, inside, device, count_at, trips, filter, latched, latches_at, rises, lowest_at, control, status, flagged, flags_at, kept, cell_given, current_given, back_given, garden_given, given}
use Rattle.demands.proofs.Lists.{each_same, each-behind, each-before}
use Rattle.demands.proofs.Given.{no_bits, status-is, tallies-next, samples-next, journal-next, latches-are, bled-are, control-is, runs-sampled}
use Rattle.demands.proofs.Filtered.{not-host, garden-latched, count_fits, latched-is, back_is, count-is}

module _ (p : Plan) (g : is_garden p.kind ≡ true) (small : p.cells ≤ 10) (one : 1 ≤ p.trigger) (few : p.trigger ≤ 255) (h : History) (x : Readings) (mv : List ℕ) (long : length mv ≡ p.cells) where
  abbrev n : ℕ
  n = p.cells

  abbrev b : Board
  b = given p h

  abbrev after : History
  after = sampled x mv ∷ h

  many : cell_count mv ≡ n
  many = omega (arith, small)

  -- ---- what was: the latches, the counts and the recovery counts of the record are the filter's

  kept-is : (f : Fault) (k : ℕ) (h : History) → kept p f k h ≡ (filter p f h).count k
  kept-is f k h = rw g

  back-was : (f : Fault) (h : History) → back_given p f h ≡ (filter p f h).back
  back-was f h = rw g

  latch-was : (f : Fault) → counted f ≡ true → latch f (latches_of b.latches) ≡ (filter p f h).latched
  latch-was f c = ap (latch f) (latches-kept (latches_at p h)) ∙ latch-of f (λ f. latched p f h) ∙ garden-latched p g f h ∙ rw c

  cell-was : (k : ℕ) → k < n → cell_at b.cells k ≡ cell_given p h k
  cell-was k q = each-before n (cell_given p h) (drop n no_cells) k (record { ov = 0; uv = 0 }) q

  -- ---- one fault of cells: the count at a place by the record is the one by the filter, so the fault trips as it does there
  module _ (f : Fault) (own : Cell → ℕ) (own_is : (k : ℕ) → own (cell_given p h k) ≡ kept p f k h) where
    abbrev next : ℕ → ℕ
    next k = count_next (past_level (device p f) f (reading_at mv k)) (own (cell_at b.cells k))

    next-is : (k : ℕ) → k < n → next k ≡ count_next (past_level (device p f) f (reading_at mv k)) ((filter p f h).count k)
    next-is k q = ap (count_next (past_level (device p f) f (reading_at mv k))) (ap own (cell-was k q) ∙ own_is k ∙ kept-is f k h)

    -- each place reaches the trigger as it does there
    reach-is : (k : ℕ) → k < n → reaches p.trigger (next k) ≡ leb p.trigger (count_at p f (filter p f h) (sample_of x mv) k)
    reach-is k q = ap (leb p.trigger) (next-is k q ∙ count_fits p f one few h x mv k q)

    abbrev reached : ℕ
    reached = lowest 1 (each 0 (cell_count mv) (λ k. reaches p.trigger (next k)))

    trips-is : not (eqb reached 0) ≡ trips p f (filter p f h) (sample_of x mv)
    trips-is =
        some-lowest 0 (each 0 (cell_count mv) (λ k. reaches p.trigger (next k)))
        ∙ rw many (ap some (each_same n _ _ reach-is))

    cell-is : reached ≡ lowest_at p f x mv h
    cell-is = rw (many, g) (ap (lowest 1) (each_same n _ _ reach-is))

    count-after : (was : Bool) → was ≡ (filter p f h).latched → (k : ℕ) → k < n → cond (zeroed was reached) 0 (next k) ≡ kept p f k after
    count-after was e k q = rw (e, next-is k q) (count-is p f one few h x mv k q reached trips-is) ∙ sym (kept-is f k after)

    -- so each part of the library's step is the filter's, by the latch, the recovery count and what is inside of the record
    module _ (was within : Bool) (back : ℕ) (was-is : was ≡ (filter p f h).latched) (within-is : within ≡ inside n (device p f) f (sample_of x mv)) (back-is-was : back ≡ (filter p f h).back) where
      latch-after : latch_after p.trigger was back within reached ≡ (filter p f after).latched
      latch-after = rw (was-is, within-is, back-is-was) (latched-is p f one few h x mv reached trips-is)

      back-after : back_after p.trigger was back within ≡ back_given p f after
      back-after = rw (was-is, within-is, back-is-was) (back_is p f one few h x mv) ∙ sym (back-was f after)

  -- ---- both faults

  abbrev ov_was : Bool
  ov_was = latch OV (latches_of b.latches)

  abbrev uv_was : Bool
  uv_was = latch UV (latches_of b.latches)

  abbrev ov_low : ℕ
  ov_low = reached OV (λ c. c.ov) (λ k. refl)

  abbrev uv_low : ℕ
  uv_low = reached UV (λ c. c.uv) (λ k. refl)

  ov-inside : ov_inside (device p OV) mv ≡ inside n (device p OV) OV (sample_of x mv)
  ov-inside = sym (all-places (λ v. ltb v (ov_inner (device p OV))) mv 0 n (sym long))

  uv-inside : uv_inside (device p UV) (attached x) mv ≡ inside n (device p UV) UV (sample_of x mv)
  uv-inside = ap (λ (t : Bool). t && not ((device p UV).load_removal && attached x)) (sym (all-places (λ v. ltb (uv_inner (device p UV)) v) mv 0 n (sym long)))

  cell-after : (k : ℕ) → k < n → cell_after (device p OV) b.cells mv (zeroed ov_was ov_low) (zeroed uv_was uv_low) k ≡ cell_given p after k
  cell-after k q = λ i. record {
    ov = count-after OV (λ c. c.ov) (λ k. refl) ov_was (latch-was OV refl) k q i;
    uv = count-after UV (λ c. c.uv) (λ k. refl) uv_was (latch-was UV refl) k q i;
  }

  cells_are : cells_after (device p OV) b.cells mv (zeroed ov_was ov_low) (zeroed uv_was uv_low) ≡ (given p after).cells
  unfolding cells_after
  cells_are =
      let next = cell_after (device p OV) b.cells mv (zeroed ov_was ov_low) (zeroed uv_was uv_low) in
      ap (λ (m : ℕ). each 0 m next ++ drop m b.cells) many
      ∙ ap₂ (λ (front behind : List Cell). front ++ behind) (each_same n next (cell_given p after) cell-after) (each-behind 0 n (cell_given p h) (drop n no_cells))

  grown-is : grown_at b x mv ≡ record { cells = (given p after).cells; garden = garden_given p after; ov = (filter p OV after).latched; uv = (filter p UV after).latched; ov_cell = lowest_at p OV x mv h; uv_cell = lowest_at p UV x mv h }
  unfolding grow_with
  grown-is = λ i. record {
    cells = cells_are i;
    garden =
        record {
          row = p.row;
          trigger = p.trigger;
          ov_back = back-after OV (λ c. c.ov) (λ k. refl) ov_was (ov_inside (device p OV) mv) (back_given p OV h) (latch-was OV refl) ov-inside (back-was OV h) i;
          uv_back = back-after UV (λ c. c.uv) (λ k. refl) uv_was (uv_inside (device p UV) (attached x) mv) (back_given p UV h) (latch-was UV refl) uv-inside (back-was UV h) i;
        };
    ov = latch-after OV (λ c. c.ov) (λ k. refl) ov_was (ov_inside (device p OV) mv) (back_given p OV h) (latch-was OV refl) ov-inside (back-was OV h) i;
    uv = latch-after UV (λ c. c.uv) (λ k. refl) uv_was (uv_inside (device p UV) (attached x) mv) (back_given p UV h) (latch-was UV refl) uv-inside (back-was UV h) i;
    ov_cell = cell-is OV (λ c. c.ov) (λ k. refl) i;
    uv_cell = cell-is UV (λ c. c.uv) (λ k. refl) i;
  }

  -- the latches that it leaves
  abbrev left : Latches
  left = grown_latches (grown_at b x mv)

  left-are : left ≡ latches_at p after
  left-are = ap grown_latches grown-is ∙ rw g

  -- ---- what it has not: flags, runs of currents, bits of register 1

  no_flag : (k : ℕ) (h : History) → flagged p k h ≡ false
  no_flag k [] = refl
  no_flag k (sampled x mv ∷ h) = rw g
  no_flag k (framed address register v ∷ h) = no_flag k h

  flags-none : (h : History) → flags_at p h ≡ each 0 n (λ k. false)
  flags-none h = each_same n (λ k. flagged p k h) (λ k. false) (λ k q. no_flag k h)

  no-current : (f : Fault) → current_given p f h ≡ current_given p f after
  no-current f = rw g

  control-stays : control p h ≡ control p after
  control-stays =
      let was = no_bits p (not-host p.kind g) h in
      let is = no_bits p (not-host p.kind g) after in
      ap₂ (λ (d c : Bool). number (clear_set p h ∷ d ∷ c ∷ [])) (was.0 ∙ sym is.0) (was.1 ∙ sym is.1)

  risen-are : risen_by b left ≡ latches (λ f. rises p f (sampled x mv) h)
  risen-are = ap₂ risen (latches-kept (latches_at p h)) left-are

  tallies-are : tallies_next (risen_by b left) b.tallies ≡ (given p after).tallies
  tallies-are = ap (λ (t : Latches). tallies_next t b.tallies) risen-are ∙ tallies-next p h x mv

  garden-sampled : garden_next b x mv ≡ given p after
  unfolding garden_with entered
  garden-sampled = λ i. record {
    count = n;
    latches = latches_byte (left-are i);
    cycles = spent h;
    kind = p.kind;
    flags = number ((flags-none h ∙ sym (flags-none after)) i);
    working = working h;
    staged = staged h;
    currents = record { ocd = no-current OCD i; scd = no-current SCD i };
    cells = (grown-is i).cells;
    last = last_of x mv;
    control = control-stays i;
    garden = (grown-is i).garden;
    tallies = tallies-are i;
    samples = samples-next p h x mv i;
    journal = journal-next p h x mv (risen_by b left) (reached_cell (grown_at b x mv)) risen-are (λ j. (grown-is j).ov_cell) (λ j. (grown-is j).uv_cell) i;
  }

  garden-status : garden_status b x mv ≡ status p after
  garden-status = ap₂ (status_by p.kind) control-stays left-are ∙ status-is p after (latches_at p after)

  garden-bled : 0 ≡ number (bled (flags_at p after))
  garden-bled = sym (ap (λ (l : List Bool). number (bled l)) (flags-none after) ∙ ap number (none-bled 0 n) ∙ none_number 0 n)

-- ---- a board of any kind that a good plan gives

module _ (p : Plan) (good : not (bad_plan p) ≡ true) (h : History) (x : Readings) (mv : List ℕ) (long : length mv ≡ p.cells) where
  abbrev then : History
  then = sampled x mv ∷ h

  few-cells : p.cells ≤ 10
  few-cells = good-plan p good

  pub given-sampled : board_next (given p h) x mv ≡ given p then
  given-sampled =
      split (is_garden p.kind)
      (λ g. let t = good-trigger p g good in ap by g ∙ garden-sampled p g few-cells t.0 t.1 h x mv long)
      (λ g. ap by g ∙ runs-sampled p g few-cells h x mv long)
    where
      by : Bool → Board
      by t = cond t (garden_next (given p h) x mv) (runs_next (given p h) x mv)

  pub values-are : sample_values (given p h) x mv ≡ status p then ∷ number (bled (flags_at p then)) ∷ []
  values-are =
      split (is_garden p.kind)
      (λ g. let t = good-trigger p g good in ap by g ∙ ap₂ two (garden-status p g few-cells t.0 t.1 h x mv long) (garden-bled p g few-cells t.0 t.1 h x mv long))
      (λ g. ap by g ∙ ap₂ two (ap₂ (status_by p.kind) (control-is p g few-cells h x mv long) (latches-are p g few-cells h x mv long) ∙ status-is p then (latches_at p then)) (bled-are p g few-cells h x mv long))
    where
      two : ℕ → ℕ → List ℕ
      two s v = s ∷ v ∷ []

      by : Bool → List ℕ
      by t = two (cond t (garden_status (given p h) x mv) (runs_status (given p h) x mv)) (cond t 0 (swept_at (given p h) x mv).bled)
