-- What a board keeps is what the paper gives of its accepted acts: at the start, and one act on, of a board that keeps runs (a garden board's is in Grown).
-- Assumes nothing.
use Prim.Native.Nat.{ℕ, ◌+◌, ◌<◌, ◌≤◌}
use native.Mathlib.Omega.{arith}
use mathlib.Core.Path.{◌≡◌, refl, ap, ap₂, sym, ◌∙◌}
use mathlib.Core.Bool.{Bool, true, false, true≢false, cond, not, ◌&&◌, ◌||◌, or-false, and-false}
use mathlib.Core.List.{List, [], ◌∷◌, ◌++◌}
use mathlib.Core.Option.{Option, some as just, none}
use lib.Dec.{leb, ltb, eqb}
use lib.ListN.{length, drop}
use borrow.Author.Tests.{eqb-true, ne_eqb, lt-ltb, le-ltb}
use Rattle.lists.proofs.Split.{split, both}
use Rattle.lists.proofs.Marks.{number_at}
use Rattle.lists.proofs.Below.{right-below, right-at}
use Rattle.settings.specs.Levels.{ov_level, ov_release, uv_level, uv_release, ocd_level, scd_level}
use Rattle.settings.specs.declared.Settings.{Settings}
use Rattle.settings.specs.Bytes.{with_byte, same}
use Rattle.settings.specs.Faults.{Fault, SCD, OCD, OV, UV, OT, delay}
use Rattle.lists.specs.Marks.{number, marked, lowest}
use Rattle.runs.specs.Run.{past, lasting, stretch}
use Rattle.runs.specs.Stored.{stored, run_next, stood}
use Rattle.runs.proofs.Laws.{kept_run, stood-delay}
use Rattle.cells.specs.declared.Cell.{Cell}
use Rattle.cells.specs.declared.Swept.{Swept}
use Rattle.lists.specs.Each.{each, some as some_of}
use Rattle.lists.proofs.Each.{all-places}
use Rattle.cells.proofs.Stays.{none_number}
use Rattle.cells.proofs.Sets.{some_number, set_at, lowest_set}
use Rattle.cells.proofs.Ends.{all-below-level, all-above-level}
use Rattle.cells.specs.Bleed.{bled}
use Rattle.cells.specs.Cells.{cell_by, cell_at, reading_at, cell_count, no_cells, limits_of, next_at, flagged_at, flag_by, sweep_by, lowest_cell}
use Rattle.latches.specs.declared.Latches.{Latches}
use Rattle.latches.specs.Latches.{latch, latches, latch_next, risen, latches_byte, latches_of, any_latch, register0}
use Rattle.latches.specs.Control.{clear_bit, dsg_bit, chg_bit, control_next}
use Rattle.latches.specs.Tallies.{tallies, tally_next, tallies_next}
use Rattle.latches.proofs.Packed.{latches-kept}
use Rattle.board.specs.declared.Board.{Board}
use Rattle.board.specs.declared.Currents.{Currents}
use Rattle.board.specs.declared.Readings.{Readings}
use Rattle.board.specs.declared.Plan.{Plan}
use Rattle.board.specs.Plan.{is_host, is_garden, plan_of}
use Rattle.board.specs.Shunt.{shunt_above}
use Rattle.board.specs.Host as host
use Rattle.board.specs.Host.{status_by, holds_on, last_of, cleared_of}
use Rattle.journal.specs.Ring.{Entry, no_entries, entered_all}
use Rattle.journal.proofs.Laws.{all_more}
use Rattle.board.specs.Latchings as sample
use Rattle.board.specs.Latchings.{number_next, cell_of}
use Rattle.board.specs.Sample as board
use Rattle.board.specs.Sample.{fresh, hot, currents_next, latches_next, swept_at, latches_after, risen_by, control_with, board_with, entered, stood_cell, runs_next}
use Rattle.frame.specs.Frame.{writes}
use Rattle.registers.specs.Registers as registers
use Rattle.registers.specs.Registers.{staging, board_after}
use Rattle.demands.specs.Paper as paper
use Rattle.demands.specs.Paper.{sampled, framed, History, staged, working, spends, spent, Sample, sample_of, since, holds, run_of, stood_delay, stands, lets_go, steers, clear_set, last_sample, over_by, counted, count_at, filter, latched, latches_at, rises, latching, tallied, sample_number, lowest_at, fault_cell, latchings, dsg_set, chg_set, control, may_dsg, may_chg, flagged, flags_at, last_given, kept, cell_given, current_given, garden_given, given}
use Rattle.demands.proofs.Runs.{working-stays, runs}
use Rattle.demands.proofs.Lists.{each_same, each-behind, each-before, each-one}

-- ---- the start

abbrev no_cell : Cell
no_cell = record { ov = 0; uv = 0 }

none_kept : (p : Plan) (f : Fault) (k : ℕ) → kept p f k [] ≡ 0
none_kept p f k = split (is_garden p.kind) (λ g. rw g) (λ g. rw g)

cells-start : (p : Plan) → p.cells ≤ 10 → each 0 p.cells (cell_given p []) ++ drop p.cells no_cells ≡ no_cells
cells-start p few =
    ap (λ (l : List Cell). l ++ drop p.cells no_cells) (each_same p.cells (cell_given p []) (λ k. no_cell) (λ k q i. record { ov = none_kept p OV k i; uv = none_kept p UV k i }))
    ∙ each-one 0 p.cells 10 no_cell few

pub given-start : (n : ℕ) → (plan_of n).cells ≤ 10 → given (plan_of n) [] ≡ fresh n
unfolding fresh latches_byte number
given-start n few =
    split (is_garden (plan_of n).kind)
    (λ g. rw (cells-start (plan_of n) few, none_number 0 (plan_of n).cells, g))
    (λ g. rw (cells-start (plan_of n) few, none_number 0 (plan_of n).cells, g))

-- ---- register 1

-- its bits are what the history gives
module _ (p : Plan) (h : History) where
  abbrev bits : List Bool
  bits = clear_set p h ∷ dsg_set p h ∷ chg_set p h ∷ []

  pub clear_kept : clear_bit (control p h) ≡ clear_set p h
  clear_kept = number_at bits 0 (omega arith)

  pub dsg-kept : dsg_bit (control p h) ≡ dsg_set p h
  dsg-kept = number_at bits 1 (omega arith)

  pub chg-kept : chg_bit (control p h) ≡ chg_set p h
  chg-kept = number_at bits 2 (omega arith)

-- so the switches may be on as it says
pub may-dsg-is : (p : Plan) (h : History) → host.may_dsg p.kind (control p h) ≡ may_dsg p h
may-dsg-is p h = ap (λ (t : Bool). not (is_host p.kind) || t) (dsg-kept p h)

pub may-chg-is : (p : Plan) (h : History) → host.may_chg p.kind (control p h) ≡ may_chg p h
may-chg-is p h = ap (λ (t : Bool). not (is_host p.kind) || t) (chg-kept p h)

pub status-is : (p : Plan) (h : History) (t : Latches) → status_by p.kind (control p h) t ≡ register0 (may_dsg p h) (may_chg p h) t
status-is p h t = ap₂ (λ (d c : Bool). register0 d c t) (may-dsg-is p h) (may-chg-is p h)

-- a board that is not a host has no bit set
pub no_bits : (p : Plan) → is_host p.kind ≡ false → (h : History) → (dsg_set p h ≡ false) × (chg_set p h ≡ false)
no_bits p alone [] = (refl, refl)
no_bits p alone (sampled x mv ∷ h) = let before = no_bits p alone h in (rw before.0, rw before.1)
no_bits p alone (framed address register v ∷ h) = let before = no_bits p alone h in (rw (alone, before.0), rw (alone, before.1))

-- where nothing latches no bit is cleared
none-four : (a b c d e : Bool) → (a || b || c || d || e) ≡ false → ((c || b || a || e) ≡ false) × ((d || b || a || e) ≡ false)
none-four false false false false false e = (refl, refl)
none-four true b c d e h = absurd (true≢false h)
none-four false true c d e h = absurd (true≢false h)
none-four false false true d e h = absurd (true≢false h)
none-four false false false true e h = absurd (true≢false h)
none-four false false false false true h = absurd (true≢false h)

and_yes : (b : Bool) → b ≡ (b && not false)
and_yes true = refl
and_yes false = refl

-- ---- a sample

-- the tallies after it, by the faults that latch at it: of a board of any kind
tally-next : (p : Plan) (f : Fault) (h : History) (x : Readings) (mv : List ℕ) → tally_next (rises p f (sampled x mv) h) (tallied p f h) ≡ tallied p f (sampled x mv ∷ h)
unfolding tally_next
tally-next p f h x mv = split (rises p f (sampled x mv) h) (λ e. rw e (omega arith)) (λ e. rw e)

pub tallies-next : (p : Plan) (h : History) (x : Readings) (mv : List ℕ)
    → tallies_next (latches (λ f. rises p f (sampled x mv) h)) (tallies (λ f. tallied p f h)) ≡ tallies (λ f. tallied p f (sampled x mv ∷ h))
unfolding tallies_next
tallies-next p h x mv = λ i. tallies (λ f. tally-next p f h x mv i)

-- so the number, and the journal by what latches at it and the cells that made it
number-next : (h : History) (x : Readings) (mv : List ℕ) → number_next (sample_number h) ≡ sample_number (sampled x mv ∷ h)
number-next h x mv = omega arith

pub samples-next : (p : Plan) (h : History) (x : Readings) (mv : List ℕ) → number_next (given p h).samples ≡ (given p (sampled x mv ∷ h)).samples
samples-next p h x mv = number-next h x mv

pub journal-next : (p : Plan) (h : History) (x : Readings) (mv : List ℕ) (up : Latches) (cell : Fault → ℕ) → up ≡ latches (λ f. rises p f (sampled x mv) h)
    → cell OV ≡ lowest_at p OV x mv h → cell UV ≡ lowest_at p UV x mv h
    → entered_all (given p h).journal (sample.latchings (λ f. latch f up) (cell_of (cell OV) (cell UV)) (number_next (given p h).samples)) ≡ (given p (sampled x mv ∷ h)).journal
unfolding sample.latchings
journal-next p h x mv up cell up_is ov uv =
    let new : List Entry = sample.latchings (λ f. latching p f (sampled x mv) h) (fault_cell p x mv h) (sample_number (sampled x mv ∷ h)) in
    (λ i. entered_all (given p h).journal (sample.latchings (λ f. latch f (up_is i)) (cell_of (ov i) (uv i)) (number-next h x mv i))) ∙ sym (all_more no_entries (latchings p h) new)

-- a condition without delay has stood it exactly if it holds
no-delay : (b : Bool) (x : Sample) (older : List Sample) → b ≡ past 0 (lasting (λ y. y.readings.elapsed) (cond b (x ∷ older) []))
no-delay false x older = refl
no-delay true x older = refl

module _ (p : Plan) (settled : is_garden p.kind ≡ false) (few : p.cells ≤ 10) (h : History) (x : Readings) (mv : List ℕ) (long : length mv ≡ p.cells) where
  abbrev n : ℕ
  n = p.cells

  abbrev after : History
  after = sampled x mv ∷ h

  count-is : cell_count mv ≡ n
  count-is = omega arith

  -- a run of any fault, at any place
  run-after : (f : Fault) (k : ℕ) → run_next (stored (run_of f k h)) (holds f (working h) k (sample_of x mv)) x.elapsed ≡ stored (run_of f k after)
  run-after f k = kept_run (λ y. y.readings.elapsed) (holds f (working h) k) (sample_of x mv) (since h)

  stood-after : (f : Fault) (k : ℕ) → stood (delay f (working h)) (run_next (stored (run_of f k h)) (holds f (working h) k (sample_of x mv)) x.elapsed) ≡ stood_delay f k after
  stood-after f k = ap (stood (delay f (working h))) (run-after f k) ∙ stood-delay f (working h) (run_of f k after)

  -- what was kept are runs
  run-kept : (f : Fault) (k : ℕ) (h : History) → kept p f k h ≡ stored (run_of f k h)
  run-kept f k h = ap (λ (t : Bool). cond t ((filter p f h).count k) (stored (run_of f k h))) settled

  current-kept : (f : Fault) (h : History) → current_given p f h ≡ stored (run_of f 0 h)
  current-kept f h = ap (λ (t : Bool). cond t 0 (stored (run_of f 0 h))) settled

  current-after : (f : Fault) → run_next (current_given p f h) (holds f (working h) 0 (sample_of x mv)) x.elapsed ≡ current_given p f after
  current-after f = ap (λ (run : ℕ). run_next run (holds f (working h) 0 (sample_of x mv)) x.elapsed) (current-kept f h) ∙ run-after f 0 ∙ sym (current-kept f after)

  current-stood : (f : Fault) → stood (delay f (working h)) (run_next (current_given p f h) (holds f (working h) 0 (sample_of x mv)) x.elapsed) ≡ stood_delay f 0 after
  current-stood f = ap (λ (run : ℕ). stood (delay f (working h)) (run_next run (holds f (working h) 0 (sample_of x mv)) x.elapsed)) (current-kept f h) ∙ stood-after f 0

  -- the cell at a place
  abbrev nexts : ℕ → Cell
  nexts = next_at (limits_of (working h)) x.elapsed (given p h).cells (given p h).flags mv

  cell-is : (k : ℕ) → k < n → cell_at (given p h).cells k ≡ cell_given p h k
  cell-is k q = each-before n (cell_given p h) (drop n no_cells) k no_cell q

  next-run : (f : Fault) (k : ℕ) → run_next (kept p f k h) (holds f (working h) k (sample_of x mv)) x.elapsed ≡ kept p f k after
  next-run f k = ap (λ (run : ℕ). run_next run (holds f (working h) k (sample_of x mv)) x.elapsed) (run-kept f k h) ∙ run-after f k ∙ sym (run-kept f k after)

  next-is : (k : ℕ) → k < n → nexts k ≡ cell_given p after k
  unfolding cell_by
  next-is k q = rw (cell-is k q) (λ i. record { ov = next-run OV k i; uv = next-run UV k i })

  cells_are : (swept_at (given p h) x mv).cells ≡ (given p after).cells
  unfolding sweep_by
  cells_are = rw (count-is, each-behind 0 n (cell_given p h) (drop n no_cells), each_same n nexts (cell_given p after) next-is)

  -- OV and UV have stood at a place
  ov-is : (k : ℕ) → k < n → stood (delay OV (working h)) (nexts k).ov ≡ stood_delay OV k after
  ov-is k q = ap (λ (c : Cell). stood (delay OV (working h)) c.ov) (next-is k q) ∙ ap (stood (delay OV (working h))) (run-kept OV k after) ∙ stood-delay OV (working h) (run_of OV k after)

  uv-is : (k : ℕ) → k < n → stood (delay UV (working h)) (nexts k).uv ≡ stood_delay UV k after
  uv-is k q = ap (λ (c : Cell). stood (delay UV (working h)) c.uv) (next-is k q) ∙ ap (stood (delay UV (working h))) (run-kept UV k after) ∙ stood-delay UV (working h) (run_of UV k after)

  -- the flag at a place
  flag-was : (k : ℕ) → k < n → marked (given p h).flags k ≡ flagged p k h
  flag-was k q = set_at (λ k. flagged p k h) n k q

  abbrev flags : ℕ → Bool
  flags = flagged_at (limits_of (working h)) x.elapsed (given p h).cells (given p h).flags mv

  flag_is : (k : ℕ) → k < n → flags k ≡ flagged p k after
  flag_is k q =
      let next : Bool → Bool → Bool = λ stands was. flag_by (ov_release (working h)) stands was (reading_at mv k) in
      ap₂ next (ov-is k q) (flag-was k q) ∙ sym (ap (λ (t : Bool). not t && next (stood_delay OV k after) (flagged p k h)) settled)

  flags-are : each 0 n flags ≡ flags_at p after
  flags-are = each_same n flags (λ k. flagged p k after) flag_is

  -- the latches: what stands, what lets go, and what was
  abbrev swept : Swept
  swept = swept_at (given p h) x mv

  abbrev currents : Currents
  currents = currents_next (working h) (given p h).currents x

  stands-is : (f : Fault) → board.stands (working h) swept currents x f ≡ stands n f after
  unfolding sweep_by currents_next each
  stands-is SCD = current-stood SCD ∙ sym (or-false (stood_delay SCD 0 after))
  stands-is OCD = current-stood OCD ∙ sym (or-false (stood_delay OCD 0 after))
  stands-is OV = some_number (each 0 (cell_count mv) (λ k. stood (delay OV (working h)) (nexts k).ov)) ∙ rw count-is (ap some_of (each_same n _ _ ov-is))
  stands-is UV = some_number (each 0 (cell_count mv) (λ k. stood (delay UV (working h)) (nexts k).uv)) ∙ rw count-is (ap some_of (each_same n _ _ uv-is))
  stands-is OT = no-delay (hot x) (sample_of x mv) (stretch (holds OT (working h) 0) (since h)) ∙ sym (or-false (stood_delay OT 0 after))

  lets-is : (f : Fault) → board.lets_go (working h) swept currents x mv f ≡ lets_go n f (working h) (sample_of x mv)
  lets-is SCD = refl
  lets-is OCD = refl
  lets-is OV = sym (all-places (λ v. ltb v (ov_release (working h))) mv 0 n (sym long))
  lets-is UV = sym (all-places (λ v. ltb (uv_release (working h)) v) mv 0 n (sym long))
  lets-is OT = refl

  latch-is : (f : Fault) → latch_next (latched p f h) (board.stands (working h) swept currents x f) (not (holds_on p.kind f) && board.lets_go (working h) swept currents x mv f) ≡ latched p f after
  latch-is f =
      ap₂ (λ (stands goes : Bool). latch_next (latched p f h) stands (not (holds_on p.kind f) && goes)) (stands-is f) (lets-is f)
      ∙ sym (ap (λ (t : Bool). cond t (counted f && (filter p f after).latched) (latch_next (latched p f h) (stands n f after) (not (holds_on p.kind f) && lets_go n f (working h) (sample_of x mv)))) settled)

  latches-next : latches_next (working h) swept currents x p.kind mv (latches_at p h) ≡ latches_at p after
  unfolding latches_next
  latches-next = λ i. record { scd = latch-is SCD i; ocd = latch-is OCD i; ov = latch-is OV i; uv = latch-is UV i; ot = latch-is OT i }

  pub latches-are : latches_after (given p h) x mv ≡ latches_at p after
  latches-are = ap (latches_next (working h) swept currents x p.kind mv) (latches-kept (latches_at p h)) ∙ latches-next

  -- the lowest cell that stood
  cell-stood : (f : Fault) (stands : ℕ → Bool) → ((k : ℕ) → k < n → stands k ≡ stood_delay f k after) → lowest_cell (number (each 0 (cell_count mv) stands)) ≡ lowest_at p f x mv h
  cell-stood f stands is =
      ap (λ (m : ℕ). lowest_cell (number (each 0 m stands))) count-is ∙ lowest_set stands n few ∙ ap (lowest 1) (each_same n stands (λ k. stood_delay f k after) is)
      ∙ sym (ap (λ (t : Bool). cond t (lowest 1 (each 0 n (λ k. leb p.trigger (count_at p f (filter p f h) (sample_of x mv) k)))) (lowest 1 (each 0 n (λ k. stood_delay f k after)))) settled)

  ov-cell : lowest_cell swept.ov_stood ≡ lowest_at p OV x mv h
  unfolding sweep_by
  ov-cell = cell-stood OV (λ k. stood (delay OV (working h)) (nexts k).ov) ov-is

  uv-cell : lowest_cell swept.uv_stood ≡ lowest_at p UV x mv h
  unfolding sweep_by
  uv-cell = cell-stood UV (λ k. stood (delay UV (working h)) (nexts k).uv) uv-is

  pub bled-are : (swept_at (given p h) x mv).bled ≡ number (bled (flags_at p after))
  unfolding sweep_by
  bled-are = rw (count-is, flags-are)

  marks-are : (swept_at (given p h) x mv).flags ≡ (given p after).flags
  unfolding sweep_by
  marks-are = rw (count-is, flags-are)

  -- register 1: of a host board the bits that what latches forbids are cleared, and any other has none
  abbrev up : Latches
  up = latches (λ f. rises p f (sampled x mv) h)

  risen-are : risen (latches_of (given p h).latches) (latches_after (given p h) x mv) ≡ up
  risen-are = ap₂ risen (latches-kept (latches_at p h)) latches-are

  control-host : control_next (control p h) up ≡ control p after
  unfolding control_next
  control-host =
      split (any_latch up)
      (λ e. rw (e, clear_kept p h, dsg-kept p h, chg-kept p h))
      (λ e.
      let none = none-four up.scd up.ocd up.ov up.uv up.ot e in
      rw (e, none.0, none.1) (ap₂ (λ (d c : Bool). number (clear_set p h ∷ d ∷ c ∷ [])) (and_yes (dsg_set p h)) (and_yes (chg_set p h))))

  pub control-is : control_with (given p h) (latches_after (given p h) x mv) ≡ control p after
  control-is =
      let by : Bool → ℕ = λ t. cond t (control_next (control p h) (risen (latches_of (given p h).latches) (latches_after (given p h) x mv))) (control p h) in
      split (is_host p.kind)
      (λ e. ap by e ∙ ap (control_next (control p h)) risen-are ∙ control-host)
      (λ e.
      let was = no_bits p e h in
      let is = no_bits p e after in
      ap by e ∙ ap₂ (λ (d c : Bool). number (clear_set p h ∷ d ∷ c ∷ [])) (was.0 ∙ sym is.0) (was.1 ∙ sym is.1))

  tallies-are : tallies_next (risen_by (given p h) (latches_after (given p h) x mv)) (given p h).tallies ≡ (given p after).tallies
  tallies-are = ap (λ (t : Latches). tallies_next t (given p h).tallies) risen-are ∙ tallies-next p h x mv

  no-garden : garden_given p h ≡ garden_given p after
  no-garden = rw settled

  pub runs-sampled : runs_next (given p h) x mv ≡ given p after
  unfolding board_with entered currents_next
  runs-sampled = λ i. record {
    count = n;
    latches = latches_byte (latches-are i);
    cycles = spent h;
    kind = p.kind;
    flags = marks-are i;
    working = working h;
    staged = staged h;
    currents = record { ocd = current-after OCD i; scd = current-after SCD i };
    cells = cells_are i;
    last = last_of x mv;
    control = control-is i;
    garden = no-garden i;
    tallies = tallies-are i;
    samples = samples-next p h x mv i;
    journal = journal-next p h x mv (risen_by (given p h) (latches_after (given p h) x mv)) (stood_cell swept) risen-are ov-cell uv-cell i;
  }

-- ---- a frame

-- no register but 6 to 10 has a settings byte
no_byte : (s : Settings) (register v : ℕ) → (leb 6 register && leb register 10) ≡ false → s ≡ with_byte s register v
no_byte s register v n = rw (other 6 refl, other 7 refl, other 8 refl, other 9 refl, other 10 refl)
  where
    other : (k : ℕ) → (leb 6 k && leb k 10) ≡ true → eqb register k ≡ false
    other k in_map = ne_eqb register k (λ is. true≢false (sym in_map ∙ ap (λ (r : ℕ). leb 6 r && leb r 10) (sym is) ∙ n))

-- a condition is over by the lowest and the highest cell exactly if it is by all cells
over-is : (s : Settings) (o : Option Sample) (f : Fault) → host.is_over s (last_given o) f ≡ over_by f s o
unfolding shunt_above
over-is s none SCD = rw (lt-ltb (scd_level s) 2147483647 (omega arith))
over-is s none OCD = rw (lt-ltb (ocd_level s) 2147483647 (omega arith))
over-is s none OV = le-ltb 4294967295 (ov_level s) (omega arith)
over-is s none UV = le-ltb (uv_level s) 0 (omega arith)
over-is s none OT = refl
over-is s (just x) SCD = refl
over-is s (just x) OCD = refl
over-is s (just x) OV = sym (all-below-level s x.cells)
over-is s (just x) UV = sym (all-above-level s x.cells)
over-is s (just x) OT = refl

-- a value below 8 is its three bits
abbrev three-right : ℕ → Bool
three-right v = eqb (number (clear_bit v ∷ dsg_bit v ∷ chg_bit v ∷ [])) v

all_three : right-below three-right 8 ≡ true
unfolding right-below number
all_three = refl

three-bits : (v : ℕ) → v < 8 → v ≡ number (clear_bit v ∷ dsg_bit v ∷ chg_bit v ∷ [])
three-bits v few = sym (eqb-true (number (clear_bit v ∷ dsg_bit v ∷ chg_bit v ∷ [])) v (right-at three-right 8 all_three v few))

module _ (p : Plan) (h : History) (address register v : ℕ) where
  abbrev e : paper.Entry
  e = framed address register v

  abbrev then : History
  then = e ∷ h

  -- the record after it: flags, the last sample and what a garden board has of its own stay
  abbrev board_left : ℕ → ℕ → ℕ → Settings → Settings → Currents → List Cell → Board
  board_left byte q c w s currents cells =
      record {
        count = p.cells;
        latches = byte;
        cycles = c;
        kind = p.kind;
        flags = number (flags_at p h);
        working = w;
        staged = s;
        currents = currents;
        cells = cells;
        last = last_given (last_sample h);
        control = q;
        garden = garden_given p h;
        tallies = tallies (λ f. tallied p f h);
        samples = sample_number h;
        journal = entered_all no_entries (latchings p h);
      }

  abbrev currents_with : (Fault → ℕ) → Currents
  currents_with u = record { ocd = u OCD; scd = u SCD }

  abbrev cells_with : (Fault → ℕ → ℕ) → List Cell
  cells_with r = each 0 p.cells (λ k. record { ov = r OV k; uv = r UV k }) ++ drop p.cells no_cells

  with-these : (byte q c : ℕ) (w s : Settings) (u : Fault → ℕ) (r : Fault → ℕ → ℕ) → byte ≡ latches_byte (latches_at p then) → q ≡ control p then → c ≡ spent then → w ≡ working then → s ≡ staged then
      → ((f : Fault) → u f ≡ current_given p f then) → ((f : Fault) (k : ℕ) → r f k ≡ kept p f k then) → board_left byte q c w s (currents_with u) (cells_with r) ≡ given p then
  with-these byte q c w s u r byte-is q-is c-is w-is s-is u-is r-is =
      λ i. board_left (byte-is i) (q-is i) (c-is i) (w-is i) (s-is i) (currents_with (λ f. u-is f i)) (cells_with (λ f k. r-is f k i))

  -- where it spends no cycle, no more than the latches, register 1 and the staged settings change
  unspent : (byte q : ℕ) (s : Settings) → byte ≡ latches_byte (latches_at p then) → q ≡ control p then → s ≡ staged then → spends e h ≡ false
      → board_left byte q (spent h) (working h) s (given p h).currents (given p h).cells ≡ given p then
  unspent byte q s byte-is q-is s-is c =
      with-these byte q (spent h) (working h) s (λ f. current_given p f h) (λ f k. kept p f k h) byte-is q-is (rw c) (sym (working-stays e h c)) s-is
      (λ f. sym (ap (λ (run : Option ℕ). cond (is_garden p.kind) 0 (stored run)) ((runs f 0 h).else-stays address register v c)))
      (λ f k. sym (ap (λ (run : Option ℕ). cond (is_garden p.kind) ((filter p f h).count k) (stored run)) ((runs f k h).else-stays address register v c)))

  -- ---- a write to register 1

  -- the latches that it leaves, by whether it takes b0 from 1 to 0
  abbrev leaves : Bool → Latches
  leaves down = latches (λ f. not (down && over_by f (working h) (last_sample h)) && latched p f h)

  abbrev down : Bool
  down = clear_set p h && not (clear_bit v)

  cleared-are : cleared_of (working h) (last_given (last_sample h)) (latches_at p h) ≡ leaves true
  unfolding cleared_of
  cleared-are = λ i. latches (λ f. not (over-is (working h) (last_sample h) f i) && latched p f h)

  steered-are : steers p e ≡ true → registers.latches_steered (given p h) v ≡ latches_byte (latches_at p then)
  steered-are is-steering =
      let last = last_given (last_sample h) in
      let by : Bool → ℕ = λ t. cond t (latches_byte (cleared_of (working h) last (latches_of (latches_byte (latches_at p h))))) (latches_byte (latches_at p h)) in
      ap (λ (t : Bool). by (t && not (clear_bit v))) (clear_kept p h)
      ∙ split down
      (λ d. ap by d ∙ ap (λ (t : Latches). latches_byte (cleared_of (working h) last t)) (latches-kept (latches_at p h)) ∙ ap latches_byte cleared-are ∙ ap (λ (t : Bool). latches_byte (leaves t)) (sym d))
      (λ d. ap by d ∙ ap (λ (t : Bool). latches_byte (leaves t)) (sym d))
      ∙ ap (λ (t : Bool). latches_byte (leaves (t && down))) (sym is-steering)

  control-steered : steers p e ≡ true → v < 8 → v ≡ control p then
  control-steered is-steering few =
      three-bits v few ∙ ap (λ (t : Bool). number (cond t (clear_bit v) (clear_set p h) ∷ cond t (dsg_bit v) (dsg_set p h) ∷ cond t (chg_bit v) (chg_set p h) ∷ [])) (sym is-steering)

  -- ---- any other frame leaves both

  latches-stay : steers p e ≡ false → latches_byte (latches_at p h) ≡ latches_byte (latches_at p then)
  latches-stay is-other = ap (λ (t : Bool). latches_byte (leaves (t && down))) (sym is-other)

  control-stays : steers p e ≡ false → control p h ≡ control p then
  control-stays is-other = ap (λ (t : Bool). number (cond t (clear_bit v) (clear_set p h) ∷ cond t (dsg_bit v) (dsg_set p h) ∷ cond t (chg_bit v) (chg_set p h) ∷ [])) (sym is-other)

  -- where it spends a cycle, staged becomes working and every run starts over; no such frame of a garden board is accepted
  spent-by : is_garden p.kind ≡ false → p.cells ≤ 10 → steers p e ≡ false → spends e h ≡ true → staged h ≡ working then → staged h ≡ staged then → registers.spent (given p h) ≡ given p then
  unfolding registers.spent
  spent-by settled few is-other c w-is s-is =
      let byte = latches_byte (latches_at p h) in
      let q = control p h in
      ap (board_left byte q (spent h + 1) (staged h) (staged h) (currents_with (λ f. 0))) (sym (each-one 0 p.cells 10 no_cell few))
      ∙ with-these byte q (spent h + 1) (staged h) (staged h) (λ f. 0) (λ f k. 0) (latches-stay is-other) (control-stays is-other) (rw c) w-is s-is
      (λ f. sym (ap (λ (t : Bool). cond t 0 (stored (run_of f 0 then))) settled ∙ ap stored ((runs f 0 h).starts-over e c)))
      (λ f k. sym (ap (λ (t : Bool). cond t ((filter p f h).count k) (stored (run_of f k then))) settled ∙ ap stored ((runs f k h).starts-over e c)))

  others : (s : Settings) → steers p e ≡ false → s ≡ staged then → spends e h ≡ false
      → board_left (latches_byte (latches_at p h)) (control p h) (spent h) (working h) s (given p h).currents (given p h).cells ≡ given p then
  others s is-other s-is c = unspent (latches_byte (latches_at p h)) (control p h) s (latches-stay is-other) (control-stays is-other) s-is c

  -- a read changes nothing; a write to register 11 programs; one to register 1 of a host board steers it; any other stages, where there is a byte
  pub given-framed : p.cells ≤ 10 → (writes address ≡ true → is_garden p.kind ≡ false) → (steers p e ≡ true → v < 8) → board_after (given p h) (writes address) register v ≡ given p then
  unfolding board_after
  given-framed few settled fits =
      split (writes address)
      (λ w. split (eqb register 11)
      (λ q. ap₂ (λ (t u : Bool). by t u one) w q ∙ programs w q)
      (λ o. split one
      (λ s. ap₂ (λ (t u : Bool). by t u one) w o ∙ ap (by true false) s ∙ steering w o s)
      (λ s. ap₂ (λ (t u : Bool). by t u one) w o ∙ ap (by true false) s ∙ others (with_byte (staged h) register v) (rw w s) (writes-it w) (rw (w, o)))))
      (λ w. ap (λ (t : Bool). by t (eqb register 11) one) w ∙ others (staged h) (rw w (and-false (is_host p.kind))) (rw w) (rw w))
    where
      one : Bool
      one = is_host p.kind && eqb register 1

      by : Bool → Bool → Bool → Board
      by w q s = cond w (cond q (registers.programmed (given p h)) (cond s (registers.steered (given p h) v) (staging (given p h) register v))) (given p h)

      writes-it : writes address ≡ true → with_byte (staged h) register v ≡ staged then
      writes-it w = split (leb 6 register && leb register 10) (λ s. rw (w, s)) (λ s. sym (no_byte (staged h) register v s) ∙ rw (w, s))

      programs : writes address ≡ true → eqb register 11 ≡ true → registers.programmed (given p h) ≡ given p then
      programs w q =
          let eleven : register ≡ 11 = eqb-true register 11 q in
          let is-other : steers p e ≡ false = rw (w, eleven) (and-false (is_host p.kind)) in
          let stays : staged h ≡ staged then = rw (w, eleven) in
          let becomes : staged h ≡ working then = rw (w, q) in
          let either : Bool → Board = λ equal. cond equal (given p h) (registers.spent (given p h)) in
          split (same (staged h) (working h))
          (λ s. ap either s ∙ others (staged h) is-other stays (rw (w, q, s)))
          (λ u. ap either u ∙ spent-by (settled w) few is-other (rw (w, q, u)) becomes stays)

      steering : writes address ≡ true → eqb register 11 ≡ false → one ≡ true → registers.steered (given p h) v ≡ given p then
      steering w o s =
          let first : register ≡ 1 = eqb-true register 1 (both (is_host p.kind) (eqb register 1) s).1 in
          let is-steering : steers p e ≡ true = rw w s in
          unspent (registers.latches_steered (given p h) v) v (staged h) (steered-are is-steering) (control-steered is-steering (fits is-steering)) (rw (w, first)) (rw (w, o))
