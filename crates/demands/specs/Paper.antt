-- A board from its plan and its accepted acts alone, newest first, with no state (01, Frames and registers; When a fault latches and lets go; Bleeding; 02, tickets 3, 5, 7 and 8).
-- Assumes nothing.
use Rattle.std.specs.Prelude.{ℕ, ◌+◌, ◌-◌, min, Bool, true, false, cond, not, ◌&&◌, ◌||◌, List, [], ◌∷◌, ◌++◌, eqb, drop}
use Rattle.std.proofs.Math.Option.{Option, some as just, none}
use Rattle.lists.specs.Compare.{◌above◌, ◌below◌, ◌at_or_above◌, ◌at_or_below◌}
use Rattle.settings.specs.declared.Settings.{Settings}
use Rattle.settings.specs.Levels.{factory, ov_level, ov_release, uv_level, uv_release, ocd_level, scd_level}
use Rattle.settings.specs.Bytes.{with_byte, same}
use Rattle.settings.specs.Faults.{Fault, SCD, OCD, OV, UV, OT, delay}
use Rattle.lists.specs.Marks.{number, lowest}
use Rattle.lists.specs.Every.{every}
use Rattle.runs.specs.Run.{run, past}
use Rattle.runs.specs.Stored.{stored}
use Rattle.cells.specs.declared.Cell.{Cell}
use Rattle.lists.specs.Each.{each, some, all}
use Rattle.cells.specs.Cells.{flag_next, reading_at, no_cells}
use Rattle.garden.specs.declared.Device.{Device}
use Rattle.garden.specs.declared.Garden.{Garden}
use Rattle.garden.specs.Device.{device_of, ov_inner, uv_inner}
use Rattle.latches.specs.declared.Latches.{Latches}
use Rattle.latches.specs.Latches.{latches, latch_next, latches_byte, chg_on, dsg_on, register0}
use Rattle.latches.specs.Control.{clear_bit, dsg_bit, chg_bit}
use Rattle.latches.specs.Tallies.{tallies, tally_top}
use Rattle.journal.specs.Ring as journal
use Rattle.board.specs.declared.Board.{Board}
use Rattle.board.specs.declared.Readings.{Readings}
use Rattle.board.specs.declared.Last.{Last}
use Rattle.board.specs.declared.Plan.{Plan}
use Rattle.board.specs.Plan.{is_host, is_garden}
use Rattle.board.specs.Host.{holds_on, last_of, no_last}
use Rattle.board.specs.Shunt.{shunt_above}
use Rattle.board.specs.Latchings as sample
use Rattle.board.specs.Latchings.{number_top, cell_of}
use Rattle.board.specs.Sample.{hot, attached}
use Rattle.frame.specs.Frame.{writes}

-- an accepted act of one board: a sample, or a frame by its address, register and value
pub data Entry : Type 0 where
  sampled : Readings → List ℕ → Entry
  framed : ℕ → ℕ → ℕ → Entry

abbrev pub History : Type 0
History = List Entry

-- ---- Frames and registers: what an act does is asked by tests; one that passes none, as a read, leaves the settings

-- a write to registers 6 to 10 stages
abbrev pub stages : Entry → Bool
stages (sampled x mv) = false
stages (framed address register v) = writes address && (register at_or_above 6 && register at_or_below 10)

-- a write to register 11 programs
abbrev pub programming : Entry → Bool
programming (sampled x mv) = false
programming (framed address register v) = writes address && eqb register 11

-- the staged settings: a write that stages changes the byte of its register
abbrev pub staged : History → Settings
staged [] = factory
staged (sampled x mv ∷ h) = staged h
staged (framed address register v ∷ h) = cond (stages (framed address register v)) (with_byte (staged h) register v) (staged h)

-- the working settings: at a programming staged becomes working
abbrev pub working : History → Settings
working [] = factory
working (e ∷ h) = cond (programming e) (staged h) (working h)

-- a programming at which staged and working differ spends a cycle
abbrev pub spends : Entry → History → Bool
spends e h = programming e && not (same (staged h) (working h))

-- of how many accepted acts something is so, each with the acts before it
abbrev pub how_many : (Entry → History → Bool) → History → ℕ
how_many so [] = 0
how_many so (e ∷ h) = cond (so e h) (how_many so h + 1) (how_many so h)

-- the cycles spent: the accepted programmings that did
abbrev pub spent : History → ℕ
spent h = how_many spends h

-- ---- When a fault latches and lets go

pub record Sample : Type 0 where
  pub readings : Readings
  pub cells : List ℕ

abbrev pub sample_of : Readings → List ℕ → Sample
sample_of x mv = record { readings = x; cells = mv }

-- the accepted samples that a stretch may hold: back to the start or the last cycle spent
abbrev pub since : History → List Sample
since [] = []
since (sampled x mv ∷ h) = sample_of x mv ∷ since h
since (framed address register v ∷ h) = cond (spends (framed address register v) h) [] (since h)

-- the table's second column; OV and UV at the cell of a place, counted from 0
abbrev pub holds : Fault → Settings → ℕ → Sample → Bool
holds SCD s k x = shunt_above (scd_level s) x.readings.shunt
holds OCD s k x = shunt_above (ocd_level s) x.readings.shunt
holds OV s k x = reading_at x.cells k above ov_level s
holds UV s k x = reading_at x.cells k below uv_level s
holds OT s k x = hot x.readings

-- the run of a condition at the newest sample; a spent cycle starts every run over, so the settings of a stretch are those that work now
abbrev pub run_of : Fault → ℕ → History → Option ℕ
run_of f k h = run (λ x. x.readings.elapsed) (holds f (working h) k) (since h)

-- it has stood its delay
abbrev pub stood_delay : Fault → ℕ → History → Bool
stood_delay f k h = past (delay f (working h)) (run_of f k h)

-- OV and UV keep a run for each of n cells, the others one
abbrev pub places : Fault → ℕ → ℕ
places SCD n = 1
places OCD n = 1
places OV n = n
places UV n = n
places OT n = 1

-- for some one cell, with OV and UV
abbrev pub stands : ℕ → Fault → History → Bool
stands n f h = some (each 0 (places f n) (λ k. stood_delay f k h))

-- the table's last column, of n cells
abbrev pub lets_go : ℕ → Fault → Settings → Sample → Bool
lets_go n SCD s x = not (attached x.readings) && not (shunt_above (scd_level s) x.readings.shunt)
lets_go n OCD s x = not (attached x.readings) && not (shunt_above (ocd_level s) x.readings.shunt)
lets_go n OV s x = all (each 0 n (λ k. reading_at x.cells k below ov_release s))
lets_go n UV s x = all (each 0 n (λ k. reading_at x.cells k above uv_release s))
lets_go n OT s x = not (hot x.readings)

-- ---- what a host board clears (02, ticket 3)

-- a write to register 1, which host boards have
abbrev pub steers : Plan → Entry → Bool
steers p (sampled x mv) = false
steers p (framed address register v) = is_host p.kind && (writes address && eqb register 1)

-- b0 of it, latch clear: only a write changes it
abbrev pub clear_set : Plan → History → Bool
clear_set p [] = false
clear_set p (sampled x mv ∷ h) = clear_set p h
clear_set p (framed address register v ∷ h) = cond (steers p (framed address register v)) (clear_bit v) (clear_set p h)

-- a write takes b0 from 1 to 0
abbrev pub takes_down : Plan → Entry → History → Bool
takes_down p (sampled x mv) h = false
takes_down p (framed address register v) h = steers p (framed address register v) && (clear_set p h && not (clear_bit v))

-- the last accepted sample; no frame makes it forgotten, a spent cycle neither
abbrev pub last_sample : History → Option Sample
last_sample [] = none
last_sample (sampled x mv ∷ h) = just (sample_of x mv)
last_sample (framed address register v ∷ h) = last_sample h

-- the condition of a fault is over on a sample: all cells below the OV level, all above the UV level, the shunt at or below the level; hysteresis and load
-- are not asked, and overtemperature is not cleared so
abbrev pub is_over : Fault → Settings → Sample → Bool
is_over SCD s x = not (shunt_above (scd_level s) x.readings.shunt)
is_over OCD s x = not (shunt_above (ocd_level s) x.readings.shunt)
is_over OV s x = every (λ v. v below ov_level s) x.cells
is_over UV s x = every (λ v. v above uv_level s) x.cells
is_over OT s x = false

-- on the last accepted sample, by some settings; before any sample nothing is
abbrev pub over_by : Fault → Settings → Option Sample → Bool
over_by f s none = false
over_by f s (just x) = is_over f s x

-- each latch whose condition is over goes at such a write, by the settings that work then
abbrev pub clears : Plan → Fault → Entry → History → Bool
clears p f e h = takes_down p e h && over_by f (working h) (last_sample h)

-- ---- how a garden board counts (02, ticket 5): each fault by itself, by its own level and hysteresis, and no delay

-- it has two of the faults, and starts with OV latched
abbrev pub counted : Fault → Bool
counted SCD = false
counted OCD = false
counted OV = true
counted UV = true
counted OT = false

abbrev pub starts_latched : Fault → Bool
starts_latched SCD = false
starts_latched OCD = false
starts_latched OV = true
starts_latched UV = false
starts_latched OT = false

-- the reading of one cell is strictly past the level
abbrev pub past_level : Device → Fault → ℕ → Bool
past_level d SCD v = false
past_level d OCD v = false
past_level d OV v = v above d.ov
past_level d UV v = v below d.uv
past_level d OT v = false

-- every one of n cells is strictly inside level and hysteresis, and for UV with load removal the load is off
abbrev pub inside : ℕ → Device → Fault → Sample → Bool
inside n d SCD x = false
inside n d OCD x = false
inside n d OV x = all (each 0 n (λ k. reading_at x.cells k below ov_inner d))
inside n d UV x = all (each 0 n (λ k. reading_at x.cells k above uv_inner d)) && not (d.load_removal && attached x.readings)
inside n d OT x = false

-- a count goes up by one, or down by one and never below zero
abbrev pub counts : Bool → ℕ → ℕ
counts up count = cond up (count + 1) (count - 1)

-- one fault: whether it is latched, the count of the cell at each place, and the recovery count
pub record Filter : Type 0 where
  pub latched : Bool
  pub count : ℕ → ℕ
  pub back : ℕ

module _ (p : Plan) (f : Fault) where
  abbrev pub device : Device
  device = device_of p.row

  abbrev pub started : Filter
  started = record { latched = starts_latched f; count = λ k. 0; back = 0 }

  -- while it is unlatched each cell counts; where one count reaches the trigger the fault latches, and all its counts return to zero
  abbrev pub count_at : Filter → Sample → ℕ → ℕ
  count_at was x k = counts (past_level device f (reading_at x.cells k)) (was.count k)

  abbrev pub trips : Filter → Sample → Bool
  trips was x = some (each 0 p.cells (λ k. count_at was x k at_or_above p.trigger))

  abbrev pub counting : Filter → Sample → Filter
  counting was x = record { latched = trips was x; count = λ k. cond (trips was x) 0 (count_at was x k); back = 0 }

  -- while it is latched the recovery counts; at the trigger the fault lets go and that count returns to zero
  abbrev pub back_at : Filter → Sample → ℕ
  back_at was x = counts (inside p.cells device f x) was.back

  abbrev pub recovers : Filter → Sample → Bool
  recovers was x = back_at was x at_or_above p.trigger

  abbrev pub recovering : Filter → Sample → Filter
  recovering was x = record { latched = not (recovers was x); count = λ k. 0; back = cond (recovers was x) 0 (back_at was x) }

  -- latched or not is as before the sample; frames leave it all
  abbrev pub filter : History → Filter
  filter [] = started
  filter (sampled x mv ∷ h) = cond (filter h).latched (recovering (filter h) (sample_of x mv)) (counting (filter h) (sample_of x mv))
  filter (framed address register v ∷ h) = filter h

-- ---- the latches

-- at each accepted sample an unlatched fault latches exactly if it stands, and a latched one unlatches exactly if it lets go, which on a host board
-- only overtemperature does by itself; a garden board goes by its counts; a frame leaves it, unless it clears it
abbrev pub latched : Plan → Fault → History → Bool
latched p f [] = is_garden p.kind && starts_latched f
latched p f (sampled x mv ∷ h) =
    cond (is_garden p.kind) (counted f && (filter p f (sampled x mv ∷ h)).latched)
    (latch_next (latched p f h) (stands p.cells f (sampled x mv ∷ h)) (not (holds_on p.kind f) && lets_go p.cells f (working h) (sample_of x mv)))
latched p f (framed address register v ∷ h) = not (clears p f (framed address register v) h) && latched p f h

abbrev pub latches_at : Plan → History → Latches
latches_at p h = latches (λ f. latched p f h)

-- ---- the switches

-- a fault latches at an act
abbrev pub rises : Plan → Fault → Entry → History → Bool
rises p f e h = latched p f (e ∷ h) && not (latched p f h)

-- a latching: an accepted sample after which the fault is latched and before which it was not
abbrev pub latching : Plan → Fault → Entry → History → Bool
latching p f (sampled x mv) h = rises p f (sampled x mv) h
latching p f (framed address register v) h = false

-- a tally: the latchings of its fault, until it stops (02, ticket 7)
abbrev pub tallied : Plan → Fault → History → ℕ
tallied p f h = min tally_top (how_many (latching p f) h)

-- ---- the journal (02, ticket 8)

abbrev pub is_sample : Entry → Bool
is_sample (sampled x mv) = true
is_sample (framed address register v) = false

-- the number of the newest sample: the accepted ones are counted from 1, and at its top the number stays
abbrev pub sample_number : History → ℕ
sample_number h = min number_top (how_many (λ e older. is_sample e) h)

-- the lowest cell that stood its delay at a sample, or on a garden board whose count reached the trigger; 0 where none did
abbrev pub lowest_at : Plan → Fault → Readings → List ℕ → History → ℕ
lowest_at p f x mv h =
    cond (is_garden p.kind)
    (lowest 1 (each 0 p.cells (λ k. count_at p f (filter p f h) (sample_of x mv) k at_or_above p.trigger)))
    (lowest 1 (each 0 p.cells (λ k. stood_delay f k (sampled x mv ∷ h))))

-- SCD, OCD and overtemperature have no cell
abbrev pub fault_cell : Plan → Readings → List ℕ → History → Fault → ℕ
fault_cell p x mv h = cell_of (lowest_at p OV x mv h) (lowest_at p UV x mv h)

-- all latchings, oldest first; those of one sample in the order SCD, OCD, OV, UV, overtemperature
abbrev pub latchings : Plan → History → List journal.Entry
latchings p [] = []
latchings p (sampled x mv ∷ h) = latchings p h ++ sample.latchings (λ f. latching p f (sampled x mv) h) (fault_cell p x mv h) (sample_number (sampled x mv ∷ h))
latchings p (framed address register v ∷ h) = latchings p h

-- the last 128 of them, or all if fewer
abbrev pub listed : Plan → History → List journal.Entry
listed p h = journal.latest 128 (latchings p h)

-- ---- register 1

-- b1 and b2 of it, DSG and CHG: a write sets them, and a fault that latches clears the bits of the switches that it forbids
abbrev pub dsg_set : Plan → History → Bool
dsg_set p [] = false
dsg_set p (sampled x mv ∷ h) = dsg_on (dsg_set p h) (latches (λ f. rises p f (sampled x mv) h))
dsg_set p (framed address register v ∷ h) = cond (steers p (framed address register v)) (dsg_bit v) (dsg_set p h)

abbrev pub chg_set : Plan → History → Bool
chg_set p [] = false
chg_set p (sampled x mv ∷ h) = chg_on (chg_set p h) (latches (λ f. rises p f (sampled x mv) h))
chg_set p (framed address register v ∷ h) = cond (steers p (framed address register v)) (chg_bit v) (chg_set p h)

-- register 1, from b0 up
abbrev pub control : Plan → History → ℕ
control p h = number (clear_set p h ∷ dsg_set p h ∷ chg_set p h ∷ [])

-- on a host board a switch may be on only where its bit is set
abbrev pub may_dsg : Plan → History → Bool
may_dsg p h = not (is_host p.kind) || dsg_set p h

abbrev pub may_chg : Plan → History → Bool
may_chg p h = not (is_host p.kind) || chg_set p h

-- register 0
abbrev pub status : Plan → History → ℕ
status p h = register0 (may_dsg p h) (may_chg p h) (latches_at p h)

-- ---- Bleeding

-- a cell is flagged when its OV run has stood the delay, and loses its flag when it reads low; frames leave it; a garden board flags none
abbrev pub flagged : Plan → ℕ → History → Bool
flagged p k [] = false
flagged p k (sampled x mv ∷ h) = not (is_garden p.kind) && flag_next (working h) (stood_delay OV k (sampled x mv ∷ h)) (flagged p k h) (reading_at mv k)
flagged p k (framed address register v ∷ h) = flagged p k h

abbrev pub flags_at : Plan → History → List Bool
flags_at p h = each 0 p.cells (λ k. flagged p k h)

-- ---- the declared record of a board of this plan with these accepted acts; past its cells it is as it started, and its journal is all latchings entered one after the other

-- of a fault and a place, a run, or a garden board's count
abbrev pub kept : Plan → Fault → ℕ → History → ℕ
kept p f k h = cond (is_garden p.kind) ((filter p f h).count k) (stored (run_of f k h))

abbrev pub cell_given : Plan → History → ℕ → Cell
cell_given p h k = record { ov = kept p OV k h; uv = kept p UV k h }

-- a garden board has no current faults, and any other no recovery counts
abbrev pub current_given : Plan → Fault → History → ℕ
current_given p f h = cond (is_garden p.kind) 0 (stored (run_of f 0 h))

abbrev pub back_given : Plan → Fault → History → ℕ
back_given p f h = cond (is_garden p.kind) (filter p f h).back 0

abbrev pub garden_given : Plan → History → Garden
garden_given p h = record { row = p.row; trigger = p.trigger; ov_back = back_given p OV h; uv_back = back_given p UV h }

abbrev pub last_given : Option Sample → Last
last_given none = no_last
last_given (just x) = last_of x.readings x.cells

abbrev pub given : Plan → History → Board
given p h =
    record {
      count = p.cells;
      latches = latches_byte (latches_at p h);
      cycles = spent h;
      kind = p.kind;
      flags = number (flags_at p h);
      working = working h;
      staged = staged h;
      currents = record { ocd = current_given p OCD h; scd = current_given p SCD h };
      cells = each 0 p.cells (cell_given p h) ++ drop p.cells no_cells;
      last = last_given (last_sample h);
      control = control p h;
      garden = garden_given p h;
      tallies = tallies (λ f. tallied p f h);
      samples = sample_number h;
      journal = journal.entered_all journal.no_entries (latchings p h);
    }
