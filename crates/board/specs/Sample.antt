-- A sample of one board (01, The stack and its readings; Refusal numbers 1, 3, 4, 5; When a fault latches and lets go; 02, tickets 3, 5, 7 and 8).
-- Assumes nothing.
use Rattle.std.specs.Prelude.{ℕ, Bool, false, cond, not, ◌&&◌, ◌||◌, List, [], ◌∷◌, eqb, length, Result}
use Rattle.lists.specs.Compare.{◌above◌, ◌below◌, outside}
use Rattle.refusal.specs.declared.Refusal.{Refusal}
use Rattle.refusal.specs.Said.{Said, said_by, saying_by, value, Bar, bar, judged, unless_refused}
use Rattle.lists.specs.Every.{every}
use Rattle.settings.specs.declared.Settings.{Settings}
use Rattle.settings.specs.Levels.{factory, ov_release, uv_release, ocd_level, scd_level}
use Rattle.settings.specs.Faults.{Fault, SCD, OCD, OV, UV, OT, delay}
use Rattle.runs.specs.Stored.{run_next, stood}
use Rattle.cells.specs.declared.Swept.{Swept}
use Rattle.cells.specs.Cells.{sweep_of, lowest_cell, no_cells, readable}
use Rattle.garden.specs.declared.Grown.{Grown}
use Rattle.garden.specs.Filter.{grow_of}
use Rattle.board.specs.declared.Board.{Board}
use Rattle.board.specs.declared.Currents.{Currents}
use Rattle.board.specs.declared.Last.{Last}
use Rattle.latches.specs.declared.Latches.{Latches}
use Rattle.board.specs.declared.Readings.{Readings}
use Rattle.board.specs.declared.Sampled.{Sampled}
use Rattle.board.specs.declared.Plan.{Plan}
use Rattle.board.specs.Plan.{is_host, is_garden, bad_plan, plan_of}
use Rattle.board.specs.Shunt.{shunt_above, shunt_outside}
use Rattle.board.specs.Host.{status_by, holds_on, last_of, no_last}
use Rattle.board.specs.Latchings.{number_next, cell_of, latchings}
use Rattle.latches.specs.Latches.{latch, latches, latch_next, risen, latches_of, latches_byte}
use Rattle.latches.specs.Control.{control_next}
use Rattle.latches.specs.Tallies.{tallies, tallies_next}
use Rattle.journal.specs.declared.Journal.{Journal}
use Rattle.journal.specs.Ring.{no_entries, entered_all}

-- a garden board starts with OV latched, b2 of register 0; any other with no latch
abbrev pub first_latches : ℕ → ℕ
first_latches kind = cond (is_garden kind) 4 0

-- a board starts from the factory settings, with no flagged cell, no cycle spent, no latching counted or entered, staged equal to working; register 1 starts with 0
unfoldable pub fresh : ℕ → Board
fresh plan =
    record {
      count = (plan_of plan).cells;
      latches = first_latches (plan_of plan).kind;
      cycles = 0;
      kind = (plan_of plan).kind;
      flags = 0;
      working = factory;
      staged = factory;
      currents = record { ocd = 0; scd = 0 };
      cells = no_cells;
      last = no_last;
      control = 0;
      garden = record { row = (plan_of plan).row; trigger = (plan_of plan).trigger; ov_back = 0; uv_back = 0 };
      tallies = tallies (λ f. 0);
      samples = 0;
      journal = no_entries;
    }

-- OCD and SCD: the shunt above the level
unfoldable pub currents_next : Settings → Currents → Readings → Currents
currents_next s runs x =
    record {
      ocd = run_next runs.ocd (shunt_above (ocd_level s) x.shunt) x.elapsed;
      scd = run_next runs.scd (shunt_above (scd_level s) x.shunt) x.elapsed;
    }

-- overtemperature: the thermistor below 975 mV
abbrev pub hot : Readings → Bool
hot x = x.thermistor below 975

-- 1 attached, 0 not
abbrev pub attached : Readings → Bool
attached x = eqb x.load 1

module _ (s : Settings) (swept : Swept) (runs : Currents) (x : Readings) where
  -- the condition has stood its delay, for some one cell with OV and UV; overtemperature has no delay
  abbrev pub stands : Fault → Bool
  stands SCD = stood (delay SCD s) runs.scd
  stands OCD = stood (delay OCD s) runs.ocd
  stands OV = not (eqb swept.ov_stood 0)
  stands UV = not (eqb swept.uv_stood 0)
  stands OT = hot x

  -- the table's last column
  abbrev pub lets_go : List ℕ → Fault → Bool
  lets_go mv SCD = not (attached x) && not (shunt_above (scd_level s) x.shunt)
  lets_go mv OCD = not (attached x) && not (shunt_above (ocd_level s) x.shunt)
  lets_go mv OV = every (λ v. v below ov_release s) mv
  lets_go mv UV = every (λ v. v above uv_release s) mv
  lets_go mv OT = not (hot x)

  -- by the kind of the board
  unfoldable pub latches_next : ℕ → List ℕ → Latches → Latches
  latches_next kind mv old = latches (λ f. latch_next (latch f old) (stands f) (not (holds_on kind f) && lets_go mv f))

-- the pass over the cells at a sample, the runs of the currents and the latches after it
abbrev pub swept_at : Board → Readings → List ℕ → Swept
swept_at b x mv = sweep_of b.working x.elapsed b.cells b.flags mv

abbrev pub latches_after : Board → Readings → List ℕ → Latches
latches_after b x mv =
    latches_next b.working (swept_at b x mv) (currents_next b.working b.currents x) x b.kind mv (latches_of b.latches)

-- what latched at it, with the latches that it leaves; register 1 and the tallies go by that
abbrev pub risen_by : Board → Latches → Latches
risen_by b left = risen (latches_of b.latches) left

abbrev pub control_up : Board → Latches → ℕ
control_up b up = cond (is_host b.kind) (control_next b.control up) b.control

abbrev pub control_with : Board → Latches → ℕ
control_with b left = control_up b (risen_by b left)

-- the board after an accepted sample, with the latches that it leaves and what is kept of it, its journal not yet entered: settings and cycles stay
unfoldable pub board_with : Board → Readings → List ℕ → Latches → Last → Board
board_with b x mv left last =
    record {
      count = b.count;
      latches = latches_byte left;
      cycles = b.cycles;
      kind = b.kind;
      flags = (swept_at b x mv).flags;
      working = b.working;
      staged = b.staged;
      currents = currents_next b.working b.currents x;
      cells = (swept_at b x mv).cells;
      last = last;
      control = control_with b left;
      garden = b.garden;
      tallies = tallies_next (risen_by b left) b.tallies;
      samples = number_next b.samples;
      journal = b.journal;
    }

-- the board with another journal
abbrev pub journaled : Board → Journal → Board
journaled b journal =
    record {
      count = b.count;
      latches = b.latches;
      cycles = b.cycles;
      kind = b.kind;
      flags = b.flags;
      working = b.working;
      staged = b.staged;
      currents = b.currents;
      cells = b.cells;
      last = b.last;
      control = b.control;
      garden = b.garden;
      tallies = b.tallies;
      samples = b.samples;
      journal = journal;
    }

-- then what latched is entered, each at the number of the sample
unfoldable pub entered : Board → Latches → (Fault → ℕ) → Board
entered b up cell = journaled b (entered_all b.journal (latchings (λ f. latch f up) cell b.samples))

-- the lowest cells whose runs have stood
abbrev pub stood_cell : Swept → Fault → ℕ
stood_cell swept = cell_of (lowest_cell swept.ov_stood) (lowest_cell swept.uv_stood)

abbrev pub runs_next : Board → Readings → List ℕ → Board
runs_next b x mv =
    let left = latches_after b x mv in
    entered (board_with b x mv left (last_of x mv)) (risen_by b left) (stood_cell (swept_at b x mv))

-- ---- a garden board: counts in place of runs, and of the faults OV and UV alone
abbrev pub grown_at : Board → Readings → List ℕ → Grown
grown_at b x mv = grow_of b.garden b.cells (latch OV (latches_of b.latches)) (latch UV (latches_of b.latches)) (attached x) mv

abbrev pub grown_latches : Grown → Latches
grown_latches w = record { scd = false; ocd = false; ov = w.ov; uv = w.uv; ot = false }

-- the counts lie where another board has its runs; of the rest only what is kept of the sample, the tallies and the number change
unfoldable pub garden_with : Board → Grown → Last → Board
garden_with b w last =
    record {
      count = b.count;
      latches = latches_byte (grown_latches w);
      cycles = b.cycles;
      kind = b.kind;
      flags = b.flags;
      working = b.working;
      staged = b.staged;
      currents = b.currents;
      cells = w.cells;
      last = last;
      control = b.control;
      garden = w.garden;
      tallies = tallies_next (risen_by b (grown_latches w)) b.tallies;
      samples = number_next b.samples;
      journal = b.journal;
    }

-- the lowest cells that reached the trigger
abbrev pub reached_cell : Grown → Fault → ℕ
reached_cell w = cell_of w.ov_cell w.uv_cell

abbrev pub garden_next : Board → Readings → List ℕ → Board
garden_next b x mv =
    let w = grown_at b x mv in
    entered (garden_with b w (last_of x mv)) (risen_by b (grown_latches w)) (reached_cell w)

-- ---- by the kind
abbrev pub board_next : Board → Readings → List ℕ → Board
board_next b x mv = cond (is_garden b.kind) (garden_next b x mv) (runs_next b x mv)

-- an accepted sample answers with register 0's value and the bled cells; a garden board bleeds none
abbrev pub runs_status : Board → Readings → List ℕ → ℕ
runs_status b x mv = status_by b.kind (control_with b (latches_after b x mv)) (latches_after b x mv)

abbrev pub garden_status : Board → Readings → List ℕ → ℕ
garden_status b x mv = status_by b.kind b.control (grown_latches (grown_at b x mv))

abbrev pub sample_values : Board → Readings → List ℕ → List ℕ
sample_values b x mv =
    cond (is_garden b.kind) (garden_status b x mv) (runs_status b x mv)
    ∷ cond (is_garden b.kind) 0 (swept_at b x mv).bled
    ∷ []

-- the paper's number and values of an answer, and the answer that says them
abbrev pub sampled_values : Sampled → List ℕ
sampled_values s = s.status ∷ s.bled ∷ []

abbrev pub sampled_in : Said → Sampled
sampled_in s = record { status = value 0 s; bled = value 1 s }

abbrev pub answer_said : Result Sampled Refusal → Said
answer_said a = said_by sampled_values a

abbrev pub answer_saying : Said → Result Sampled Refusal
answer_saying s = saying_by sampled_in s

abbrev pub out_of_range : Readings → List ℕ → Bool
out_of_range x mv = not (readable mv) || x.thermistor above 5000 || shunt_outside x.shunt || x.load above 1

-- what a record says that its board is
abbrev pub plan_in : Board → Plan
plan_in b = record { kind = b.kind; cells = b.count; row = b.garden.row; trigger = b.garden.trigger }

-- a record that no good plan gives
abbrev pub bad_board : Board → Bool
bad_board b = bad_plan (plan_in b)

-- refusals 3, 4, 5 in order
abbrev pub reading_bars : Board → Readings → List ℕ → List Bar
reading_bars b x mv =
    bar 3 (not (eqb (length mv) b.count))
    ∷ bar 4 (outside 1 100000 x.elapsed)
    ∷ bar 5 (out_of_range x mv)
    ∷ []

-- of one record: 1 before them
abbrev pub sample_bars : Board → Readings → List ℕ → List Bar
sample_bars b x mv = bar 1 (bad_board b) ∷ reading_bars b x mv

-- a board after an act, and the act's answer
pub record Stepped : Type 0 where
  pub board : Board
  pub answer : Result Sampled Refusal

-- a sample's answer, and the board after it: at a refusal the board that was handed in
unfoldable pub sample_of : Board → Readings → List ℕ → Stepped
sample_of b x mv =
    record {
      board = unless_refused (sample_bars b x mv) b (board_next b x mv);
      answer = answer_saying (judged (sample_bars b x mv) (sample_values b x mv));
    }
