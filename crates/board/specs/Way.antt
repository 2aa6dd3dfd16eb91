-- On the way: a sample is looked at before the board is changed. What the look finds, and what comes of each finding, together are the sample (the law look-is).
-- Assumes nothing.
use Rattle.std.specs.Prelude.{ℕ, Bool, cond, not, ◌&&◌, ◌||◌, List, [], ltb, eqb, Result, Ok, Err}
use Rattle.refusal.specs.declared.Refusal.{Refusal}
use Rattle.refusal.specs.Refusals.{numbered}
use Rattle.refusal.specs.Said.{first}
use Rattle.settings.specs.declared.Settings.{Settings}
use Rattle.settings.specs.Levels.{ov_release, uv_release, ocd_level, scd_level}
use Rattle.settings.specs.Faults.{Fault, SCD, OCD, OV, UV, OT}
use Rattle.cells.specs.declared.Span.{Span}
use Rattle.cells.specs.declared.Swept.{Swept}
use Rattle.cells.specs.Cells.{span_of, lowest_cell}
use Rattle.cells.specs.Way.{calm_of}
use Rattle.garden.specs.declared.Grown.{Grown}
use Rattle.garden.specs.Way.{grow_by}
use Rattle.latches.specs.declared.Latches.{Latches}
use Rattle.latches.specs.Latches.{latch, latches, latch_next, latches_of, any_latch}
use Rattle.board.specs.declared.Board.{Board}
use Rattle.board.specs.declared.Currents.{Currents}
use Rattle.board.specs.declared.Last.{Last}
use Rattle.board.specs.declared.Readings.{Readings}
use Rattle.board.specs.declared.Sampled.{Sampled}
use Rattle.board.specs.declared.Note.{Note}
use Rattle.board.specs.declared.Noted.{Noted}
use Rattle.board.specs.declared.Rested.{Rested}
use Rattle.board.specs.declared.Found.{Found}
use Rattle.board.specs.declared.Found.TheVariants.{Quiet, Grows, Changes}
use Rattle.board.specs.Shunt.{shunt_above, shunt_outside}
use Rattle.board.specs.Plan.{is_garden}
use Rattle.board.specs.Host.{status_by, holds_on}
use Rattle.board.specs.Latchings.{number_next, cell_of}
use Rattle.board.specs.Sample.{currents_next, hot, attached, stands, lets_go, swept_at, risen_by, control_with, board_with, entered, grown_latches, garden_with, sample_bars}

-- refusal 5 by the highest cell (the law range-by)
abbrev pub out_of_range_by : Readings → Span → Bool
out_of_range_by x span = ltb 5000 span.high || ltb 5000 x.thermistor || shunt_outside x.shunt || ltb 1 x.load

-- ---- a quiet sample: it finds nothing, on a board that has nothing on record
-- no latch and no flag; a garden board counts at every sample
abbrev pub clear : Board → Bool
clear b = not (is_garden b.kind) && (eqb b.latches 0 && eqb b.flags 0)

-- no run of a current condition
abbrev pub idle : Board → Bool
idle b = eqb b.currents.ocd 0 && eqb b.currents.scd 0

-- the shunt is not above the level of OCD, nor of SCD
abbrev pub currents_below : Board → Readings → Bool
currents_below b x = not (shunt_above (ocd_level b.working) x.shunt) && not (shunt_above (scd_level b.working) x.shunt)

-- not hot, and in range
abbrev pub warm : Readings → Bool
warm x = not (hot x) && not (ltb 5000 x.thermistor)

-- and every cell without a run, the lowest and the highest where UV and OV let go
unfoldable pub quiet_of : Board → Readings → Span → Bool
quiet_of b x span = (clear b && idle b) && (calm_of b.working b.cells span && (currents_below b x && (warm x && (not (shunt_outside x.shunt) && not (ltb 1 x.load)))))

-- ---- what the look finds: refused, or else quiet, or a garden board's, or none of these
abbrev pub found_by : Bool → Bool → Span → Found
found_by quiet garden span = cond quiet (Quiet span) (cond garden (Grows span) (Changes span))

unfoldable pub look_of : Board → Readings → List ℕ → Result Found Refusal
look_of b x mv =
    let refusal = first (sample_bars b x mv) in
    cond (eqb refusal 0) (Ok (found_by (quiet_of b x (span_of mv)) (is_garden b.kind) (span_of mv))) (Err (numbered refusal))

-- ---- what comes of it: a quiet sample answers with register 0 of the record and no cell bled, and only itself is kept and counted; any other is stepped
abbrev pub last_by : Readings → Span → Last
last_by x span = record { low = span.low; high = span.high; shunt = x.shunt }

abbrev pub keeping : Board → Last → Board
keeping b last =
    record {
      count = b.count;
      latches = b.latches;
      cycles = b.cycles;
      kind = b.kind;
      flags = b.flags;
      working = b.working;
      staged = b.staged;
      currents = b.currents;
      cells = b.cells;
      last = last;
      control = b.control;
      garden = b.garden;
      tallies = b.tallies;
      samples = number_next b.samples;
      journal = b.journal;
    }

abbrev pub sampled : ℕ → ℕ → Sampled
sampled status bled = record { status = status; bled = bled }

unfoldable pub rested_of : Board → Readings → Span → Rested
rested_of b x span = record { board = keeping b (last_by x span); answer = sampled (status_by b.kind b.control (latches_of b.latches)) 0 }

module _ (s : Settings) (swept : Swept) (span : Span) (runs : Currents) (x : Readings) where
  -- when a fault lets go, by the lowest and the highest cell (the law latches-by); the others ask no cell
  abbrev pub lets_go_by : Fault → Bool
  lets_go_by SCD = lets_go s swept runs x [] SCD
  lets_go_by OCD = lets_go s swept runs x [] OCD
  lets_go_by OV = ltb span.high (ov_release s)
  lets_go_by UV = ltb (uv_release s) span.low
  lets_go_by OT = lets_go s swept runs x [] OT

  unfoldable pub latches_by : ℕ → Latches → Latches
  latches_by kind old = latches (λ f. latch_next (latch f old) (stands s swept runs x f) (not (holds_on kind f) && lets_go_by f))

abbrev pub latches_left : Board → Readings → Span → List ℕ → Latches
latches_left b x span mv =
    latches_by b.working (swept_at b x mv) span (currents_next b.working b.currents x) x b.kind (latches_of b.latches)

-- a lowest cell is looked for only where its fault latched; no other is entered (the law noted-cells)
abbrev pub lowest_if : Bool → ℕ → ℕ
lowest_if up set = cond up (lowest_cell set) 0

abbrev pub note_of : Sampled → Latches → ℕ → ℕ → Note
note_of a up ov uv = record { answer = a; up = up; ov = ov; uv = uv }

unfoldable pub accepted_by : Board → Readings → Span → List ℕ → Noted
accepted_by b x span mv =
    let left = latches_left b x span mv in
    let up = risen_by b left in
    let swept = swept_at b x mv in
    record {
      board = board_with b x mv left (last_by x span);
      note = note_of (sampled (status_by b.kind (control_with b left) left) swept.bled) up (lowest_if (latch OV up) swept.ov_stood) (lowest_if (latch UV up) swept.uv_stood);
    }

-- a garden board's, by the lowest and the highest cell (the law garden's grow-by)
abbrev pub grown_by : Board → Readings → Span → List ℕ → Grown
grown_by b x span mv = grow_by b.garden b.cells (latch OV (latches_of b.latches)) (latch UV (latches_of b.latches)) (attached x) span mv

unfoldable pub grown_of : Board → Readings → Span → List ℕ → Noted
grown_of b x span mv =
    let w = grown_by b x span mv in
    record {
      board = garden_with b w (last_by x span);
      note = note_of (sampled (status_by b.kind b.control (grown_latches w)) 0) (risen_by b (grown_latches w)) w.ov_cell w.uv_cell;
    }

-- ---- then what latched is entered, where anything did (the law entering-is)
abbrev pub nothing_up : Latches → Bool
nothing_up up = not (any_latch up)

unfoldable pub entered_of : Board → Note → Board
entered_of b note = entered b note.up (cell_of note.ov note.uv)

abbrev pub entering : Board → Note → Board
entering b note = cond (nothing_up note.up) b (entered_of b note)

abbrev pub entered_by : Noted → Board
entered_by s = entering s.board s.note
