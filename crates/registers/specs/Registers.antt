-- A frame to one board: the table's refusals once the board is known, what it does and what it gives
-- (01, Frames and registers; Refusal numbers 9, 10, 11; 02, tickets 1, 3, 5 and 7).
-- Assumes nothing.
use Rattle.std.specs.Prelude.{ℕ, ◌+◌, Bool, cond, not, ◌&&◌, List, [], ◌∷◌, leb, eqb, Result}
use Rattle.refusal.specs.declared.Refusal.{Refusal}
use Rattle.refusal.specs.Said.{Bar, bar, judged, unless_refused}
use Rattle.settings.specs.Bytes.{with_byte, same}
use Rattle.settings.specs.Levels.{crossed}
use Rattle.cells.specs.Cells.{no_cells}
use Rattle.board.specs.declared.Board.{Board}
use Rattle.board.specs.Plan.{is_host}
use Rattle.board.specs.Host.{status_by, cleared_of, takes_down}
use Rattle.latches.specs.Latches.{latches_of, latches_byte}
use Rattle.frame.specs.declared.Request.{Request}
use Rattle.frame.specs.Frame.{writes}
use Rattle.frame.specs.Way.{outcome_saying}
use Rattle.registers.specs.Map.{Shown, no_register, fits, read_value}

-- what the registers show of a board
abbrev pub shown_of : Board → Shown
shown_of b =
    record {
      status = status_by b.kind b.control (latches_of b.latches);
      control = b.control;
      working = b.working;
      cycles = b.cycles;
      tallies = b.tallies;
    }

-- a write to register 11
abbrev pub programs : Bool → ℕ → Bool
programs writes register = writes && eqb register 11

-- a write to register 1, which host boards have
abbrev pub steers : Board → ℕ → Bool
steers b register = is_host b.kind && eqb register 1

-- where it takes b0 from 1 to 0, the latches whose condition is over are cleared
abbrev pub latches_steered : Board → ℕ → ℕ
latches_steered b v = cond (takes_down b.control v) (latches_byte (cleared_of b.working b.last (latches_of b.latches))) b.latches

-- and its value is register 1
abbrev pub steered : Board → ℕ → Board
steered b v =
    record {
      count = b.count;
      latches = latches_steered b v;
      cycles = b.cycles;
      kind = b.kind;
      flags = b.flags;
      working = b.working;
      staged = b.staged;
      currents = b.currents;
      cells = b.cells;
      last = b.last;
      control = v;
      garden = b.garden;
      tallies = b.tallies;
      samples = b.samples;
      journal = b.journal;
    }

-- a write to registers 6 to 10: the staged byte, and nothing else
abbrev pub staging : Board → ℕ → ℕ → Board
staging b register v =
    record {
      count = b.count;
      latches = b.latches;
      cycles = b.cycles;
      kind = b.kind;
      flags = b.flags;
      working = b.working;
      staged = with_byte b.staged register v;
      currents = b.currents;
      cells = b.cells;
      last = b.last;
      control = b.control;
      garden = b.garden;
      tallies = b.tallies;
      samples = b.samples;
      journal = b.journal;
    }

-- a cycle is spent, the count is then so many: staged becomes working and every run starts over; latches, flags, register 1 and the last sample stay
abbrev pub spent_to : ℕ → Board → Board
spent_to cycles b =
    record {
      count = b.count;
      latches = b.latches;
      cycles = cycles;
      kind = b.kind;
      flags = b.flags;
      working = b.staged;
      staged = b.staged;
      currents = record { ocd = 0; scd = 0 };
      cells = no_cells;
      last = b.last;
      control = b.control;
      garden = b.garden;
      tallies = b.tallies;
      samples = b.samples;
      journal = b.journal;
    }

unfoldable pub spent : Board → Board
spent b = spent_to (b.cycles + 1) b

-- programming: nothing changes where staged is equal to working
abbrev pub programmed : Board → Board
programmed b = cond (same b.staged b.working) b (spent b)

-- programming would spend a cycle, and three are spent already
abbrev pub lacks_cycle : Board → Bool
lacks_cycle b = not (same b.staged b.working) && leb 3 b.cycles

-- refusals 9, 10, 13, 11 in order; crossed levels are asked of the staged settings alone (02, ticket 1)
abbrev pub access_bars : Board → Bool → ℕ → ℕ → List Bar
access_bars b writes register v =
    bar 9 (no_register b.kind writes register)
    ∷ bar 10 (not (fits writes register v))
    ∷ bar 13 (programs writes register && crossed b.staged)
    ∷ bar 11 (programs writes register && lacks_cycle b)
    ∷ []

-- the board after an access that is not refused: a read leaves it
unfoldable pub board_after : Board → Bool → ℕ → ℕ → Board
board_after b writes register v =
    cond writes (cond (eqb register 11) (programmed b) (cond (steers b register) (steered b v) (staging b register v))) b

-- the reply's value, by the board after: the cycles then spent, the byte written, or what is read
abbrev pub reply_value : Board → Bool → ℕ → ℕ → ℕ
reply_value after writes register v =
    cond (programs writes register) after.cycles (cond writes v (read_value (shown_of after) register))

-- a board after a frame, and what it makes of the frame: the value that the reply carries, or a refusal
pub record Obeyed : Type 0 where
  pub board : Board
  pub outcome : Result ℕ Refusal

-- an access: the board and the reply's value, or the first refusal and the board as it was
abbrev pub access_of : Board → ℕ → ℕ → ℕ → Obeyed
access_of b address register v =
    let bars = access_bars b (writes address) register v in
    let after = board_after b (writes address) register v in
    let value = reply_value after (writes address) register v in
    record { board = unless_refused bars b after; outcome = outcome_saying (judged bars (value ∷ [])) }

-- a frame that was taken apart is an access
unfoldable pub obeyed_of : Board → Request → Obeyed
obeyed_of b asked = access_of b asked.address asked.register asked.value
