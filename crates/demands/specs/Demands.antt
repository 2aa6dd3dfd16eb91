-- What the paper tells of an opening and the acts since, from the accepted acts of each board alone; and demands 2 and 3.
-- Assumes nothing.
use Rattle.std.specs.Prelude.{ℕ, ◌≡◌, Bool, true, cond, List, [], ◌∷◌, ◌++◌, map, eqb, length, get_or, set, drop}
use Rattle.refusal.specs.Said.{accepts, first, judged, unless_refused}
use Rattle.lists.specs.Marks.{number}
use Rattle.cells.specs.Bleed.{bled}
use Rattle.latches.specs.Latches.{any_latch, chg_on, dsg_on}
use Rattle.latches.specs.Tallies.{tallies}
use Rattle.journal.specs.Ring as journal
use Rattle.board.specs.declared.Board.{Board}
use Rattle.board.specs.declared.Plan.{Plan}
use Rattle.board.specs.Plan.{plan_of}
use Rattle.frame.specs.Frame.{byte, writes}
use Rattle.frame.specs.Reply.{reply_bytes}
use Rattle.registers.specs.Map.{Shown, read_value}
use Rattle.reading.specs.declared.Summary.{Summary}
use Rattle.reading.specs.Reading.{read_of, whole_said}
use Rattle.reading.specs.Line.{line_of, line_said}
use Rattle.stack.specs.Row.{place_of}
use Rattle.stack.specs.Open.{open_bars}
use Rattle.stack.specs.Frame.{frame_place}
use Rattle.demands.specs.Paper.{Entry, sampled, framed, History, programming, working, spent, latches_at, tallied, control, may_dsg, may_chg, status, flags_at, listed, given}
use Rattle.demands.specs.Acts.{Act, sample, frame, listing, reading, up, Outcome, bars, outcome, next, opened_row, final, answers}
use Rattle.demands.specs.Shuffle.{picked, Shuffle}
use Rattle.demands.specs.Tied.{tied}

-- ---- what is known of each board: its plan and its accepted acts

pub record Log : Type 0 where
  pub plan : Plan
  pub acts : History

abbrev pub log : Plan → History → Log
log p h = record { plan = p; acts = h }

-- an opening begins a log for each board, by the number that stands for its plan
abbrev pub begun : List ℕ → List Log
begun plans = map (λ n. log (plan_of n) []) plans

-- of a board that is not there
abbrev pub no_log : Log
no_log = log (plan_of 0) []

abbrev pub log_at : List Log → ℕ → Log
log_at logs at = get_or logs at no_log

abbrev pub joined : Log → Entry → Log
joined l e = log l.plan (e ∷ l.acts)

-- the records that the paper gives of them
abbrev pub board_given : Log → Board
board_given l = given l.plan l.acts

abbrev pub row_given : List Log → List Board
row_given logs = map board_given logs

-- ---- an act joins its board's log exactly if no row of the table refuses it

abbrev pub frame_entry : List ℕ → Entry
frame_entry bytes = framed (byte bytes 0) (byte bytes 1) (byte bytes 2)

abbrev pub joins : List Log → ℕ → Entry → List Log
joins logs at e = set logs at (joined (log_at logs at) e)

abbrev pub taken : List Log → Act → List Log
taken logs (sample n x mv) = unless_refused (bars (row_given logs) (sample n x mv)) logs (joins logs (place_of n) (sampled x mv))
taken logs (frame bytes buffer) = unless_refused (bars (row_given logs) (frame bytes buffer)) logs (joins logs (frame_place bytes) (frame_entry bytes))
taken logs (listing n buffer) = logs
taken logs reading = logs
taken logs up = logs

-- ---- what an accepted act says, by the log after it

-- a sample: register 0's value and the bled cells
abbrev pub sample_says : Log → List ℕ
sample_says l = status l.plan l.acts ∷ number (bled (flags_at l.plan l.acts)) ∷ []

-- a read: what its row of the map gives of the status, register 1, the working settings, the cycles spent and the tallies
abbrev pub shown_given : Log → Shown
shown_given l =
    record {
      status = status l.plan l.acts;
      control = control l.plan l.acts;
      working = working l.acts;
      cycles = spent l.acts;
      tallies = tallies (λ f. tallied l.plan f l.acts);
    }

abbrev pub read_says : Log → ℕ → ℕ
read_says l register = read_value (shown_given l) register

-- a frame: its first two bytes, then the cycles spent, the byte written or what is read, and a fresh check
abbrev pub frame_says : Log → List ℕ → List ℕ
frame_says l bytes =
    let register = byte bytes 1 in
    reply_bytes (byte bytes 0) register
    (cond (programming (frame_entry bytes)) (spent l.acts)
    (cond (writes (byte bytes 0)) (byte bytes 2) (read_says l register)))

-- a whole-stack reading: what it takes from each board
abbrev pub summary_given : Log → Summary
summary_given l =
    let p = l.plan in
    let h = l.acts in
    let latches = latches_at p h in
    record {
      latched = any_latch latches;
      chg = chg_on (may_chg p h) latches;
      dsg = dsg_on (may_dsg p h) latches;
      count = p.cells;
      flags = number (flags_at p h);
    }

abbrev pub reading_says : List Log → List ℕ
reading_says logs = whole_said (read_of (map summary_given logs))

-- whether anything is up: the line, and the boards looked at for it
abbrev pub up_says : List Log → List ℕ
up_says logs = line_said (line_of (map summary_given logs))

-- a listing: the last 128 latchings of its board, or all if fewer
abbrev pub listing_says : Log → List journal.Entry
listing_says l = listed l.plan l.acts

-- the outcome that the paper tells: the first refusal in the table's order, or these values; a whole-stack act on an opened stack is never refused
abbrev pub told : List Log → Act → Outcome
told logs (sample n x mv) =
    record {
      said = judged (bars (row_given logs) (sample n x mv)) (sample_says (joined (log_at logs (place_of n)) (sampled x mv)));
      buffer = [];
    }
told logs (frame bytes buffer) =
    let refusals = bars (row_given logs) (frame bytes buffer) in
    let reply = frame_says (joined (log_at logs (frame_place bytes)) (frame_entry bytes)) bytes in
    record { said = judged refusals reply; buffer = unless_refused refusals buffer (reply ++ drop 4 buffer) }
told logs (listing n buffer) =
    let refusals = bars (row_given logs) (listing n buffer) in
    let entries = listing_says (log_at logs (place_of n)) in
    record { said = judged refusals (length entries ∷ []); buffer = unless_refused refusals buffer (journal.words_over entries buffer) }
told logs reading = record { said = accepts (reading_says logs); buffer = [] }
told logs up = record { said = accepts (up_says logs); buffer = [] }

-- ---- demand 2

-- an opening that is not refused
abbrev pub opens : List ℕ → Bool
opens plans = eqb (first (open_bars (length plans) plans)) 0

-- after any opening and any acts, every outcome is the one that the paper tells, and the row is the one that it gives
abbrev pub Demand2 : Type 0
Demand2 = (plans : List ℕ) → opens plans ≡ true → (acts : List Act)
    → (answers next outcome (opened_row plans) acts ≡ answers taken told (begun plans) acts)
    × (final next (opened_row plans) acts ≡ row_given (final taken (begun plans) acts))

-- ---- demand 3

-- what stands past the end of a list of outcomes; no shuffle names such a place
abbrev pub nothing : Outcome
nothing = record { said = accepts []; buffer = [] }

-- however the acts are shuffled, each gets what the paper told of it in the first list, and the row at the end is the same
abbrev pub Demand3 : Type 0
Demand3 = (plans : List ℕ) → opens plans ≡ true → (acts : List Act) (order : List ℕ) → Shuffle (tied (length plans)) reading acts order
    → (answers next outcome (opened_row plans) (picked reading order acts) ≡ picked nothing order (answers taken told (begun plans) acts))
    × (final next (opened_row plans) (picked reading order acts) ≡ final next (opened_row plans) acts)
