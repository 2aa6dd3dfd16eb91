-- What a mechanic would ask (01, When a fault latches and lets go; Frames and registers; Errors a good mechanic would make; 02, tickets 3, 5, 6 and 7): of the runs in a history, and of the library on any stack that came from an opening, after any acts.
-- Assumes nothing.
use Rattle.std.specs.Prelude.{ℕ, ◌+◌, ◌/◌, ◌%◌, ◌<◌, ◌≤◌, ◌≡◌, ◌⊎◌, ◌↔◌, Bool, true, false, List, ◌∷◌}
use Rattle.std.proofs.Math.Option.{some, none}
use Rattle.refusal.specs.Said.{accepts, refuses}
use Rattle.settings.specs.Bytes.{byte_of, same}
use Rattle.settings.specs.Levels.{crossed}
use Rattle.settings.specs.Faults.{Fault, SCD, OCD, OV, UV, OT, delay}
use Rattle.latches.specs.Latches.{latch, latches_of}
use Rattle.board.specs.declared.Board.{Board}
use Rattle.board.specs.declared.Readings.{Readings}
use Rattle.board.specs.Plan.{is_garden}
use Rattle.board.specs.Host.{holds_on}
use Rattle.frame.specs.Frame.{byte, writes}
use Rattle.frame.specs.Reply.{reply_bytes}
use Rattle.stack.specs.Row.{place_of, board_at}
use Rattle.stack.specs.Frame.{frame_place}
use Rattle.demands.specs.Paper.{Entry, sampled, framed, History, programming, staged, working, spends, how_many, spent, sample_of, holds, run_of, places, lets_go, clears, counted, count_at, back_at, filter, tallied, control}
use Rattle.demands.specs.Acts.{Act, sample, frame, reading, up, outcome, next, opened_row, final}
use Rattle.demands.specs.Table.{lent}
use Rattle.demands.specs.Turns.{Under, Calm}
use Rattle.demands.specs.Demands.{Log, begun, log_at, frame_entry, taken, opens}

-- ---- runs

-- what one more act makes of the run of a fault's condition at a place
pub record Runs (f : Fault) (k : ℕ) (h : History) : Type 0 where
  -- a sample at which it fails ends the run
  pub fails : (x : Readings) (mv : List ℕ) → holds f (working h) k (sample_of x mv) ≡ false → run_of f k (sampled x mv ∷ h) ≡ none
  -- the first sample of a stretch counts no time
  pub begins : (x : Readings) (mv : List ℕ) → holds f (working h) k (sample_of x mv) ≡ true → run_of f k h ≡ none → run_of f k (sampled x mv ∷ h) ≡ some 0
  -- a later one counts its own
  pub goes_on : (x : Readings) (mv : List ℕ) (t : ℕ) → holds f (working h) k (sample_of x mv) ≡ true → run_of f k h ≡ some t
      → run_of f k (sampled x mv ∷ h) ≡ some (x.elapsed + t)
  -- a spent cycle starts it over, and no other frame touches it, an equal programming among them
  pub starts-over : (e : Entry) → spends e h ≡ true → run_of f k (e ∷ h) ≡ none
  pub else-stays : (address register v : ℕ) → let e = framed address register v in spends e h ≡ false → run_of f k (e ∷ h) ≡ run_of f k h

-- and of the cycles spent: a programming spends one where staged and working differ, and nothing else does
pub record Cycles (e : Entry) (h : History) : Type 0 where
  pub none-at-equal : same (staged h) (working h) ≡ true → spent (e ∷ h) ≡ spent h
  pub one-at-unlike : programming e ≡ true → same (staged h) (working h) ≡ false → spent (e ∷ h) ≡ spent h + 1
  pub none-else : programming e ≡ false → spent (e ∷ h) ≡ spent h

-- there is a run, that of some one cell with OV and UV, of n cells; and it is longer than the delay or the delay is zero (02, ticket 6)
abbrev pub Stood : ℕ → Fault → History → Type 0
Stood n f h = (k : ℕ) × (k < places f n) × (t : ℕ) × (run_of f k h ≡ some t) × ((delay f (working h) < t) ⊎ (delay f (working h) ≡ 0))

-- a fault's bit of register 0
abbrev pub bit_of : Fault → ℕ
bit_of SCD = 0
bit_of OCD = 1
bit_of OV = 2
bit_of UV = 3
bit_of OT = 4

-- ---- the library after an opening and acts

-- a fault is latched in the record at a place
abbrev pub is_latched : Fault → List Board → ℕ → Bool
is_latched f row at = latch f (latches_of (board_at row at).latches)

abbrev pub Accepted : List Board → Act → Type 0
Accepted row a = (outcome row a).said.number ≡ 0

-- of a row, and of what is known of each of its boards: its plan and its accepted acts
pub record Answers (row : List Board) (logs : List Log) : Type 0 where
  -- an unlatched fault latches at an accepted sample exactly if its condition has stood its delay, for some one cell with OV and UV; of a garden
  -- board, below
  pub latches : (f : Fault) (n : ℕ) (x : Readings) (mv : List ℕ) → let l = log_at logs (place_of n) in
      is_garden l.plan.kind ≡ false → Accepted row (sample n x mv) → is_latched f row (place_of n) ≡ false
      → (is_latched f (next row (sample n x mv)) (place_of n) ≡ true) ↔ Stood l.plan.cells f (sampled x mv ∷ l.acts)
  -- a latched one lets go exactly if its recovery is met, and on a host board only overtemperature does by itself
  pub lets_go_lem : (f : Fault) (n : ℕ) (x : Readings) (mv : List ℕ) → let l = log_at logs (place_of n) in
      is_garden l.plan.kind ≡ false → Accepted row (sample n x mv) → is_latched f row (place_of n) ≡ true
      → (is_latched f (next row (sample n x mv)) (place_of n) ≡ false)
      ↔ ((holds_on l.plan.kind f ≡ false) × (lets_go l.plan.cells f (working l.acts) (sample_of x mv) ≡ true))
  -- a garden board's OV and UV latch exactly if the count of some one cell reaches the trigger at the sample, and let go exactly if the recovery count
  -- does; no other fault of it is ever latched
  pub counts-latch : (f : Fault) (n : ℕ) (x : Readings) (mv : List ℕ) → let l = log_at logs (place_of n) in
      is_garden l.plan.kind ≡ true → counted f ≡ true → Accepted row (sample n x mv) → is_latched f row (place_of n) ≡ false
      → (is_latched f (next row (sample n x mv)) (place_of n) ≡ true)
      ↔ ((k : ℕ) × (k < l.plan.cells) × (l.plan.trigger ≤ count_at l.plan f (filter l.plan f l.acts) (sample_of x mv) k))
  pub counts-let-go : (f : Fault) (n : ℕ) (x : Readings) (mv : List ℕ) → let l = log_at logs (place_of n) in
      is_garden l.plan.kind ≡ true → counted f ≡ true → Accepted row (sample n x mv) → is_latched f row (place_of n) ≡ true
      → (is_latched f (next row (sample n x mv)) (place_of n) ≡ false) ↔ (l.plan.trigger ≤ back_at l.plan f (filter l.plan f l.acts) (sample_of x mv))
  pub counts-no-other : (f : Fault) (at : ℕ) → is_garden (log_at logs at).plan.kind ≡ true → counted f ≡ false → is_latched f row at ≡ false
  -- no frame latches a fault, programmings among them
  pub frames-latch-none : (f : Fault) (bytes buffer : List ℕ) (at : ℕ) → is_latched f row at ≡ false → is_latched f (next row (frame bytes buffer)) at ≡ false
  -- and one lets it go exactly if it is accepted, its board has the fault, and it clears it there: a write that takes b0 of a host board's register 1
  -- from 1 to 0, with the condition over on the last accepted sample by the levels that work
  pub frames-clear : (f : Fault) (bytes buffer : List ℕ) (at : ℕ) → let l = log_at logs at in
      is_latched f row at ≡ true
      → (is_latched f (next row (frame bytes buffer)) at ≡ false)
      ↔ (Accepted row (frame bytes buffer) × (frame_place bytes ≡ at) × (clears l.plan f (frame_entry bytes) l.acts ≡ true))
  -- so a stand-alone board's faults are left by every frame
  pub frames-leave : (f : Fault) (bytes buffer : List ℕ) (at : ℕ) → (log_at logs at).plan.kind ≡ 0 → is_latched f (next row (frame bytes buffer)) at ≡ is_latched f row at
  -- a fault that no one cell has stood at any time is not latched, however the cells take turns
  pub no-pooling : (f : Fault) (at : ℕ) → let l = log_at logs at in is_garden l.plan.kind ≡ false → Under l.plan.cells f l.acts → is_latched f row at ≡ false
  -- nor is one whose condition never held, whatever was programmed
  pub calm : (f : Fault) (at : ℕ) → let l = log_at logs at in is_garden l.plan.kind ≡ false → Calm f l.acts → is_latched f row at ≡ false
  -- a read of registers 6 to 10 gives the working byte
  pub reads-working : (bytes buffer : List ℕ) → let l = log_at logs (frame_place bytes) in
      Accepted row (frame bytes buffer) → writes (byte bytes 0) ≡ false → 6 ≤ byte bytes 1 → byte bytes 1 ≤ 10
      → (outcome row (frame bytes buffer)).said ≡ accepts (reply_bytes (byte bytes 0) (byte bytes 1) (byte_of (working l.acts) (byte bytes 1)))
  -- a read of register 11 gives the number of programmings at which staged and working differed
  pub reads-cycles : (bytes buffer : List ℕ) → let l = log_at logs (frame_place bytes) in
      Accepted row (frame bytes buffer) → writes (byte bytes 0) ≡ false → byte bytes 1 ≡ 11
      → (outcome row (frame bytes buffer)).said ≡ accepts (reply_bytes (byte bytes 0) 11 (how_many spends l.acts))
  -- a read of register 1 gives its bits, on a host board
  pub reads-control : (bytes buffer : List ℕ) → let l = log_at logs (frame_place bytes) in
      Accepted row (frame bytes buffer) → writes (byte bytes 0) ≡ false → byte bytes 1 ≡ 1 → l.plan.kind ≡ 1
      → (outcome row (frame bytes buffer)).said ≡ accepts (reply_bytes (byte bytes 0) 1 (control l.plan l.acts))
  -- a read of registers 16 to 20 gives the low byte of a tally, one of 24 to 28 the high byte, on a board of any kind
  pub reads-low : (f : Fault) (bytes buffer : List ℕ) → let l = log_at logs (frame_place bytes) in
      Accepted row (frame bytes buffer) → writes (byte bytes 0) ≡ false → byte bytes 1 ≡ 16 + bit_of f
      → (outcome row (frame bytes buffer)).said ≡ accepts (reply_bytes (byte bytes 0) (16 + bit_of f) (tallied l.plan f l.acts % 256))
  pub reads-high : (f : Fault) (bytes buffer : List ℕ) → let l = log_at logs (frame_place bytes) in
      Accepted row (frame bytes buffer) → writes (byte bytes 0) ≡ false → byte bytes 1 ≡ 24 + bit_of f
      → (outcome row (frame bytes buffer)).said ≡ accepts (reply_bytes (byte bytes 0) (24 + bit_of f) (tallied l.plan f l.acts / 256))
  -- the working levels of a board are never crossed
  pub never-crossed : (at : ℕ) → crossed (working (log_at logs at).acts) ≡ false
  -- so programming with staged equal to working changes no record, and is refused neither for crossed levels nor for want of a cycle
  pub equal-programming : (bytes buffer : List ℕ) → let l = log_at logs (frame_place bytes) in
      writes (byte bytes 0) ≡ true → byte bytes 1 ≡ 11 → same (staged l.acts) (working l.acts) ≡ true
      → (next row (frame bytes buffer) ≡ row) × ((outcome row (frame bytes buffer)).said ≡ refuses 13 → ⊥) × ((outcome row (frame bytes buffer)).said ≡ refuses 11 → ⊥)
  -- a refused act changes no record and no byte of its buffer, and joins no history: a refused sample is in no stretch and breaks none
  pub refused : (a : Act) (n : ℕ) → 0 < n → (outcome row a).said ≡ refuses n → (next row a ≡ row) × ((outcome row a).buffer ≡ lent a) × (taken logs a ≡ logs)
  -- a whole-stack act is never refused
  pub reading-accepted : Accepted row reading
  pub up-accepted : Accepted row up

-- whatever was opened, and whatever came after it
abbrev pub Mechanic : Type 0
Mechanic = (plans : List ℕ) → opens plans ≡ true → (acts : List Act) → Answers (final next (opened_row plans) acts) (final taken (begun plans) acts)
