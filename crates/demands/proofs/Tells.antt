-- One act on a row that the paper gives: the library's outcome is the one told, and its row the one given after it.
-- Assumes nothing.
use Prim.Native.Nat.{ℕ, zero, suc, ◌<◌}
use native.Mathlib.Omega.{arith}
use mathlib.Core.Path.{◌≡◌, refl, ap, ap₂, sym, ◌∙◌, subst}
use mathlib.Core.Bool.{Bool, true, false, true≢false, cond, not, ◌&&◌}
use mathlib.Core.List.{List, [], ◌∷◌, ◌++◌, map}
use lib.Dec.{ltb, eqb}
use lib.ListN.{length, get_or, set, drop, length-map, get_or-map}
use lib.Seq.{get_or-set_same}
use borrow.Author.Tests.{ltb-true, ltb-false, eqb-true, not-false}
use Rattle.lists.proofs.Split.{split, both}
use Rattle.settings.specs.Levels.{crossed}
use Rattle.refusal.specs.Said.{Said, Bar, bar, accepts, first, judged, unless_refused}
use Rattle.latches.specs.declared.Latches.{Latches}
use Rattle.latches.specs.Latches.{any_latch, chg_on, dsg_on, latches_of, latches_byte}
use Rattle.latches.specs.Tallies.{tallies}
use Rattle.latches.proofs.Packed.{latches-kept}
use Rattle.journal.specs.Ring as journal
use Rattle.journal.proofs.Laws.{last-listed}
use Rattle.board.specs.declared.Board.{Board}
use Rattle.board.specs.declared.Readings.{Readings}
use Rattle.lists.specs.Compare.{outside}
use Rattle.board.specs.Plan.{is_host, is_garden, bad_plan}
use Rattle.board.specs.Host.{status_by}
use Rattle.board.specs.Sample.{bad_board, out_of_range, reading_bars, board_next, sample_values}
use Rattle.board.proofs.Counts.{good-plan}
use Rattle.frame.specs.Frame.{byte, board_of, writes}
use Rattle.frame.specs.Reply.{reply_bytes}
use Rattle.frame.specs.Check.{check_of}
use Rattle.registers.specs.Map.{Shown, read_value, fits, no_register}
use Rattle.registers.specs.Registers.{programs, lacks_cycle, access_bars, board_after, reply_value}
use Rattle.reading.specs.declared.Summary.{Summary}
use Rattle.reading.specs.Reading.{summary_of, read_of, whole_said}
use Rattle.reading.specs.Line.{line_of, line_said}
use Rattle.stack.specs.Row.{good_row, no_board, place_of, board_at}
use Rattle.stack.specs.Sample.{sample_row_bars, sample_row}
use Rattle.stack.specs.Frame.{frame_place, frame_board, board_framed, frame_reply, frame_row_bars, frame_row, frame_buffer}
use Rattle.stack.specs.List.{entries_of, list_bars, list_buffer}
use Rattle.stack.specs.Read.{view_said, read_bars, reading_of}
use Rattle.stack.specs.Up.{glance_said, up_of}
use Rattle.stack.proofs.Scanned.{up-said}
use Rattle.registers.proofs.Map.{no_writes}
use Rattle.stack.proofs.Ways.{board-good, has-none}
use Rattle.stack.proofs.Laws.{sample-said, frame-said, list-said}
use Rattle.demands.specs.Paper.{sampled, staged, working, spent, steers, latches_at, tallied, latchings, control, may_dsg, may_chg}
use Rattle.demands.specs.Acts.{Act, sample, frame, listing, reading, up, Outcome, outcome, next}
use Rattle.demands.specs.Demands.{Log, no_log, log_at, joined, board_given, row_given, frame_entry, joins, taken, sample_says, read_says, frame_says, listing_says, summary_given, told}
use Rattle.demands.proofs.Given.{given-start, may-dsg-is, may-chg-is, status-is, given-framed}
use Rattle.demands.proofs.Grown.{given-sampled, values-are}
use Rattle.demands.proofs.Table.{reading-judged}
use Rattle.demands.proofs.Clear.{clear, judged-same, kept_same}

-- ---- the record at a place, and a record stored

pub board-at : (logs : List Log) (at : ℕ) → board_at (row_given logs) at ≡ board_given (log_at logs at)
board-at logs at = ap (get_or (row_given logs) at) (sym (given-start 0 (omega arith))) ∙ get_or-map board_given logs at no_log

row-set : (logs : List Log) (at : ℕ) (l : Log) → set (row_given logs) at (board_given l) ≡ row_given (set logs at l)
row-set [] at l = refl
row-set (m ∷ logs) zero l = refl
row-set (m ∷ logs) (suc at) l = ap (λ (row : List Board). board_given m ∷ row) (row-set logs at l)

-- a board that a good row has is in its place, and by a good plan
module _ (logs : List Log) (n : ℕ) (g : not (good_row (row_given logs)) ≡ false) (b : no_board (row_given logs) n ≡ false) where
  good-row : good_row (row_given logs) ≡ true
  good-row = not-false (good_row (row_given logs)) g

  in_row : place_of n < length (row_given logs)
  in_row =
      let row = row_given logs in
      split (ltb (place_of n) (length row))
      (λ e. ltb-true (place_of n) (length row) e)
      (λ e. absurd (true≢false (sym (has-none row good-row n (ltb-false (place_of n) (length row) e)) ∙ b)))

  in-logs : place_of n < length logs
  in-logs = subst (λ (k : ℕ). place_of n < k) (length-map logs board_given) in_row

  well-planned : not (bad_plan (log_at logs (place_of n)).plan) ≡ true
  well-planned = subst (λ (b : Board). not (bad_board b) ≡ true) (board-at logs (place_of n)) (ap not (board-good (row_given logs) good-row (place_of n) in_row))

-- ---- a sample

module _ (logs : List Log) (n : ℕ) (x : Readings) (mv : List ℕ) where
  abbrev of-sample : Log
  of-sample = log_at logs (place_of n)

  abbrev sample-row : List Bar
  sample-row = sample_row_bars (row_given logs) n x mv

  -- an accepted sample is of a board of the row, in a good row, and readable there
  sample-clear : eqb (first sample-row) 0 ≡ true
      → (not (good_row (row_given logs)) ≡ false) × (no_board (row_given logs) n ≡ false) × (eqb (first (reading_bars (board_at (row_given logs) (place_of n)) x mv)) 0 ≡ true)
  sample-clear accepted =
      let row = row_given logs in
      let c1 = clear (bar 1 (not (good_row row))) (bar 2 (no_board row n) ∷ reading_bars (board_at row (place_of n)) x mv) refl accepted in
      let c2 = clear (bar 2 (no_board row n)) (reading_bars (board_at row (place_of n)) x mv) refl c1.1 in
      (c1.0, c2.0, c2.1)

  -- it has as many cells as its board, whose plan is good
  sample-fits : eqb (first sample-row) 0 ≡ true → (not (bad_plan of-sample.plan) ≡ true) × (length mv ≡ of-sample.plan.cells)
  sample-fits accepted =
      let b = board_at (row_given logs) (place_of n) in
      let c = sample-clear accepted in
      let c3 = clear (bar 3 (not (eqb (length mv) b.count))) (bar 4 (outside 1 100000 x.elapsed) ∷ bar 5 (out_of_range x mv) ∷ []) refl c.2 in
      let long : length mv ≡ b.count = eqb-true (length mv) b.count (not-false (eqb (length mv) b.count) c3.0) in
      (well-planned logs n c.0 c.1, long ∙ ap (λ (r : Board). r.count) (board-at logs (place_of n)))

  -- and joins its board's log
  pub sample-joins : eqb (first sample-row) 0 ≡ true → log_at (taken logs (sample n x mv)) (place_of n) ≡ joined of-sample (sampled x mv)
  sample-joins accepted =
      let c = sample-clear accepted in
      rw accepted (get_or-set_same logs (place_of n) (joined of-sample (sampled x mv)) no_log (in-logs logs n c.0 c.1))

  sample-leaves : eqb (first sample-row) 0 ≡ true → board_next (board_at (row_given logs) (place_of n)) x mv ≡ board_given (joined of-sample (sampled x mv))
  sample-leaves accepted =
      let fits = sample-fits accepted in
      ap (λ (b : Board). board_next b x mv) (board-at logs (place_of n)) ∙ given-sampled of-sample.plan fits.0 of-sample.acts x mv fits.1

  sample-values : eqb (first sample-row) 0 ≡ true → sample_values (board_at (row_given logs) (place_of n)) x mv ≡ sample_says (joined of-sample (sampled x mv))
  sample-values accepted =
      let fits = sample-fits accepted in
      ap (λ (b : Board). sample_values b x mv) (board-at logs (place_of n)) ∙ values-are of-sample.plan fits.0 of-sample.acts x mv fits.1

  sample-told : outcome (row_given logs) (sample n x mv) ≡ told logs (sample n x mv)
  sample-told =
      let said = sample-said (row_given logs) n x mv ∙ judged-same sample-row _ _ sample-values in
      λ i. record { said = said i; buffer = [] }

  sample-taken : next (row_given logs) (sample n x mv) ≡ row_given (taken logs (sample n x mv))
  unfolding sample_row
  sample-taken =
      let row = row_given logs in
      let at = place_of n in
      kept_same row_given sample-row logs (set row at (board_next (board_at row at) x mv)) (joins logs at (sampled x mv))
      (λ a. ap (set row at) (sample-leaves a) ∙ row-set logs at (joined of-sample (sampled x mv)))

-- ---- a frame

-- a reply by the record is a reply by the log
reply-is : (l : Log) (write : Bool) (register v : ℕ)
    → reply_value (board_given l) write register v ≡ cond (programs write register) (spent l.acts) (cond write v (read_says l register))
reply-is l write register v =
    let p = l.plan in
    let h = l.acts in
    let shown : ℕ → Shown = λ status. record { status = status; control = control p h; working = working h; cycles = spent h; tallies = tallies (λ f. tallied p f h) } in
    ap (λ (status : ℕ). cond (programs write register) (spent h) (cond write v (read_value (shown status) register)))
    (ap (status_by p.kind (control p h)) (latches-kept (latches_at p h)) ∙ status-is p h (latches_at p h))

-- a write to register 1 that its board does not refuse carries three bits
steers-fits : (l : Log) (bytes : List ℕ) → eqb (first (access_bars (board_given l) (writes (byte bytes 0)) (byte bytes 1) (byte bytes 2))) 0 ≡ true
    → steers l.plan (frame_entry bytes) ≡ true → byte bytes 2 < 8
steers-fits l bytes obeys is =
    let k = l.plan.kind in
    let w = writes (byte bytes 0) in
    let r = byte bytes 1 in
    let v = byte bytes 2 in
    let host = both (is_host k) (w && eqb r 1) is in
    let write = both w (eqb r 1) host.1 in
    let one = eqb-true r 1 write.1 in
    let late = bar 13 (programs w r && crossed (staged l.acts)) ∷ bar 11 (programs w r && lacks_cycle (board_given l)) ∷ [] in
    let c9 = clear (bar 9 (no_register k w r)) (bar 10 (not (fits w r v)) ∷ late) refl obeys in
    let c10 = clear (bar 10 (not (fits w r v))) late refl c9.1 in
    ltb-true v 8 (rw (write.0, one) at (not-false (fits w r v) c10.0))

-- a write that its board does not refuse is to no garden board
writes-settled : (l : Log) (bytes : List ℕ) → eqb (first (access_bars (board_given l) (writes (byte bytes 0)) (byte bytes 1) (byte bytes 2))) 0 ≡ true
    → writes (byte bytes 0) ≡ true → is_garden l.plan.kind ≡ false
writes-settled l bytes obeys w =
    let k = l.plan.kind in
    let r = byte bytes 1 in
    let late = bar 13 (programs (writes (byte bytes 0)) r && crossed (staged l.acts)) ∷ bar 11 (programs (writes (byte bytes 0)) r && lacks_cycle (board_given l)) ∷ [] in
    let there : no_register k (writes (byte bytes 0)) r ≡ false = (clear (bar 9 (no_register k (writes (byte bytes 0)) r)) (bar 10 (not (fits (writes (byte bytes 0)) r (byte bytes 2))) ∷ late) refl obeys).0 in
    split (is_garden k) (λ g. absurd (true≢false (sym (no_writes k r g) ∙ ap (λ (t : Bool). no_register k t r) (sym w) ∙ there))) (λ g. g)

module _ (logs : List Log) (bytes buffer : List ℕ) where
  abbrev of-frame : Log
  of-frame = log_at logs (frame_place bytes)

  abbrev frame_bars : List Bar
  frame_bars = frame_row_bars (row_given logs) bytes buffer

  -- an accepted frame is to a board of a good plan, whose record gives no refusal
  pub frame-fits : eqb (first frame_bars) 0 ≡ true
      → (not (bad_plan of-frame.plan) ≡ true) × (eqb (first (access_bars (board_given of-frame) (writes (byte bytes 0)) (byte bytes 1) (byte bytes 2))) 0 ≡ true)
  frame-fits accepted =
      let row = row_given logs in
      let n = board_of (byte bytes 0) in
      let late = access_bars (frame_board row bytes) (writes (byte bytes 0)) (byte bytes 1) (byte bytes 2) in
      let b6 = bar 6 (not (eqb (length bytes) 4)) in
      let b7 = bar 7 (ltb (length buffer) 4) in
      let b8 = bar 8 (not (eqb (byte bytes 3) (check_of (byte bytes 0 ∷ byte bytes 1 ∷ byte bytes 2 ∷ [])))) in
      let b2 = bar 2 (no_board row n) in
      let c1 = clear (bar 1 (not (good_row row))) (b6 ∷ b7 ∷ b8 ∷ b2 ∷ late) refl accepted in
      let c6 = clear b6 (b7 ∷ b8 ∷ b2 ∷ late) refl c1.1 in
      let c7 = clear b7 (b8 ∷ b2 ∷ late) refl c6.1 in
      let c8 = clear b8 (b2 ∷ late) refl c7.1 in
      let c2 = clear b2 late refl c8.1 in
      let here = ap (λ (b : Board). first (access_bars b (writes (byte bytes 0)) (byte bytes 1) (byte bytes 2))) (board-at logs (frame_place bytes)) in
      (well-planned logs n c1.0 c2.0, ap (λ (k : ℕ). eqb k 0) (sym here) ∙ c2.1)

  frame-leaves : eqb (first frame_bars) 0 ≡ true → board_framed (row_given logs) bytes ≡ board_given (joined of-frame (frame_entry bytes))
  frame-leaves accepted =
      ap (λ (b : Board). board_after b (writes (byte bytes 0)) (byte bytes 1) (byte bytes 2)) (board-at logs (frame_place bytes))
      ∙ given-framed of-frame.plan of-frame.acts (byte bytes 0) (byte bytes 1) (byte bytes 2) (good-plan of-frame.plan (frame-fits accepted).0)
      (writes-settled of-frame bytes (frame-fits accepted).1) (steers-fits of-frame bytes (frame-fits accepted).1)

  frame-values : eqb (first frame_bars) 0 ≡ true → frame_reply (row_given logs) bytes ≡ frame_says (joined of-frame (frame_entry bytes)) bytes
  frame-values accepted =
      let write = writes (byte bytes 0) in
      ap (λ (b : Board). reply_bytes (byte bytes 0) (byte bytes 1) (reply_value b write (byte bytes 1) (byte bytes 2))) (frame-leaves accepted)
      ∙ ap (reply_bytes (byte bytes 0) (byte bytes 1)) (reply-is (joined of-frame (frame_entry bytes)) write (byte bytes 1) (byte bytes 2))

  frame-put : frame_buffer (row_given logs) bytes buffer ≡ (told logs (frame bytes buffer)).buffer
  unfolding frame_buffer
  frame-put =
      kept_same (λ (l : List ℕ). l) frame_bars buffer (frame_reply (row_given logs) bytes ++ drop 4 buffer)
      (frame_says (joined of-frame (frame_entry bytes)) bytes ++ drop 4 buffer) (λ a. ap (λ (l : List ℕ). l ++ drop 4 buffer) (frame-values a))

  frame-told : outcome (row_given logs) (frame bytes buffer) ≡ told logs (frame bytes buffer)
  frame-told =
      let said = frame-said (row_given logs) bytes buffer ∙ judged-same frame_bars _ _ frame-values in
      λ i. record { said = said i; buffer = frame-put i }

  frame-taken : next (row_given logs) (frame bytes buffer) ≡ row_given (taken logs (frame bytes buffer))
  unfolding frame_row
  frame-taken =
      let row = row_given logs in
      let at = frame_place bytes in
      kept_same row_given frame_bars logs (set row at (board_framed row bytes)) (joins logs at (frame_entry bytes))
      (λ a. ap (set row at) (frame-leaves a) ∙ row-set logs at (joined of-frame (frame_entry bytes)))

-- ---- a listing

-- what a board's journal lists is what the paper says: the last 128 of its latchings
pub listed-is : (l : Log) → journal.listing (board_given l).journal ≡ listing_says l
listed-is l = last-listed (latchings l.plan l.acts)

module _ (logs : List Log) (n : ℕ) (buffer : List ℕ) where
  entries-are : entries_of (row_given logs) n ≡ listing_says (log_at logs (place_of n))
  entries-are = ap (λ (b : Board). journal.listing b.journal) (board-at logs (place_of n)) ∙ listed-is (log_at logs (place_of n))

  list-told : outcome (row_given logs) (listing n buffer) ≡ told logs (listing n buffer)
  unfolding list_buffer
  list-told =
      let rows = list_bars (row_given logs) n buffer in
      let said = list-said (row_given logs) n buffer ∙ ap (λ (es : List journal.Entry). judged rows (length es ∷ [])) entries-are in
      λ i. record { said = said i; buffer = unless_refused rows buffer (journal.words_over (entries-are i) buffer) }

-- ---- whole-stack acts: what the row's summaries say, told of a good row

summary-is : (l : Log) → summary_of (board_given l) ≡ summary_given l
unfolding summary_of
summary-is l =
    let p = l.plan in
    let h = l.acts in
    let by : Bool → Bool → Latches → Summary = λ c d t. record { latched = any_latch t; chg = chg_on c t; dsg = dsg_on d t; count = p.cells; flags = (board_given l).flags } in
    ap₂ (λ (c d : Bool). by c d (latches_of (latches_byte (latches_at p h)))) (may-chg-is p h) (may-dsg-is p h) ∙ ap (by (may_chg p h) (may_dsg p h)) (latches-kept (latches_at p h))

summaries-are : (logs : List Log) → map summary_of (row_given logs) ≡ map summary_given logs
summaries-are [] = refl
summaries-are (l ∷ logs) = ap₂ (λ (s : Summary) (north : List Summary). s ∷ north) (summary-is l) (summaries-are logs)

whole-told : (says : List Summary → List ℕ) (logs : List Log) → good_row (row_given logs) ≡ true → (said : Said) → said ≡ judged (read_bars (row_given logs)) (says (map summary_of (row_given logs)))
    → ◌≡◌ {A = Outcome} (record { said = said; buffer = [] }) (record { said = accepts (says (map summary_given logs)); buffer = [] })
whole-told says logs good said is =
    let row = row_given logs in
    let vs = says (map summary_of row) in
    let read : judged (read_bars row) vs ≡ accepts vs = rw good in
    let all = is ∙ read ∙ ap (λ (boards : List Summary). accepts (says boards)) (summaries-are logs) in
    λ i. record { said = all i; buffer = [] }

-- ---- any act

pub tells : (logs : List Log) → good_row (row_given logs) ≡ true → (a : Act) → outcome (row_given logs) a ≡ told logs a
tells logs good (sample n x mv) = sample-told logs n x mv
tells logs good (frame bytes buffer) = frame-told logs bytes buffer
tells logs good (listing n buffer) = list-told logs n buffer
tells logs good reading = let row = row_given logs in whole-told (λ boards. whole_said (read_of boards)) logs good (view_said (reading_of row)) (reading-judged row)
tells logs good up = let row = row_given logs in whole-told (λ boards. line_said (line_of boards)) logs good (glance_said (up_of row)) (up-said row)

pub gives : (logs : List Log) (a : Act) → next (row_given logs) a ≡ row_given (taken logs a)
gives logs (sample n x mv) = sample-taken logs n x mv
gives logs (frame bytes buffer) = frame-taken logs bytes buffer
gives logs (listing n buffer) = refl
gives logs reading = refl
gives logs up = refl
