-- What is determined of each public function that changes what it is lent, or walks a lent row: the result and every value at exit.
-- Each is cited by its whole contract; that of a routine of stack or of an act for C is the form that its own crate shows it to be.
-- Assumes nothing.
use Prim.Native.Nat.{ℕ, ◌+◌, ◌*◌, ◌≤◌}
use mathlib.Core.Path.{◌≡◌, refl, sym, ◌∙◌}
use mathlib.Core.Bool.{true}
use mathlib.Core.List.{List, [], ◌∷◌}
use lib.IntN.{ℤ}
use lib.ListN.{length, get_or, take}
use contract.Lifetimes.{Lfts}
use denote.RattleType.{RattleType}
use denote.Array.{Array}
use denote.Builtin.{u8, u16, u32, usize, unit}
use denote.Exit.{yes}
use denote.Signature.{Slot, plain, shr_ref_to, mut_slice_of}
use denote.Triple.Clauses.{Ended as Closed, Clauses, closing}
use denote.Triple.End.{Outs, all}
use denote.Triple.Entry.{Args}
use seplogic.Ra.Ura.{Ura}
use base.Logic.{SProp}
use prog.Memory.{Memory}
use prog.Routine.{Routine}
use types.Logic.{Logic}
use contract.Monad.{Fun, fact}
use Rattle.walks.proofs.Form.{Kind, value, shown, handed, behind, Form, Passed}
use Rattle.walks.proofs.Callee.{on_one, on-record, on_row, of-slice}
use Rattle.determined.specs.Determined.{Lent, AtExit, lent_at, Takes, Also, gives, Determined, DeterminedIf}
use Rattle.board.specs.Sample.{sample_of}
use Rattle.frame.specs.Way.{reply_of, buffer_with}
use Rattle.lists.specs.Marks.{marked}
use Rattle.journal.specs.Ring.{entered_all, noted as latched, listing, words_over}
use Rattle.journal.specs.contracts.Journal as Journals
use Rattle.journal.specs.contracts.Journal.enter as journal-enter
use Rattle.journal.specs.contracts.Journal.put_listing as put-listing
use Rattle.registers.specs.Registers.{obeyed_of}
use Rattle.reading.specs.Way.{read_row, line_row}
use Rattle.stack.specs.Open.{open_answer, open_row, open_counts_answer, open_counts_row}
use Rattle.stack.specs.Sample.{sample_answer, sample_row}
use Rattle.stack.specs.Frame.{frame_answer, frame_row, frame_buffer}
use Rattle.stack.specs.List.{list_answer, list_buffer}
use Rattle.stack.specs.Read.{reading_of}
use Rattle.stack.specs.Up.{up_of}
use Rattle.format.specs.Format.{sample, frame, reading, Noted, noted, recordable}
use Rattle.replay.specs.Check.{check_of, check_row}
use Rattle.recorder.specs.Recorder.{begin_recorder, begin_memory, note_recorder, note_memory, answer_of, frame_can}
use Rattle.adomvik.specs.Calls.{open_number, counts_number, sample_number, sample_out, board_number, board_out, frame_number, list_number, read_number, read_out, up_number, up_out}
use Rattle.held.specs.Held.{sampled_of, framed_of, framed_buffer}
use Rattle.held.specs.contracts.Stack as Stack
use Rattle.lines.specs.Way.{emptied_of, Kept, Ended}
use Rattle.lines.specs.contracts.Cutter as Cutter
use Rattle.held.specs.contracts.Stack.sample as sample-held
use Rattle.held.specs.contracts.Stack.frame as frame-held
use Rattle.lines.specs.contracts.Cutter.clear as lines-emptied
use Rattle.lines.specs.contracts.Cutter.keep as lines-keep
use Rattle.lines.specs.contracts.Cutter.end_line as lines-end-line
use Rattle.acts.specs.InPlace.{act_told, act_row}
use Rattle.puts.specs.Put.{Put}
use Rattle.text.specs.Way.{placed}
use Rattle.board.specs.contracts.Board as Board
use Rattle.board.specs.contracts.Readings as Readings
use Rattle.board.specs.contracts.Sampled as Sampled
use Rattle.frame.specs.contracts.Taken as Frame-taken
use Rattle.frame.specs.contracts.Request as Request
use Rattle.frame.specs.contracts.Reply as Reply
use Rattle.reading.specs.contracts.Whole as Whole
use Rattle.reading.specs.contracts.Line as Line
use Rattle.recorder.specs.contracts.Recorder as Recorder
use Rattle.acts.specs.contracts.Act as Act
use Rattle.acts.specs.contracts.Told as Told
use Rattle.std.specs.contracts.result.Result as Result
use Rattle.stack.proofs.Contracts as stack
use Rattle.adomvik.proofs.Contracts as adomvik
use Rattle.frame.specs.contracts.put as frame-put
use Rattle.board.specs.contracts.sample_board as sample-board
use Rattle.registers.specs.contracts.obey_board as obey-board
use Rattle.reading.specs.contracts.read_row as read-row
use Rattle.reading.specs.contracts.line_row as Line-row
use Rattle.stack.specs.contracts.open_row as open-row
use Rattle.stack.specs.contracts.open_counts as open-counts
use Rattle.stack.specs.contracts.sample_stack as sample-stack
use Rattle.stack.specs.contracts.frame_stack as frame-stack
use Rattle.stack.specs.contracts.list_stack as list-stack
use Rattle.stack.specs.contracts.read_stack as read-stack
use Rattle.stack.specs.contracts.up_stack as up-stack
use Rattle.adomvik.specs.contracts.adomvik_open as adomvik-open
use Rattle.adomvik.specs.contracts.adomvik_open_plans as adomvik-open-plans
use Rattle.adomvik.specs.contracts.adomvik_sample as adomvik-sample
use Rattle.adomvik.specs.contracts.adomvik_sample_board as adomvik-sample-board
use Rattle.adomvik.specs.contracts.adomvik_frame as adomvik-frame
use Rattle.adomvik.specs.contracts.adomvik_list as adomvik-list
use Rattle.adomvik.specs.contracts.adomvik_read as adomvik-read
use Rattle.adomvik.specs.contracts.adomvik_up as adomvik-up
use Rattle.replay.specs.contracts.check as check
use Rattle.adomvik.specs.contracts.adomvik_check_row as adomvik-check-row
use Rattle.recorder.specs.contracts.begin as begin
use Rattle.recorder.specs.contracts.note_sample as note-sample
use Rattle.recorder.specs.contracts.note_frame as note-frame
use Rattle.recorder.specs.contracts.note_reading as note-reading
use Rattle.adomvik.specs.contracts.adomvik_begin as adomvik-begin
use Rattle.adomvik.specs.contracts.adomvik_note_sample as adomvik-note-sample
use Rattle.adomvik.specs.contracts.adomvik_note_frame as adomvik-note-frame
use Rattle.adomvik.specs.contracts.adomvik_note_reading as adomvik-note-reading
use Rattle.acts.specs.contracts.act_row as act-row
use Rattle.puts.specs.contracts.put_bytes as put-bytes
use Rattle.text.specs.contracts.put_told as put-told

-- ---- equations determine

pub agree : {A : Type 0} {v r t : A} → r ≡ v → t ≡ v → r ≡ t
agree p q = p ∙ sym q

module _ {n : ℕ} (κs : Lfts n) where
  equal-lent : (ks : List (Kind n)) {P Q : Type 0} (w : Lent ks) (e u : AtExit κs ks) → Also κs ks P w e → Also κs ks Q w u → P × Q × (lent_at κs ks e ≡ lent_at κs ks u)
  equal-lent [] w e u p q = (p, q, refl)
  equal-lent (value R ∷ ks) w e u p q = equal-lent ks w e.1 u.1 p q
  equal-lent (shown j ok R ∷ ks) w e u p q = equal-lent ks w e.1 u.1 p q
  equal-lent (handed j ok R ∷ ks) w e u p q = let rest = equal-lent ks w.1 e.1 u.1 p.1 q.1 in (p.0, q.0, λ i. (agree rest.0 rest.1 i, rest.2 i))
  equal-lent (behind j ok R ∷ ks) w e u p q = let rest = equal-lent ks w.1 e.1 u.1 p.1 q.1 in (p.0, q.0, λ i. (agree rest.0 rest.1 i, rest.2 i))

by-equations : {n : ℕ} (ks : List (Kind n)) (O : RattleType) (result : Takes ks O.Denot) (lent : Takes ks (Lent ks)) (κs : Lfts n) (a : Passed κs ks) (r t : O.Denot) (e u : AtExit κs ks)
    → (gives ks O result lent).says_of κs a r e → (gives ks O result lent).says_of κs a t u → (r ≡ t) × (lent_at κs ks e ≡ lent_at κs ks u)
by-equations ks O result lent κs a r t e u p q = let both = equal-lent κs ks _ e u p q in (agree both.0 both.1, both.2)

-- ---- the public library: open_row, open_counts, sample_stack, frame_stack, list_stack, read_stack

pub open-row-one : Determined stack.open_form (λ M 𝓤 𝓛. open-row.spec 𝓛)
open-row-one = record { cited = λ M 𝓤 𝓛. stack.open-row-says 𝓛; one = by-equations (stack.open_form).params (stack.open_form).result open_answer (λ row plans. (open_row row plans, tt)) }

pub open-counts-one : Determined stack.counts_form (λ M 𝓤 𝓛. open-counts.spec 𝓛)
open-counts-one = record { cited = λ M 𝓤 𝓛. stack.open-counts-says 𝓛; one = by-equations (stack.counts_form).params (stack.counts_form).result open_counts_answer (λ row counts. (open_counts_row row counts, tt)) }

pub sample-stack-one : Determined stack.sample_form (λ M 𝓤 𝓛. sample-stack.spec 𝓛)
sample-stack-one = record { cited = λ M 𝓤 𝓛. stack.sample-stack-says 𝓛; one = by-equations (stack.sample_form).params (stack.sample_form).result sample_answer (λ row n x mv. (sample_row row n x mv, tt)) }

pub frame-stack-one : Determined stack.frame_form (λ M 𝓤 𝓛. frame-stack.spec 𝓛)
frame-stack-one = record { cited = λ M 𝓤 𝓛. stack.frame-stack-says 𝓛; one = by-equations (stack.frame_form).params (stack.frame_form).result frame_answer (λ row bytes buffer. (frame_row row bytes buffer, (frame_buffer row bytes buffer, tt))) }

pub list-stack-one : Determined stack.list_form (λ M 𝓤 𝓛. list-stack.spec 𝓛)
list-stack-one = record { cited = λ M 𝓤 𝓛. stack.list-stack-says 𝓛; one = by-equations (stack.list_form).params (stack.list_form).result list_answer (λ row n words. (list_buffer row n words, tt)) }

pub read-stack-one : Determined stack.read_form (λ M 𝓤 𝓛. read-stack.spec 𝓛)
read-stack-one = record { cited = λ M 𝓤 𝓛. stack.read-stack-says 𝓛; one = by-equations (stack.read_form).params (stack.read_form).result reading_of (λ row. tt) }

pub up-stack-one : Determined stack.up_form (λ M 𝓤 𝓛. up-stack.spec 𝓛)
up-stack-one = record { cited = λ M 𝓤 𝓛. stack.up-stack-says 𝓛; one = by-equations (stack.up_form).params (stack.up_form).result up_of (λ row. tt) }

-- ---- the acts for C

pub adomvik-open-one : Determined adomvik.open_form (λ M 𝓤 𝓛. adomvik-open.spec 𝓛)
adomvik-open-one = record { cited = λ M 𝓤 𝓛. adomvik.open-says 𝓛; one = by-equations (adomvik.open_form).params u8 counts_number (λ row counts. (open_counts_row row counts, tt)) }

pub adomvik-open-plans-one : Determined adomvik.plans_form (λ M 𝓤 𝓛. adomvik-open-plans.spec 𝓛)
adomvik-open-plans-one = record { cited = λ M 𝓤 𝓛. adomvik.open-plans-says 𝓛; one = by-equations (adomvik.plans_form).params u8 open_number (λ row plans. (open_row row plans, tt)) }

pub adomvik-sample-one : Determined adomvik.sample_form (λ M 𝓤 𝓛. adomvik-sample.spec 𝓛)
adomvik-sample-one = record { cited = λ M 𝓤 𝓛. adomvik.sample-says 𝓛; one = by-equations (adomvik.sample_form).params u8 (λ row n x mv out. sample_number row n x mv) (λ row n x mv out. (sample_row row n x mv, (sample_out row n x mv out, tt))) }

pub adomvik-sample-board-one : Determined adomvik.board_form (λ M 𝓤 𝓛. adomvik-sample-board.spec 𝓛)
adomvik-sample-board-one = record { cited = λ M 𝓤 𝓛. adomvik.sample-board-says 𝓛; one = by-equations (adomvik.board_form).params u8 (λ b x mv out. board_number b x mv) (λ b x mv out. ((sample_of b x mv).board, (board_out b x mv out, tt))) }

pub adomvik-frame-one : Determined adomvik.frame_form (λ M 𝓤 𝓛. adomvik-frame.spec 𝓛)
adomvik-frame-one = record { cited = λ M 𝓤 𝓛. adomvik.frame-says 𝓛; one = by-equations (adomvik.frame_form).params u8 frame_number (λ row bytes buffer. (frame_row row bytes buffer, (frame_buffer row bytes buffer, tt))) }

pub adomvik-list-one : Determined adomvik.list_form (λ M 𝓤 𝓛. adomvik-list.spec 𝓛)
adomvik-list-one = record { cited = λ M 𝓤 𝓛. adomvik.list-says 𝓛; one = by-equations (adomvik.list_form).params u32 list_number (λ row n words. (list_buffer row n words, tt)) }

pub adomvik-read-one : Determined adomvik.read_form (λ M 𝓤 𝓛. adomvik-read.spec 𝓛)
adomvik-read-one = record { cited = λ M 𝓤 𝓛. adomvik.read-says 𝓛; one = by-equations (adomvik.read_form).params u8 (λ row out. read_number row) (λ row out. (read_out row out, tt)) }

pub adomvik-up-one : Determined adomvik.up_form (λ M 𝓤 𝓛. adomvik-up.spec 𝓛)
adomvik-up-one = record { cited = λ M 𝓤 𝓛. adomvik.up-says 𝓛; one = by-equations (adomvik.up_form).params u8 (λ row out. up_number row) (λ row out. (up_out row out, tt)) }

-- ---- a recording checked, by the library and for C: what is told, and the row

pub check-one : Determined adomvik.check_form (λ M 𝓤 𝓛. check.spec 𝓛)
check-one = record { cited = λ M 𝓤 𝓛 mem run. refl; one = by-equations (adomvik.check_form).params (adomvik.check_form).result check_of (λ row bytes. (check_row row bytes, tt)) }

pub adomvik-check-row-one : Determined adomvik.check_form (λ M 𝓤 𝓛. adomvik-check-row.spec 𝓛)
adomvik-check-row-one = record { cited = λ M 𝓤 𝓛. adomvik.check-row-says 𝓛; one = check-one.one }

-- ---- a recording, by the library and for C: the recorder, and the memory

abbrev begin_form : Form
begin_form = gives {n = 2} (handed 0 tt u8 ∷ shown 1 tt u32 ∷ []) Recorder.the_row (λ memory plans. begin_recorder plans (length memory)) (λ memory plans. (begin_memory plans memory, tt))

pub begin-one : Determined begin_form (λ M 𝓤 𝓛. begin.spec 𝓛)
begin-one = record { cited = λ M 𝓤 𝓛 mem run. refl; one = by-equations begin_form.params Recorder.the_row (λ memory plans. begin_recorder plans (length memory)) (λ memory plans. (begin_memory plans memory, tt)) }

pub adomvik-begin-one : Determined begin_form (λ M 𝓤 𝓛. adomvik-begin.spec 𝓛)
adomvik-begin-one = record { cited = λ M 𝓤 𝓛 mem run. refl; one = begin-one.one }

abbrev sample_noted : ℕ → ℕ → ℕ → ℕ → ℤ → List ℕ → ℕ → ℕ → ℕ → Noted
sample_noted board elapsed load thermistor shunt cells number status bled = noted (sample board elapsed load thermistor shunt cells) (answer_of number (status ∷ bled ∷ []))

abbrev readings_form : Form
readings_form = gives {n = 2}
    (value Recorder.the_row ∷ handed 0 tt u8 ∷ value u32 ∷ value Readings.the_row ∷ shown 1 tt u32 ∷ value u8 ∷ value u8 ∷ value u16 ∷ []) Recorder.the_row
    (λ r memory board x cells number status bled. note_recorder r (recordable (sample board x.elapsed x.load x.thermistor x.shunt cells)) (sample_noted board x.elapsed x.load x.thermistor x.shunt cells number status bled) (length memory))
    (λ r memory board x cells number status bled. (note_memory r (recordable (sample board x.elapsed x.load x.thermistor x.shunt cells)) (sample_noted board x.elapsed x.load x.thermistor x.shunt cells number status bled) memory, tt))

pub note-sample-one : Determined readings_form (λ M 𝓤 𝓛. note-sample.spec 𝓛)
note-sample-one = record {
  cited = λ M 𝓤 𝓛 mem run. refl;
  one = by-equations readings_form.params Recorder.the_row
      (λ r memory board x cells number status bled. note_recorder r (recordable (sample board x.elapsed x.load x.thermistor x.shunt cells)) (sample_noted board x.elapsed x.load x.thermistor x.shunt cells number status bled) (length memory))
      (λ r memory board x cells number status bled. (note_memory r (recordable (sample board x.elapsed x.load x.thermistor x.shunt cells)) (sample_noted board x.elapsed x.load x.thermistor x.shunt cells number status bled) memory, tt));
}

pub adomvik-note-sample-one : Determined readings_form (λ M 𝓤 𝓛. adomvik-note-sample.spec 𝓛)
adomvik-note-sample-one = record { cited = λ M 𝓤 𝓛 mem run. refl; one = note-sample-one.one }

abbrev note_frame_form : Form
note_frame_form = gives {n = 3} (value Recorder.the_row ∷ handed 0 tt u8 ∷ shown 1 tt u8 ∷ shown 2 tt u8 ∷ value u8 ∷ []) Recorder.the_row
    (λ r memory bytes reply number. note_recorder r (frame_can bytes reply) (noted (frame bytes) (answer_of number (take 4 reply))) (length memory))
    (λ r memory bytes reply number. (note_memory r (frame_can bytes reply) (noted (frame bytes) (answer_of number (take 4 reply))) memory, tt))

pub note-frame-one : Determined note_frame_form (λ M 𝓤 𝓛. note-frame.spec 𝓛)
note-frame-one = record {
  cited = λ M 𝓤 𝓛 mem run. refl;
  one = by-equations note_frame_form.params Recorder.the_row
      (λ r memory bytes reply number. note_recorder r (frame_can bytes reply) (noted (frame bytes) (answer_of number (take 4 reply))) (length memory))
      (λ r memory bytes reply number. (note_memory r (frame_can bytes reply) (noted (frame bytes) (answer_of number (take 4 reply))) memory, tt));
}

pub adomvik-note-frame-one : Determined note_frame_form (λ M 𝓤 𝓛. adomvik-note-frame.spec 𝓛)
adomvik-note-frame-one = record { cited = λ M 𝓤 𝓛 mem run. refl; one = note-frame-one.one }

-- the five numbers of a reading come as one array, and for C one by one
abbrev seen_form : Form
seen_form = gives {n = 1} (value Recorder.the_row ∷ handed 0 tt u8 ∷ value u8 ∷ value (Array u8 5) ∷ []) Recorder.the_row
    (λ r memory number seen. note_recorder r true (noted reading (answer_of number seen)) (length memory))
    (λ r memory number seen. (note_memory r true (noted reading (answer_of number seen)) memory, tt))

pub note-reading-one : Determined seen_form (λ M 𝓤 𝓛. note-reading.spec 𝓛)
note-reading-one = record {
  cited = λ M 𝓤 𝓛 mem run. refl;
  one = by-equations seen_form.params Recorder.the_row
      (λ r memory number seen. note_recorder r true (noted reading (answer_of number seen)) (length memory))
      (λ r memory number seen. (note_memory r true (noted reading (answer_of number seen)) memory, tt));
}

abbrev note_reading_form : Form
note_reading_form = gives {n = 1} (value Recorder.the_row ∷ handed 0 tt u8 ∷ value u8 ∷ value u8 ∷ value u8 ∷ value u8 ∷ value u8 ∷ value u8 ∷ []) Recorder.the_row
    (λ r memory number line chg dsg board cell. note_recorder r true (noted reading (answer_of number (line ∷ chg ∷ dsg ∷ board ∷ cell ∷ []))) (length memory))
    (λ r memory number line chg dsg board cell. (note_memory r true (noted reading (answer_of number (line ∷ chg ∷ dsg ∷ board ∷ cell ∷ []))) memory, tt))

pub adomvik-note-reading-one : Determined note_reading_form (λ M 𝓤 𝓛. adomvik-note-reading.spec 𝓛)
adomvik-note-reading-one = record {
  cited = λ M 𝓤 𝓛 mem run. refl;
  one = by-equations note_reading_form.params Recorder.the_row
      (λ r memory number line chg dsg board cell. note_recorder r true (noted reading (answer_of number (line ∷ chg ∷ dsg ∷ board ∷ cell ∷ []))) (length memory))
      (λ r memory number line chg dsg board cell. (note_memory r true (noted reading (answer_of number (line ∷ chg ∷ dsg ∷ board ∷ cell ∷ []))) memory, tt));
}

-- ---- below and beside the library

-- a journal after the latchings of a sample
abbrev enter_form : Form
enter_form = record {
  lifetimes = 1;
  params = behind 0 tt Journals.the_row ∷ value u16 ∷ value (Array u8 5) ∷ value u32 ∷ [];
  result = unit;
  says_of = λ κs a r e. e.0.now ≡ entered_all a.0.now (latched (marked a.1.0) (λ k. get_or a.1.1.0 k 0) a.1.1.1.0 0 5);
}

pub journal-enter-one : Determined enter_form (λ M 𝓤 𝓛. journal-enter.spec 𝓛)
journal-enter-one = record { cited = λ M 𝓤 𝓛 mem run. refl; one = λ κs a r t e u p q. (refl, λ i. (agree p q i, tt)) }

-- how many entries, and the buffer, which has room for them. The journal is lent to be read, a kind that no form has: its signature stands here
abbrev listing_slots : List (Slot 2)
listing_slots = shr_ref_to (0 ∷ []) tt (plain (λ _. Journals.the_row)) ∷ mut_slice_of (1 ∷ []) tt (plain (λ _. u32)) ∷ []

abbrev listing_ended : Closed
listing_ended = record { signature = record { lifetimes = 2; outlives = []; params = listing_slots; result = plain (λ _. usize) }; kept = all yes listing_slots }

abbrev lists_so : (κs : Lfts 2) → Args listing_ended.signature κs → ℕ → Outs κs listing_slots (all yes listing_slots) → Type 0
lists_so κs a r e = (r ≡ length (listing a.0.now)) × (e.1.0.now ≡ words_over (listing a.0.now) a.1.0.now)

abbrev listing_clauses : {M : Type 1} (𝓤 : Ura M) → Clauses 𝓤 listing_ended
listing_clauses 𝓤 κs a = record { ghost = Unit {0}; requires = λ _. fact 𝓤 (3 * length (listing a.0.now) ≤ length a.1.0.now); ensures = λ _ r e. fact 𝓤 (lists_so κs a r e) }

pub record ListingDetermined : Type 2 where
  pub cited : (M : Type 1) (𝓤 : Ura M) (𝓛 : Logic 𝓤) (mem : Memory → SProp 𝓤) (run : Routine → Fun 𝓤) → put-listing.spec 𝓛 mem run ≡ closing 𝓛 listing_ended (listing_clauses 𝓤)
  pub one : (κs : Lfts 2) (a : Args listing_ended.signature κs) (r t : ℕ) (e u : Outs κs listing_slots (all yes listing_slots)) → lists_so κs a r e → lists_so κs a t u → (r ≡ t) × (e.1.0.now ≡ u.1.0.now)

pub put-listing-one : ListingDetermined
put-listing-one = record { cited = λ M 𝓤 𝓛 mem run. refl; one = λ κs a r t e u p q. (agree p.0 q.0, agree p.1 q.1) }

-- the place after what is put, and the buffer, which has room for it
abbrev put_bytes_form : Form
put_bytes_form = record {
  lifetimes = 2;
  params = handed 0 tt u8 ∷ value usize ∷ shown 1 tt u8 ∷ [];
  result = usize;
  says_of = λ κs a r e. Put a.1.0 a.1.1.0.now a.0.now e.0.now r;
}

pub put-bytes-one : DeterminedIf put_bytes_form (λ κs a. a.1.0 + length a.1.1.0.now ≤ length a.0.now) (λ M 𝓤 𝓛. put-bytes.spec 𝓛)
put-bytes-one = record { cited = λ M 𝓤 𝓛 mem run. refl; one = λ κs a r t e u p q. (agree p.after q.after, λ i. (agree p.whole q.whole i, tt)) }

-- the reply, and the buffer, which has room for it
abbrev put_form : Form
put_form = gives {n = 1} (handed 0 tt u8 ∷ value Frame-taken.the_row ∷ value (stack.answer_row u8) ∷ []) (stack.answer_row Reply.the_row) (λ buffer. reply_of) (λ buffer taken outcome. (buffer_with buffer (reply_of taken outcome), tt))

pub frame-put-one : DeterminedIf put_form (λ κs a. 4 ≤ length a.0.now) (λ M 𝓤 𝓛. frame-put.spec 𝓛)
frame-put-one = record { cited = λ M 𝓤 𝓛 mem run. refl; one = by-equations put_form.params (stack.answer_row Reply.the_row) (λ buffer. reply_of) (λ buffer taken outcome. (buffer_with buffer (reply_of taken outcome), tt)) }

-- the answer, and the record
abbrev sample_board_form : Form
sample_board_form = on-record (stack.answer_row Sampled.the_row) Board.the_row Readings.the_row u32 (λ b x mv. (sample_of b x mv).answer) (λ b x mv. (sample_of b x mv).board)

pub sample-board-one : Determined sample_board_form (λ M 𝓤 𝓛. sample-board.spec 𝓛)
sample-board-one = record { cited = λ M 𝓤 𝓛 mem run. refl; one = by-equations sample_board_form.params (stack.answer_row Sampled.the_row) (λ b x mv. (sample_of b x mv).answer) (λ b x mv. ((sample_of b x mv).board, tt)) }

-- the outcome, and the record
abbrev obey_form : Form
obey_form = on_one (stack.answer_row u8) Board.the_row Request.the_row (λ b asked. (obeyed_of b asked).outcome) (λ b asked. (obeyed_of b asked).board)

pub obey-board-one : Determined obey_form (λ M 𝓤 𝓛. obey-board.spec 𝓛)
obey-board-one = record { cited = λ M 𝓤 𝓛 mem run. refl; one = by-equations obey_form.params (stack.answer_row u8) (λ b asked. (obeyed_of b asked).outcome) (λ b asked. ((obeyed_of b asked).board, tt)) }

-- the reading of a row, which is only read
abbrev read_row_form : Form
read_row_form = of-slice Whole.the_row Board.the_row read_row

pub read-row-one : Determined read_row_form (λ M 𝓤 𝓛. read-row.spec 𝓛)
read-row-one = record { cited = λ M 𝓤 𝓛 mem run. refl; one = by-equations read_row_form.params Whole.the_row read_row (λ row. tt) }

-- the fault line of a row, which is only read
abbrev line_row_form : Form
line_row_form = of-slice Line.the_row Board.the_row line_row

pub line-row-one : Determined line_row_form (λ M 𝓤 𝓛. Line-row.spec 𝓛)
line-row-one = record { cited = λ M 𝓤 𝓛 mem run. refl; one = by-equations line_row_form.params Line.the_row line_row (λ row. tt) }

-- what is told, and the row
abbrev act_form : Form
act_form = on_row (stack.answer_row Told.the_row) Board.the_row Act.the_row act_told act_row

pub act-row-one : Determined act_form (λ M 𝓤 𝓛. act-row.spec 𝓛)
act-row-one = record { cited = λ M 𝓤 𝓛 mem run. refl; one = by-equations act_form.params (stack.answer_row Told.the_row) act_told (λ row a. (act_row row a, tt)) }

-- the answer, and the stack
abbrev sample_held_form : Form
sample_held_form = gives {n = 2} (behind 0 tt Stack.the_row ∷ value u32 ∷ value Readings.the_row ∷ shown 1 tt u32 ∷ []) (stack.answer_row Sampled.the_row)
    (λ s board x mv. (sampled_of s board x mv).answer) (λ s board x mv. ((sampled_of s board x mv).stack, tt))

pub held-sample-held-one : Determined sample_held_form (λ M 𝓤 𝓛. sample-held.spec 𝓛)
held-sample-held-one = record { cited = λ M 𝓤 𝓛 mem run. refl; one = by-equations sample_held_form.params (stack.answer_row Sampled.the_row) (λ s board x mv. (sampled_of s board x mv).answer) (λ s board x mv. ((sampled_of s board x mv).stack, tt)) }

-- the answer, the stack and the buffer
abbrev frame_held_form : Form
frame_held_form = gives {n = 3} (behind 0 tt Stack.the_row ∷ shown 1 tt u8 ∷ handed 2 tt u8 ∷ []) (stack.answer_row Reply.the_row)
    (λ s bytes buffer. (framed_of s bytes buffer).answer) (λ s bytes buffer. ((framed_of s bytes buffer).stack, (framed_buffer s bytes buffer, tt)))

pub frame-held-one : Determined frame_held_form (λ M 𝓤 𝓛. frame-held.spec 𝓛)
frame-held-one = record { cited = λ M 𝓤 𝓛 mem run. refl; one = by-equations frame_held_form.params (stack.answer_row Reply.the_row) (λ s bytes buffer. (framed_of s bytes buffer).answer) (λ s bytes buffer. ((framed_of s bytes buffer).stack, (framed_buffer s bytes buffer, tt))) }

-- a cutter after it is emptied, keeps a block, or ends its line
abbrev emptied_form : Form
emptied_form = record { lifetimes = 1; params = behind 0 tt Cutter.the_row ∷ []; result = unit; says_of = λ κs a r e. e.0.now ≡ emptied_of a.0.now }

pub lines-emptied-one : Determined emptied_form (λ M 𝓤 𝓛. lines-emptied.spec 𝓛)
lines-emptied-one = record { cited = λ M 𝓤 𝓛 mem run. refl; one = λ κs a r t e u p q. (refl, λ i. (agree p q i, tt)) }

abbrev keep_form : Form
keep_form = record { lifetimes = 2; params = behind 0 tt Cutter.the_row ∷ shown 1 tt u8 ∷ []; result = unit; says_of = λ κs a r e. Kept a.0.now a.1.0.now e.0.now }

pub lines-keep-one : Determined keep_form (λ M 𝓤 𝓛. lines-keep.spec 𝓛)
lines-keep-one = record { cited = λ M 𝓤 𝓛 mem run. refl; one = λ κs a r t e u p q. (refl, λ i. (agree p.whole q.whole i, tt)) }

abbrev end_form : Form
end_form = record { lifetimes = 1; params = behind 0 tt Cutter.the_row ∷ []; result = unit; says_of = λ κs a r e. Ended a.0.now e.0.now }

pub lines-end-line-one : Determined end_form (λ M 𝓤 𝓛. lines-end-line.spec 𝓛)
lines-end-line-one = record { cited = λ M 𝓤 𝓛 mem run. refl; one = λ κs a r t e u p q. (refl, λ i. (agree p.whole q.whole i, tt)) }

-- the place after what is printed, and the buffer
abbrev put_told_form : Form
put_told_form = record {
  lifetimes = 1;
  params = handed 0 tt u8 ∷ value usize ∷ value (Result.the_row Told.the_row u8) ∷ [];
  result = usize;
  says_of = λ κs a r e. let out = a.0.now in let at = a.1.0 in Put at (placed (length out) at a.1.1.0) out e.0.now r;
}

pub put-told-one : Determined put_told_form (λ M 𝓤 𝓛. put-told.spec 𝓛)
put-told-one = record { cited = λ M 𝓤 𝓛 mem run. refl; one = λ κs a r t e u p q. (agree p.after q.after, λ i. (agree p.whole q.whole i, tt)) }
