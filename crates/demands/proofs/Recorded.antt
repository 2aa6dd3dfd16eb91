-- A recorder beside the acts of a day keeps what is told (02, ticket 10).
-- Assumes nothing.
use Prim.Native.Nat.{ℕ, ◌+◌, ◌≤◌}
use native.Mathlib.Omega.{arith}
use mathlib.Core.Path.{◌≡◌, refl, sym, ap, ap₂, ◌∙◌, subst}
use mathlib.Core.Bool.{Bool, true, false, true≢false, cond, not, ◌&&◌, ◌||◌, or-false, or-true}
use mathlib.Core.List.{List, [], ◌∷◌, ◌++◌}
use lib.Dec.{eqb, leb}
use lib.ListN.{length, take, drop, replicate, length-append, length-drop, length-replicate}
use lib.Seq.{sets, sets-eq}
use borrow.Author.Tests.{eqb-true, ltb-false, le-ltb, lt-leb}
use Rattle.lists.proofs.Split.{split}
use Rattle.refusal.specs.Said.{value, Bar, bar, first, judged, unless_refused}
use Rattle.frame.specs.Reply.{reply_bytes}
use Rattle.format.specs.Format as format
use Rattle.format.proofs.Sizes.{recording-length}
use Rattle.format.proofs.Grows.{more-length, few-acts, grows}
use Rattle.board.specs.declared.Board.{Board}
use Rattle.board.specs.Sample.{fresh}
use Rattle.stack.specs.Open.{bad_plans}
use Rattle.stack.specs.Frame.{frame_place, frame_row_bars}
use Rattle.recorder.specs.declared.Recorder.{Recorder}
use Rattle.recorder.specs.Recorder.{end, boards_of, opening, has_garden, begin_bars, never_begun, note_bars, after, begin_recorder, begin_memory, note_recorder, note_memory, note_other, answer_of}
use Rattle.recorder.proofs.Verdicts.{verdict-is}
use Rattle.recorder.proofs.Notes.{note-barred}
use Rattle.demands.specs.Acts.{Act, sample, frame, listing, reading, up, bars, next, final, answers}
use Rattle.demands.specs.Demands.{Log, begun, log_at, joined, row_given, frame_entry, taken, frame_says, told, opens}
use Rattle.demands.specs.Recorded.{sent_of, can_record, Desk, desk, handed, can, recorder_after, memory_after, noting, verdict, Day, day, bytes_of, passes, began, says, later, stands, Recorded}
use Rattle.demands.proofs.Table.{none_is}
use Rattle.demands.proofs.Tells.{tells, gives}
use Rattle.demands.proofs.Demanded.{good_of, good-plans, same-plans, begun-plans, opens-fine, opens-good, opened-given}
use Rattle.demands.specs.Refused.{plans_of}

neither : (a b : Bool) → (a || b) ≡ false → b ≡ false
neither false b e = e
neither true b e = absurd (true≢false e)

-- ---- the answer as it is handed on is the one that was said

two_said : (rows : List Bar) (x y : ℕ) → let s = judged rows (x ∷ y ∷ []) in answer_of s.number (value 0 s ∷ value 1 s ∷ []) ≡ s
two_said rows x y = split (eqb (first rows) 0) (λ e. rw e) (λ e. rw (e, e))

frame-said : (rows : List Bar) (address register v : ℕ) (buffer : List ℕ) →
    let reply = reply_bytes address register v in
    answer_of (judged rows reply).number (take 4 (unless_refused rows buffer (reply ++ drop 4 buffer))) ≡ judged rows reply
frame-said rows address register v buffer = split (eqb (first rows) 0) (λ e. rw e) (λ e. rw (e, e))

-- an accepted frame had room for its reply, so its buffer is as long after it
had-room : (row : List Board) (bytes buffer : List ℕ) → eqb (first (frame_row_bars row bytes buffer)) 0 ≡ true → 4 ≤ length buffer
had-room row bytes buffer e =
    let rows = frame_row_bars row bytes buffer in
    ltb-false (length buffer) 4 (none_is rows refl (eqb-true (first rows) 0 e)).1.1.0

as_long : (rows : List Bar) (reply buffer : List ℕ) → length reply ≡ 4 → (eqb (first rows) 0 ≡ true → 4 ≤ length buffer) → length (unless_refused rows buffer (reply ++ drop 4 buffer)) ≡ length buffer
as_long rows reply buffer four room =
    split (eqb (first rows) 0)
    (λ e. rw e (length-append reply (drop 4 buffer) ∙ omega (arith, four, length-drop 4 buffer, room e)))
    (λ e. rw e)

module _ (logs : List Log) where
  handed-is : (a : Act) → handed a (told logs a) ≡ (told logs a).said
  handed-is (sample n x mv) = two_said (bars (row_given logs) (sample n x mv)) _ _
  handed-is (frame bytes buffer) = frame-said (bars (row_given logs) (frame bytes buffer)) _ _ _ buffer
  handed-is (listing n buffer) = refl
  handed-is reading = refl
  handed-is up = refl

  can-is : (a : Act) → can a (told logs a) ≡ can_record a
  can-is (sample n x mv) = refl
  can-is (frame bytes buffer) =
      ap (λ (n : ℕ). format.recordable (format.frame bytes) && leb 4 n) (as_long (bars (row_given logs) (frame bytes buffer)) (frame_says (joined (log_at logs (frame_place bytes)) (frame_entry bytes)) bytes) buffer refl (had-room (row_given logs) bytes buffer))
  can-is (listing n buffer) = refl
  can-is reading = refl
  can-is up = refl

-- ---- one act noted: all kinds alike
abbrev lastly : List Log → Act → format.Noted
lastly logs a = format.noted (sent_of a) (told logs a).said

module _ (logs : List Log) (r : Recorder) (memory : List ℕ) where
  told-recorder : (a : Act) → recorder_after r a (told logs a) (length memory) ≡ note_recorder r (can_record a) (lastly logs a) (length memory)
  told-recorder (sample n x mv) = rw (handed-is logs (sample n x mv))
  told-recorder (frame bytes buffer) = rw (can-is logs (frame bytes buffer), handed-is logs (frame bytes buffer))
  told-recorder (listing n buffer) = (note-barred r (note_other r) false (lastly logs (listing n buffer)) memory refl refl).0
  told-recorder reading = refl
  told-recorder up = (note-barred r (note_other r) false (lastly logs up) memory refl refl).0

  told-memory : (a : Act) → memory_after r a (told logs a) memory ≡ note_memory r (can_record a) (lastly logs a) memory
  told-memory (sample n x mv) = rw (handed-is logs (sample n x mv))
  told-memory (frame bytes buffer) = rw (can-is logs (frame bytes buffer), handed-is logs (frame bytes buffer))
  told-memory (listing n buffer) = (note-barred r (note_other r) false (lastly logs (listing n buffer)) memory refl refl).1
  told-memory reading = refl
  told-memory up = (note-barred r (note_other r) false (lastly logs up) memory refl refl).1

noting-told : (logs : List Log) → good_of (plans_of logs) ≡ true → (r : Recorder) (memory : List ℕ) (a : Act)
    → noting (desk (row_given logs) r memory) a ≡ desk (row_given (taken logs a)) (note_recorder r (can_record a) (lastly logs a) (length memory)) (note_memory r (can_record a) (lastly logs a) memory)
noting-told logs good r memory a =
    rw (tells logs (good-plans logs ∙ good) a, gives logs a, told-recorder logs r memory a, told-memory logs r memory a)

-- ---- a relation of recorder and memory with the acts kept so far that holds on at every note, with the same verdict, holds through the day
module _ (plans : List ℕ) (lent : ℕ) where
  abbrev judges : List format.Noted → Bool → Bool → format.Noted → ℕ
  judges kept full able n = first (bar 15 (has_garden plans || not able) ∷ bar 16 (full || passes plans lent (kept ++ (n ∷ []))) ∷ [])

  abbrev State : Type 1
  State = Recorder → List ℕ → List format.Noted → Bool → Type 0

  abbrev HoldsOn : State → Type 0
  HoldsOn R = (r : Recorder) (memory : List ℕ) (kept : List format.Noted) (full able : Bool) (n : format.Noted) → R r memory kept full
      → let v = judges kept full able n in
      ((note_recorder r able n (length memory)).verdict ≡ v)
      × R (note_recorder r able n (length memory)) (note_memory r able n memory) (cond (eqb v 0) (kept ++ (n ∷ [])) kept) (full || eqb v 16)

  module _ (R : State) (on : HoldsOn R) where
    pub record Through (d : Desk) (y : Day) (acts : List Act) : Type 0 where
      pub verdicts : answers noting verdict d acts ≡ answers (later plans lent) (says plans lent) y acts
      pub holds : let e = final noting d acts in let z = final (later plans lent) y acts in R e.recorder e.memory z.kept z.full
      pub row : (final noting d acts).row ≡ final next d.row acts

    through : (logs : List Log) → good_of (plans_of logs) ≡ true → (r : Recorder) (memory : List ℕ) (kept : List format.Noted) (full : Bool) → R r memory kept full → (acts : List Act)
        → Through (desk (row_given logs) r memory) (day logs kept full) acts
    through logs good r memory kept full holds [] = record { verdicts = refl; holds = holds; row = refl }
    through logs good r memory kept full holds (a ∷ acts) =
        let step = on r memory kept full (can_record a) (lastly logs a) holds in
        let is = noting-told logs good r memory a in
        let z = final (later plans lent) (later plans lent (day logs kept full) a) acts in
        let rest = through (taken logs a) (ap good_of (same-plans logs a) ∙ good) _ _ _ _ step.1 acts in
        record {
          verdicts = ap₂ (λ (v : ℕ) (vs : List ℕ). v ∷ vs) (ap (λ (d : Desk). d.recorder.verdict) is ∙ step.0) (ap (λ (d : Desk). answers noting verdict d acts) is ∙ rest.verdicts);
          holds = subst (λ (d : Desk). R (final noting d acts).recorder (final noting d acts).memory z.kept z.full) (sym is) rest.holds;
          row = ap (λ (d : Desk). (final noting d acts).row) is ∙ rest.row ∙ ap (λ (row : List Board). final next row acts) (sym (gives logs a));
        }

  -- ---- a garden board in the stack: nothing is ever recorded, and every act gets 15
  abbrev Barred : List ℕ → State
  Barred old r memory kept full = (r.stopped ≡ 15) × (memory ≡ old)

  barred-on : has_garden plans ≡ true → (old : List ℕ) → HoldsOn (Barred old)
  unfolding note_recorder note_memory
  barred-on garden old r memory kept full able n (stop, same) = rw (stop, garden) (refl, (refl, same))

  -- ---- no room for the header: what can be recorded gets 16, and the rest 15
  abbrev Lost : List ℕ → State
  Lost old r memory kept full = (r.stopped ≡ 16) × (memory ≡ old) × (full ≡ true)

  lost-on : has_garden plans ≡ false → (old : List ℕ) → HoldsOn (Lost old)
  unfolding note_recorder note_memory
  lost-on none old r memory kept full true n (stop, same, was) = rw (stop, none, was) (refl, (refl, same, refl))
  lost-on none old r memory kept full false n (stop, same, was) = rw (stop, none, was) (refl, (refl, same, refl))

  -- ---- a recording that runs: what stands in memory is the encoding of the acts kept, and the recorder says where it ends
  pub record Runs (old : List ℕ) (r : Recorder) (memory : List ℕ) (kept : List format.Noted) (full : Bool) : Type 0 where
    pub used : r.used ≡ length (bytes_of plans kept)
    pub acts : r.acts ≡ length kept
    pub stop : r.stopped ≡ cond full 16 0
    pub holds : memory ≡ bytes_of plans kept ++ drop (length (bytes_of plans kept)) old
    pub inside : length (bytes_of plans kept) ≤ end lent

  module _ (none : has_garden plans ≡ false) (old : List ℕ) (long : length old ≡ lent) where
    -- as long as it was lent
    same-room : (r : Recorder) (memory : List ℕ) (kept : List format.Noted) (full : Bool) → Runs old r memory kept full → length memory ≡ lent
    same-room r memory kept full h =
        ap length h.holds ∙ length-append (bytes_of plans kept) (drop (length (bytes_of plans kept)) old)
        ∙ omega (arith, length-drop (length (bytes_of plans kept)) old, h.inside, long)

    -- behind its header, and with a number for the next act
    fine : (r : Recorder) (memory : List ℕ) (kept : List format.Noted) (full : Bool) → Runs old r memory kept full → never_begun r ≡ false
    fine r memory kept full h =
        let whole = recording-length (boards_of plans) kept in
        rw (le-ltb r.used 8 (omega (arith, h.used, whole)), lt-leb 65535 r.acts (omega (arith, h.acts, h.used, h.inside, whole, few-acts kept)))

    -- the verdict is the one told
    same-verdict : (r : Recorder) (memory : List ℕ) (kept : List format.Noted) (full able : Bool) (n : format.Noted) → Runs old r memory kept full
        → first (note_bars r able (length (format.act_bytes n)) (length memory)) ≡ judges kept full able n
    same-verdict r memory kept full able n h =
        let sum : length (bytes_of plans (kept ++ (n ∷ []))) ≡ r.used + length (format.act_bytes n) = more-length (boards_of plans) kept n ∙ ap (λ (k : ℕ). k + length (format.act_bytes n)) (sym h.used) in
        by full h.stop (same-room r memory kept full h) (fine r memory kept full h) sum
      where
        by : (b : Bool) → r.stopped ≡ cond b 16 0 → length memory ≡ lent → never_begun r ≡ false → length (bytes_of plans (kept ++ (n ∷ []))) ≡ r.used + length (format.act_bytes n)
            → first (note_bars r able (length (format.act_bytes n)) (length memory)) ≡ judges kept b able n
        by true stop room begins sum = rw (stop, none)
        by false stop room begins sum = rw (stop, none, room, begins, sum)

    -- and what it leaves: at 15 all as it was, at 16 stopped, at 0 one act more
    at-15 : (r : Recorder) (memory : List ℕ) (kept : List format.Noted) (full : Bool) (size : ℕ) → Runs old r memory kept full → Runs old (after r size 15) memory kept (full || false)
    at-15 r memory kept full size h =
        record { used = h.used; acts = h.acts; stop = rw (or-false full) h.stop; holds = h.holds; inside = h.inside }

    at-16 : (r : Recorder) (memory : List ℕ) (kept : List format.Noted) (full : Bool) (size : ℕ) → Runs old r memory kept full → Runs old (after r size 16) memory kept (full || true)
    at-16 r memory kept full size h =
        record { used = h.used; acts = h.acts; stop = rw (or-true full); holds = h.holds; inside = h.inside }

    at-0 : (r : Recorder) (memory : List ℕ) (kept : List format.Noted) (full : Bool) (n : format.Noted) → Runs old r memory kept full → passes plans lent (kept ++ (n ∷ [])) ≡ false
        → Runs old (after r (length (format.act_bytes n)) 0) (sets (sets memory r.used (format.act_bytes n)) 4 (format.little 4 (r.acts + 1))) (kept ++ (n ∷ [])) (full || false)
    at-0 r memory kept full n h fits =
        let size = length (format.act_bytes n) in
        let whole = bytes_of plans kept in
        let sum : length (bytes_of plans (kept ++ (n ∷ []))) ≡ length whole + size = more-length (boards_of plans) kept n in
        let ends : length (bytes_of plans (kept ++ (n ∷ []))) ≤ end lent = ltb-false (end lent) (length (bytes_of plans (kept ++ (n ∷ [])))) fits in
        record {
          used = ap (λ (k : ℕ). k + size) h.used ∙ sym sum;
          acts = ap (λ (k : ℕ). k + 1) h.acts ∙ sym (length-append kept (n ∷ []));
          stop = rw (or-false full) h.stop;
          holds = rw (h.holds, h.used, h.acts, sum) (grows (boards_of plans) kept n old (omega (arith, sum, ends, long)));
          inside = ends;
        }

    runs_on : HoldsOn (Runs old)
    unfolding note_recorder note_memory
    runs_on r memory kept full able n h =
        let v = judges kept full able n in
        let same = same-verdict r memory kept full able n h in
        let size = length (format.act_bytes n) in
        (ap (λ (w : ℕ). (after r size w).verdict) same ∙ verdict-is r size v, rw same (by able))
      where
        by : (b : Bool) → let v = judges kept full b n in
            Runs old (after r (length (format.act_bytes n)) v) (cond (eqb v 0) (sets (sets memory r.used (format.act_bytes n)) 4 (format.little 4 (r.acts + 1))) memory)
            (cond (eqb v 0) (kept ++ (n ∷ [])) kept) (full || eqb v 16)
        by false = rw none (at-15 r memory kept full (length (format.act_bytes n)) h)
        by true =
            split (full || passes plans lent (kept ++ (n ∷ [])))
            (λ e. rw (none, e) (at-16 r memory kept full (length (format.act_bytes n)) h))
            (λ e. rw (none, e) (at-0 r memory kept full n h (neither full (passes plans lent (kept ++ (n ∷ []))) e)))

-- ---- the day as a whole, from the header on

-- written into fresh memory
at_front : (new old : List ℕ) → length new ≤ length old → sets old 0 new ≡ new ++ drop (length new) old
at_front new old h = let from : 0 + length new ≡ length new = omega arith in sets-eq new old 0 (omega (arith, h)) ∙ rw from

header-by : (bad garden past : Bool) → bad ≡ false → first (bar 1 bad ∷ bar 15 garden ∷ bar 16 past ∷ []) ≡ cond garden 15 (cond past 16 0)
header-by false garden past e = refl
header-by true garden past e = absurd (true≢false e)

module _ (plans memory : List ℕ) (opens-so : opens plans ≡ true) where
  abbrev lent : ℕ
  lent = length memory

  bad-none : bad_plans plans ≡ false
  bad-none = let good = opens-good plans opens-so in rw (good.0, good.1)

  header_is : first (begin_bars plans lent) ≡ cond (has_garden plans) 15 (cond (passes plans lent []) 16 0)
  unfolding opening
  header_is = header-by (bad_plans plans) (has_garden plans) (passes plans lent []) bad-none

  good_start : good_of (plans_of (begun plans)) ≡ true
  good_start = ap good_of (begun-plans plans) ∙ opens-fine plans opens-so

  -- a relation that the header begins and each note keeps tells the day
  abbrev Tells : List Act → Type 0
  Tells acts =
      let d = desk (row_given (begun plans)) (begin_recorder plans lent) (begin_memory plans memory) in
      (answers noting verdict d acts ≡ answers (later plans lent) (says plans lent) (began plans lent) acts)
      × ((final noting d acts).memory ≡ stands plans memory (final (later plans lent) (began plans lent) acts).kept)
      × ((final noting d acts).row ≡ final next (row_given (begun plans)) acts)

  day-by : (R : State plans lent) → HoldsOn plans lent R → R (begin_recorder plans lent) (begin_memory plans memory) [] (passes plans lent [])
      → ((r : Recorder) (new : List ℕ) (kept : List format.Noted) (full : Bool) → R r new kept full → new ≡ stands plans memory kept) → (acts : List Act) → Tells acts
  day-by R on start at-end acts =
      let t = through plans lent R on (begun plans) good_start (begin_recorder plans lent) (begin_memory plans memory) [] (passes plans lent []) start acts in
      (t.verdicts, at-end _ _ _ _ t.holds, t.row)

  garden-day : has_garden plans ≡ true → (acts : List Act) → Tells acts
  unfolding begin_recorder begin_memory
  garden-day g =
      let v : first (begin_bars plans lent) ≡ 15 = header_is ∙ rw g in
      day-by (Barred plans lent memory) (barred-on plans lent g memory) (rw v (refl, refl)) (λ r new kept full h. rw v h.1)

  full-day : has_garden plans ≡ false → passes plans lent [] ≡ true → (acts : List Act) → Tells acts
  unfolding begin_recorder begin_memory
  full-day g p =
      let v : first (begin_bars plans lent) ≡ 16 = header_is ∙ rw (g, p) in
      day-by (Lost plans lent memory) (lost-on plans lent g memory) (rw (v, p) (refl, refl, refl)) (λ r new kept full h. rw v h.1)

  room-day : has_garden plans ≡ false → passes plans lent [] ≡ false → (acts : List Act) → Tells acts
  unfolding begin_recorder begin_memory opening
  room-day g p =
      let v : first (begin_bars plans lent) ≡ 0 = header_is ∙ rw (g, p) in
      let ends : length (bytes_of plans []) ≤ end lent = ltb-false (end lent) (length (bytes_of plans [])) p in
      day-by (Runs plans lent memory) (runs_on plans lent g memory refl)
      (rw (v, p) (record { used = refl; acts = refl; stop = refl; holds = at_front (bytes_of plans []) memory (omega (arith, ends)); inside = ends }))
      (λ r new kept full h. rw v h.holds)

  told-day : (acts : List Act) → Tells acts
  told-day acts =
      split (has_garden plans) (λ g. garden-day g acts)
      (λ g. split (passes plans lent []) (λ p. full-day g p acts) (λ p. room-day g p acts))

pub recorded : Recorded
recorded plans opens-so memory acts =
    rw (opened-given (replicate (length plans) (fresh 0)) plans (length-replicate (length plans) (fresh 0)) opens-so) (told-day plans memory opens-so acts)
