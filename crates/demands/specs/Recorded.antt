-- A day with a recorder beside the acts: what stands in its memory, what it says of each act, and that an act which can not be recorded changes no record (02, ticket 10).
-- Assumes nothing.
use Rattle.std.specs.Prelude.{ℕ, ◌≡◌, Bool, true, false, cond, not, ◌||◌, List, [], ◌∷◌, ◌++◌, eqb, length, take, drop}
use Rattle.lists.specs.Compare.{◌above◌}
use Rattle.refusal.specs.Said.{Said, value, Bar, bar, first}
use Rattle.format.specs.Format as format
use Rattle.board.specs.declared.Board.{Board}
use Rattle.recorder.specs.declared.Recorder.{Recorder}
use Rattle.recorder.specs.Recorder.{end, boards_of, has_garden, begin_bars, begin_recorder, begin_memory, note_recorder, note_memory, note_other, answer_of, frame_can}
use Rattle.demands.specs.Acts.{Act, sample, frame, listing, reading, up, Outcome, outcome, next, opened_row, final, answers}
use Rattle.demands.specs.Demands.{Log, begun, taken, told, opens}

-- ---- an act as it is recorded: what was sent; of a listing and of a look whether anything is up nothing is
abbrev pub sent_of : Act → format.Sent
sent_of (sample n x mv) = format.sample n x.elapsed x.load x.thermistor x.shunt mv
sent_of (frame bytes buffer) = format.frame bytes
sent_of (listing n buffer) = format.reading
sent_of reading = format.reading
sent_of up = format.reading

abbrev pub can_record : Act → Bool
can_record (sample n x mv) = format.recordable (sent_of (sample n x mv))
can_record (frame bytes buffer) = frame_can bytes buffer
can_record (listing n buffer) = false
can_record reading = true
can_record up = false

-- ---- the library: begin, and after each act note_sample, note_frame, note_reading or note_other with what came of it
pub record Desk : Type 0 where
  pub row : List Board
  pub recorder : Recorder
  pub memory : List ℕ

abbrev pub desk : List Board → Recorder → List ℕ → Desk
desk row r memory = record { row = row; recorder = r; memory = memory }

abbrev pub opened : List ℕ → List ℕ → Desk
opened plans memory = desk (opened_row plans) (begin_recorder plans (length memory)) (begin_memory plans memory)

-- the answer as it is handed on: the number, and the values in their places
abbrev pub handed : Act → Outcome → Said
handed (sample n x mv) o = answer_of o.said.number (value 0 o.said ∷ value 1 o.said ∷ [])
handed (frame bytes buffer) o = answer_of o.said.number (take 4 o.buffer)
handed (listing n buffer) o = o.said
handed reading o = answer_of o.said.number (value 0 o.said ∷ value 1 o.said ∷ value 2 o.said ∷ value 3 o.said ∷ value 4 o.said ∷ [])
handed up o = o.said

abbrev pub noted : Act → Outcome → format.Noted
noted a o = format.noted (sent_of a) (handed a o)

-- a frame's reply buffer is handed on as it is after the act
abbrev pub can : Act → Outcome → Bool
can (sample n x mv) o = can_record (sample n x mv)
can (frame bytes buffer) o = frame_can bytes o.buffer
can (listing n buffer) o = false
can reading o = true
can up o = false

abbrev pub recorder_after : Recorder → Act → Outcome → ℕ → Recorder
recorder_after r (sample n x mv) o lent = note_recorder r (can (sample n x mv) o) (noted (sample n x mv) o) lent
recorder_after r (frame bytes buffer) o lent = note_recorder r (can (frame bytes buffer) o) (noted (frame bytes buffer) o) lent
recorder_after r (listing n buffer) o lent = note_other r
recorder_after r reading o lent = note_recorder r (can reading o) (noted reading o) lent
recorder_after r up o lent = note_other r

abbrev pub memory_after : Recorder → Act → Outcome → List ℕ → List ℕ
memory_after r (sample n x mv) o memory = note_memory r (can (sample n x mv) o) (noted (sample n x mv) o) memory
memory_after r (frame bytes buffer) o memory = note_memory r (can (frame bytes buffer) o) (noted (frame bytes buffer) o) memory
memory_after r (listing n buffer) o memory = memory
memory_after r reading o memory = note_memory r (can reading o) (noted reading o) memory
memory_after r up o memory = memory

abbrev pub noting : Desk → Act → Desk
noting d a =
    let o = outcome d.row a in
    desk (next d.row a) (recorder_after d.recorder a o (length d.memory)) (memory_after d.recorder a o d.memory)

abbrev pub verdict : Desk → Act → ℕ
verdict d a = (noting d a).recorder.verdict

-- ---- the paper: the acts that got 0 so far, oldest first, with the answers that are told of them, and whether one got 16
pub record Day : Type 0 where
  pub logs : List Log
  pub kept : List format.Noted
  pub full : Bool

abbrev pub day : List Log → List format.Noted → Bool → Day
day logs kept full = record { logs = logs; kept = kept; full = full }

-- the bytes of a recording of these acts, and whether they would pass the end
abbrev pub bytes_of : List ℕ → List format.Noted → List ℕ
bytes_of plans kept = format.recording (boards_of plans) kept

abbrev pub passes : List ℕ → ℕ → List format.Noted → Bool
passes plans lent kept = length (bytes_of plans kept) above end lent

abbrev pub began : List ℕ → ℕ → Day
began plans lent = day (begun plans) [] (passes plans lent [])

abbrev pub entry : Day → Act → format.Noted
entry d a = format.noted (sent_of a) (told d.logs a).said

abbrev pub with_one : Day → Act → List format.Noted
with_one d a = d.kept ++ (entry d a ∷ [])

-- 15: a garden board in the stack, or an act that can not be recorded; then 16: an earlier one got 16, or this one would pass the end
abbrev pub refusals : List ℕ → ℕ → Day → Act → List Bar
refusals plans lent d a = bar 15 (has_garden plans || not (can_record a)) ∷ bar 16 (d.full || passes plans lent (with_one d a)) ∷ []

abbrev pub says : List ℕ → ℕ → Day → Act → ℕ
says plans lent d a = first (refusals plans lent d a)

abbrev pub later : List ℕ → ℕ → Day → Act → Day
later plans lent d a =
    let v = says plans lent d a in
    day (taken d.logs a) (cond (eqb v 0) (with_one d a) d.kept) (d.full || eqb v 16)

-- the memory: the recording followed by what it held; where the header was refused all that it held
abbrev pub stands : List ℕ → List ℕ → List format.Noted → List ℕ
stands plans memory kept =
    cond (eqb (first (begin_bars plans (length memory))) 0) (bytes_of plans kept ++ drop (length (bytes_of plans kept)) memory) memory

-- after any opening and any acts: each verdict is the one told, the memory is the one told, and the row is the one without a recorder
abbrev pub Recorded : Type 0
Recorded = (plans : List ℕ) → opens plans ≡ true → (memory : List ℕ) (acts : List Act)
    → let lent = length memory in
    (answers noting verdict (opened plans memory) acts ≡ answers (later plans lent) (says plans lent) (began plans lent) acts)
    × ((final noting (opened plans memory) acts).memory ≡ stands plans memory (final (later plans lent) (began plans lent) acts).kept)
    × ((final noting (opened plans memory) acts).row ≡ final next (opened_row plans) acts)

-- an act that can not be recorded changes no record, on any row: so a recording with gaps can be played again
abbrev pub GapsChangeNothing : Type 0
GapsChangeNothing = (row : List Board) (a : Act) → can_record a ≡ false → next row a ≡ row
