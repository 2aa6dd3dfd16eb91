-- The recorder: what it writes into the lent memory at an opening and at each act, and what it says of it (02, ticket 10).
-- Assumes nothing.
use Rattle.std.specs.Prelude.{ℕ, ◌+◌, min, Bool, cond, not, ◌&&◌, ◌||◌, List, [], ◌∷◌, map, eqb, length}
use Rattle.std.proofs.lemmas.List.Edits.{sets}
use Rattle.lists.specs.Compare.{◌above◌, ◌below◌, ◌at_or_above◌}
use Rattle.lists.specs.Every.{every}
use Rattle.refusal.specs.Said.{Said, accepts, refuses, Bar, bar, first, unless_refused}
use Rattle.format.specs.Format.{little, Listed, listed, frame, Noted, act_bytes, recording, recordable}
use Rattle.board.specs.Plan.{is_garden, plan_of}
use Rattle.stack.specs.Open.{bad_plans}
use Rattle.recorder.specs.declared.Recorder.{Recorder}

abbrev pub recorder : ℕ → ℕ → ℕ → ℕ → Recorder
recorder used acts stopped verdict = record { used = used; acts = acts; stopped = stopped; verdict = verdict }

-- only the first 65,535 of the lent bytes are used
abbrev pub end : ℕ → ℕ
end lent = min lent 65535

-- ---- the header with the board list

abbrev pub listed_of : ℕ → Listed
listed_of plan = listed (plan_of plan).kind (plan_of plan).cells

abbrev pub boards_of : List ℕ → List Listed
boards_of plans = map listed_of plans

-- what stands in memory before the first act
unfoldable pub opening : List ℕ → List ℕ
opening plans = recording (boards_of plans) []

-- a garden board in the stack
abbrev pub has_garden : List ℕ → Bool
has_garden plans = not (every (λ plan. not (is_garden (plan_of plan).kind)) plans)

-- 1 where the plans open no stack; 15, not recordable; 16, the header would pass the end
abbrev pub begin_bars : List ℕ → ℕ → List Bar
begin_bars plans lent = bar 1 (bad_plans plans) ∷ bar 15 (has_garden plans) ∷ bar 16 (length (opening plans) above end lent) ∷ []

-- after a refusal nothing is recorded, and acts go on getting the same: 16 where there was no room, else 15
abbrev pub unbegun : ℕ → Recorder
unbegun verdict = recorder 0 0 (cond (eqb verdict 16) 16 15) verdict

unfoldable pub begin_recorder : List ℕ → ℕ → Recorder
begin_recorder plans lent =
    let refusals = begin_bars plans lent in
    unless_refused refusals (unbegun (first refusals)) (recorder (length (opening plans)) 0 0 0)

unfoldable pub begin_memory : List ℕ → List ℕ → List ℕ
begin_memory plans memory = unless_refused (begin_bars plans (length memory)) memory (sets memory 0 (opening plans))

-- ---- an act that can be recorded, or can not

-- a recorder that has not stopped, or stopped for want of room, asks whether an act can be; any other takes none
abbrev pub takes_none : Recorder → Bool
takes_none r = not (eqb r.stopped 0 || eqb r.stopped 16)

-- no recorder that was begun stands within its header, or is out of numbers for its acts
abbrev pub never_begun : Recorder → Bool
never_begun r = r.used below 8 || r.acts at_or_above 65535

abbrev pub no_room : Recorder → ℕ → ℕ → Bool
no_room r size lent = eqb r.stopped 16 || never_begun r || r.used + size above end lent

-- 15, not recordable; then 16, no room, now or earlier
abbrev pub note_bars : Recorder → Bool → ℕ → ℕ → List Bar
note_bars r can size lent = bar 15 (takes_none r || not can) ∷ bar 16 (no_room r size lent) ∷ []

-- the recorder after a verdict on an act of so many bytes
abbrev pub after : Recorder → ℕ → ℕ → Recorder
after r size verdict =
    cond (eqb verdict 0) (recorder (r.used + size) (r.acts + 1) r.stopped 0)
    (recorder r.used r.acts (cond (eqb verdict 16) 16 r.stopped) verdict)

unfoldable pub note_recorder : Recorder → Bool → Noted → ℕ → Recorder
note_recorder r can n lent = let size = length (act_bytes n) in after r size (first (note_bars r can size lent))

-- the act behind what is recorded, and the count of acts in the header, from byte 4 on
unfoldable pub note_memory : Recorder → Bool → Noted → List ℕ → List ℕ
note_memory r can n memory =
    unless_refused (note_bars r can (length (act_bytes n)) (length memory)) memory
    (sets (sets memory r.used (act_bytes n)) 4 (little 4 (r.acts + 1)))

-- of a listing, and of a look whether anything is up
abbrev pub note_other : Recorder → Recorder
note_other r = after r 0 15

-- an answer by what an act returned: the number of its refusal, or 0, and then the values count
abbrev pub answer_of : ℕ → List ℕ → Said
answer_of number values = cond (eqb number 0) (accepts values) (refuses number)

-- a frame lent a reply buffer under four bytes can not be recorded, whatever its answer
abbrev pub frame_can : List ℕ → List ℕ → Bool
frame_can bytes reply = recordable (frame bytes) && (length reply at_or_above 4)
