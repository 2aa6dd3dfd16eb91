-- A recording that is checked (02, ticket 11): accepted exactly if each answer in it is the one that demand 2 gives after the acts before it, and
-- otherwise the place of the first that is not; and every recording of ticket 10 is accepted.
-- Assumes nothing.
use Rattle.std.specs.Prelude.{ℕ, suc, ◌<◌, ◌≡◌, Bool, true, false, List, [], map, eqb, length, get_or, replicate}
use Rattle.lists.specs.Compare.{◌below◌}
use Rattle.lists.specs.Every.{every}
use Rattle.refusal.specs.Said.{Said, accepts, first}
use Rattle.format.specs.Format as format
use Rattle.format.specs.Read.{acts_in, reads}
use Rattle.board.specs.declared.Board.{Board}
use Rattle.replay.specs.Check.{plans_in, row_unfit, checked, check_of}
use Rattle.recorder.specs.Recorder.{boards_of, begin_bars}
use Rattle.demands.specs.Acts.{Act, sample, frame, reading, final, answers}
use Rattle.demands.specs.Demands.{begun, taken, told, opens}
use Rattle.demands.specs.Recorded.{bytes_of, began, later}

-- ---- the acts that a recording has, each frame with four bytes lent for its reply
abbrev pub act_by : format.Sent → Act
act_by (format.sample board elapsed load thermistor shunt cells) = sample board (record { elapsed = elapsed; shunt = shunt; thermistor = thermistor; load = load }) cells
act_by (format.frame bytes) = frame bytes (replicate 4 0)
act_by format.reading = reading

abbrev pub acts_by : List format.Noted → List Act
acts_by notes = map (λ n. act_by n.sent) notes

-- what demand 2 tells of each of them after those before it
abbrev pub rightly : List ℕ → List format.Noted → List Said
rightly plans notes = map (λ o. o.said) (answers taken told (begun plans) (acts_by notes))

-- and what the recording says
abbrev pub recordedly : List format.Noted → List Said
recordedly notes = map (λ n. n.answer) notes

-- the answer at a place, from 0
abbrev pub said_at : List Said → ℕ → Said
said_at says i = get_or says i (accepts [])

-- every answer before this place is right, and the one at it is wrong
abbrev pub FirstWrong : List ℕ → List format.Noted → ℕ → Type 0
FirstWrong plans notes i =
    (i < length notes)
    × ((j : ℕ) → j < i → said_at (recordedly notes) j ≡ said_at (rightly plans notes) j)
    × (said_at (recordedly notes) i ≡ said_at (rightly plans notes) i → ⊥)

-- on a row with a record for each board: of bytes that are read without refusal the check tells 0 exactly if all answers are right, and k + 1 exactly if
-- the first wrong one stands at k, from 0
pub record Checked (row : List Board) (bytes : List ℕ) : Type 0 where
  pub opened : opens (plans_in bytes) ≡ true
  pub all : check_of row bytes ≡ checked 0 0 → recordedly (acts_in bytes) ≡ rightly (plans_in bytes) (acts_in bytes)
  pub all_so : recordedly (acts_in bytes) ≡ rightly (plans_in bytes) (acts_in bytes) → check_of row bytes ≡ checked 0 0
  pub first : (k : ℕ) → check_of row bytes ≡ checked (suc k) 0 → FirstWrong (plans_in bytes) (acts_in bytes) k
  pub first_so : (k : ℕ) → FirstWrong (plans_in bytes) (acts_in bytes) k → check_of row bytes ≡ checked (suc k) 0

abbrev pub ChecksRight : Type 0
ChecksRight = (row : List Board) (bytes : List ℕ) → reads bytes ≡ true → row_unfit row bytes ≡ false → Checked row bytes

-- a plan as the header's constructors make it for a board that can be recorded: nothing stands where only a garden board has something
abbrev pub bare : List ℕ → Bool
bare plans = every (λ plan. plan below 65536) plans

-- every recording that a day leaves, whatever its acts, is accepted: the bytes of its boards and of the acts that got 0. Each value of an answer fits its bytes,
-- as every u8 and u16 does (the premise of `one-to-one`)
abbrev pub Accepted : Type 0
Accepted = (plans : List ℕ) → opens plans ≡ true → bare plans ≡ true → (lent : ℕ) → eqb (first (begin_bars plans lent)) 0 ≡ true → (acts : List Act)
    → let kept = (final (later plans lent) (began plans lent) acts).kept in
    format.writable (boards_of plans) kept ≡ true → (row : List Board) → length row ≡ length plans → check_of row (bytes_of plans kept) ≡ checked 0 0
