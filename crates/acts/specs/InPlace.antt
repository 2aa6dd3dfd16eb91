-- An act as plain data, what it does to a row of boards, and what is told of it (01, The bench program).
-- Assumes nothing.
use Rattle.std.specs.Prelude.{ℕ, min, List, take, replicate, Result, Ok, Err}
use Rattle.refusal.specs.declared.Refusal.{Refusal}
use Rattle.board.specs.declared.Board.{Board}
use Rattle.stack.specs.Open.{Opening}
use Rattle.stack.specs.Sample.{sample_answer, sample_row}
use Rattle.stack.specs.Frame.{frame_answer, frame_row}
use Rattle.stack.specs.Read.{reading_of}
use Rattle.acts.specs.declared.Told.{Told}
use Rattle.acts.specs.declared.Told.TheVariants as told
use Rattle.acts.specs.declared.Sample.{Sample}
use Rattle.acts.specs.declared.Frame.{Frame}
use Rattle.acts.specs.declared.Act.{Act}
use Rattle.acts.specs.declared.Act.TheVariants as act

-- ---- what is told: the refusal, or the values of what was accepted
abbrev pub told_of : {A : Type 0} → (A → Told) → Result A Refusal → Result Told Refusal
told_of tells (Ok a) = Ok (tells a)
told_of tells (Err why) = Err why

abbrev pub opening_told : Opening → Result Told Refusal
opening_told a = told_of (λ done. told.Opened) a

-- ---- the parts of an act: the first so many of its cells and of its bytes, of 16 that it has places for
abbrev pub cells_in : Sample → List ℕ
cells_in s = take (min s.count 16) s.cells

abbrev pub bytes_in : Frame → List ℕ
bytes_in f = take (min f.count 16) f.bytes

-- and the bytes that are lent for the reply, which has four
abbrev pub lent_in : Frame → List ℕ
lent_in f = take (min f.room 4) (replicate 4 0)

-- ---- the act on a row: what is told of it, and the row after it
abbrev pub sampled : List Board → Sample → Result Told Refusal
sampled row s = told_of told.Status (sample_answer row s.board s.readings (cells_in s))

abbrev pub sample_after : List Board → Sample → List Board
sample_after row s = sample_row row s.board s.readings (cells_in s)

abbrev pub framed : List Board → Frame → Result Told Refusal
framed row f = told_of told.Reply (frame_answer row (bytes_in f) (lent_in f))

abbrev pub frame_after : List Board → Frame → List Board
frame_after row f = frame_row row (bytes_in f) (lent_in f)

unfoldable pub act_told : List Board → Act → Result Told Refusal
act_told row (act.Sample s) = sampled row s
act_told row (act.Frame f) = framed row f
act_told row act.Reading = told_of told.Reading (reading_of row)

unfoldable pub act_row : List Board → Act → List Board
act_row row (act.Sample s) = sample_after row s
act_row row (act.Frame f) = frame_after row f
act_row row act.Reading = row
