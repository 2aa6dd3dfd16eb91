-- A session: each line is an act, and its answer a line of text (01, The bench program).
-- Assumes nothing.
use Rattle.std.specs.Prelude.{ℕ, ◌+◌, ◌≤◌, ◌<◌, ◌≡◌, ◌⊎◌, List, [], ◌∷◌, ◌++◌, length, take}
use Rattle.held.specs.declared.Stack.{Stack}
use Rattle.text.specs.Text.{by_number, text_of}
use Rattle.puts.specs.Put.{Put}
use Rattle.lines.specs.Line.{line_of}
use Rattle.lines.specs.declared.Cutter.{Cutter}
use Rattle.lines.specs.Lines.{ended, left}
use Rattle.lines.specs.Way.{clip, held}
use Rattle.session.specs.declared.Session.{Session}
use Rattle.session.specs.declared.Fed as Counts
use Rattle.session.specs.LineActs.{Acted, answered}

-- a line of bytes, as an act
abbrev pub step_of : Stack → List ℕ → Acted
step_of s l = answered s (line_of l)

-- the stack after the acts of some lines
unfoldable pub stack_after : Stack → List (List ℕ) → Stack
stack_after s [] = s
stack_after s (l ∷ ls) = stack_after (step_of s l).stack ls

-- what is printed for them: one text for each
unfoldable pub output_of : Stack → List (List ℕ) → List ℕ
output_of s [] = []
output_of s (l ∷ ls) = text_of (by_number (step_of s l).told) ++ output_of (step_of s l).stack ls

-- what feeding some bytes did, behind a line that has begun with p: the lines that end in them are answered, their texts put from a
-- place on, and what is left of them is kept
pub record Fold (p : List ℕ) (s : Stack) (bytes : List ℕ) (from : ℕ) (old new : List ℕ) (kept : List ℕ) (s' : Stack) (wrote : ℕ) : Type 0 where
  pub keeps : kept ≡ clip (left p bytes)
  pub stack : s' ≡ stack_after s (ended p bytes)
  pub text : Put from (output_of s (ended p bytes)) old new wrote
  pub inside : wrote ≤ length old

-- what a block did: the line that it leaves open, the stack, how many of its bytes were used, and how many were written
pub record Fed : Type 0 where
  pub cutter : Cutter
  pub stack : Stack
  pub used : ℕ
  pub wrote : ℕ

abbrev pub fed : Session → Counts.Fed → Fed
fed s r = record { cutter = s.cutter; stack = s.stack; used = r.used; wrote = r.wrote }

-- the used bytes of a block were fed, up to its end or until 32 bytes, the most that a text takes, are no longer free;
-- some byte is used where 32 were free from the start, and none where they were not
pub record Run (c : Cutter) (s : Stack) (block old new : List ℕ) (r : Fed) : Type 0 where
  pub within : r.used ≤ length block
  pub goes : 32 ≤ length old → 0 < length block → 0 < r.used
  pub idle : length old < 32 → r.used ≡ 0
  pub stops : (r.used ≡ length block) ⊎ (length old < r.wrote + 32)
  pub fed : Fold (held c) s (take r.used block) 0 old new (held r.cutter) r.stack r.wrote

-- the last line may lack its newline: where something is kept, this is what it lacks
unfoldable pub lacking : List ℕ → List ℕ
lacking [] = []
lacking (b ∷ p) = 10 ∷ []
