-- However the input is cut into blocks, what is written is the output of its lines.
-- Assumes nothing.
use Prim.Native.Nat.{ℕ, ◌≤◌}
use mathlib.Core.Path.{◌≡◌, refl, ◌∙◌}
use mathlib.Core.List.{List, [], ◌∷◌, ◌++◌, flatten}
use lib.ListN.{length, take}
use Rattle.lines.specs.Line.{line_of}
use Rattle.puts.proofs.Puts.{put-take}
use Rattle.held.specs.declared.Stack.{Stack}
use Rattle.lines.specs.declared.Cutter.{Cutter}
use Rattle.lines.specs.Lines.{last_line, lines_of, ended}
use Rattle.lines.specs.Way.{held, ended_in, left_in}
use Rattle.lines.proofs.Clips.{lines-flatten}
use Rattle.session.specs.Session.{Fed, stack_after, output_of, Fold, Run, lacking}
use Rattle.session.proofs.Alike.{over-alike, output-alike, stack-append, output-append}
use Rattle.session.proofs.Lasts.{finished}

-- a session: parts of the input, each fed, and what was put into the buffer written out after each
pub data Session : Cutter → Stack → List (List ℕ) → List ℕ → Cutter → Stack → Type 0 where
  stop : {c : Cutter} {s : Stack} → Session c s [] [] c s
  more : {c c' c'' : Cutter} {s s' s'' : Stack} {part old new text : List ℕ} {parts : List (List ℕ)} {w : ℕ}
      → Fold (held c) s part 0 old new (held c') s' w → Session c' s' parts text c'' s'' → Session c s (part ∷ parts) (take w new ++ text) c'' s''

-- what it leaves, and what it wrote, by its parts
record Done (c : Cutter) (s : Stack) (parts : List (List ℕ)) (text : List ℕ) (c' : Cutter) (s' : Stack) : Type 0 where
  keeps : held c' ≡ left_in (held c) parts
  stack : s' ≡ stack_after s (ended_in (held c) parts)
  wrote : text ≡ output_of s (ended_in (held c) parts)

session-done : {c c'' : Cutter} {s s'' : Stack} {parts : List (List ℕ)} {text : List ℕ} → Session c s parts text c'' s'' → Done c s parts text c'' s''
unfolding ended_in left_in stack_after output_of
session-done stop = record { keeps = refl; stack = refl; wrote = refl }
session-done {c} {c''} {s} {s''} (more {c' = c'} {s' = s'} {part = part} {new = new} {text = text} {parts = parts} {w = w} f rest) =
    let d : Done c' s' parts text c'' s'' = session-done rest in
    let lines = ended (held c) part in
    let later = ended_in (held c') parts in
    record {
      keeps = rw (← f.keeps) d.keeps;
      stack = rw (← f.keeps, stack-append s lines later, ← f.stack) d.stack;
      wrote = rw (← f.keeps, output-append s lines later, ← f.stack, put-take f.text f.inside, d.wrote);
    }

-- THE LAW: a session from nothing kept, and then the answer of the last line, write the output of the lines of the whole input
pub whole-input : {c c' : Cutter} {s s' : Stack} {parts : List (List ℕ)} {text : List ℕ} → held c ≡ [] → Session c s parts text c' s'
    → text ++ output_of s' (last_line (held c')) ≡ output_of s (lines_of (flatten parts))
whole-input {c} {c'} {s} {s'} {parts} {text} e r =
    let d : Done c s parts text c' s' = session-done r in
    let lines = ended_in [] parts in
    let last = last_line (left_in [] parts) in
    let kept : held c' ≡ left_in [] parts = rw e at d.keeps in
    let after : s' ≡ stack_after s lines = rw e at d.stack in
    let wrote : text ≡ output_of s lines = rw e at d.wrote in
    let all : text ++ output_of s' (last_line (held c')) ≡ output_of s (lines ++ last) = rw (kept, wrote, output-append s lines last, after) in
    all ∙ output-alike s (lines ++ last) (lines_of (flatten parts)) (lines-flatten line_of over-alike parts)

-- and so with what `finish` puts into a buffer of 32 bytes or more
pub whole-session : {c c' : Cutter} {s s' : Stack} {parts : List (List ℕ)} {text old new : List ℕ} {r : Fed} → held c ≡ [] → Session c s parts text c' s'
    → 32 ≤ length old → Run c' s' (lacking (held c')) old new r → text ++ take r.wrote new ≡ output_of s (lines_of (flatten parts))
whole-session e session room run = rw (finished room run).0 (whole-input e session)
