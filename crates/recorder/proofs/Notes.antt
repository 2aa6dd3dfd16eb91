-- An act noted: it can not be recorded, there is no room, or it is written; the three are all that a note does.
-- Assumes nothing.
use Prim.Native.Nat.{ℕ, ◌+◌}
use mathlib.Core.Path.{◌≡◌, sym, ap, ◌∙◌}
use mathlib.Core.Bool.{Bool, true, false}
use mathlib.Core.List.{List}
use lib.ListN.{length}
use borrow.Author.Tests.{ne_eqb}
use Rattle.puts.specs.Put.{Put}
use Rattle.puts.proofs.Puts.{put_then}
use Rattle.format.specs.Format.{little, Sent, Noted, noted, widths, act_bytes}
use Rattle.recorder.specs.declared.Recorder.{Recorder}
use Rattle.recorder.specs.Recorder.{after, note_recorder, note_memory, note_other, answer_of}
use Rattle.recorder.specs.Way.{sent_bytes, answered}
use Rattle.recorder.proofs.Pieces.{act-is}
use Rattle.recorder.proofs.Verdicts.{says, verdict-is, barred}

-- what a note leaves: this recorder and this memory
abbrev pub Leaves : Recorder → Bool → Noted → List ℕ → Recorder → List ℕ → Type 0
Leaves r can n memory next new = (next ≡ note_recorder r can n (length memory)) × (new ≡ note_memory r can n memory)

pub note-barred : (r next : Recorder) (can : Bool) (n : Noted) (memory : List ℕ) → can ≡ false → next ≡ note_other r → Leaves r can n memory next memory
unfolding note_recorder note_memory
note-barred r next can n memory e is = let no-act = barred r (length (act_bytes n)) (length memory) in (is ∙ rw (e, no-act), rw (e, no-act))

module _ (r next : Recorder) (size : ℕ) (memory : List ℕ) (is : next ≡ after r size (says r size (length memory))) where
  said : next.verdict ≡ says r size (length memory)
  said = ap (λ (s : Recorder). s.verdict) is ∙ verdict-is r size (says r size (length memory))

  pub note-left : (can : Bool) (n : Noted) → can ≡ true → size ≡ length (act_bytes n) → (next.verdict ≡ 0 → ⊥) → Leaves r can n memory next memory
  unfolding note_recorder note_memory
  note-left can n e long some = (is ∙ rw (e, long), rw (e, ← long, ne_eqb (says r size (length memory)) 0 (λ none. some (said ∙ none))))

  module _ (v : next.verdict ≡ 0) where
    none : says r size (length memory) ≡ 0
    none = sym said ∙ v

    pub note-acts : next.acts ≡ r.acts + 1
    note-acts = ap (λ (s : Recorder). s.acts) is ∙ rw none

    -- what was sent, its answer, and the count of acts
    pub note-written : (can : Bool) (s : Sent) (number : ℕ) (vs : List ℕ) {mid last new : List ℕ} {a b d : ℕ}
        → can ≡ true → size ≡ length (act_bytes (noted s (answer_of number vs)))
        → Put r.used (sent_bytes s) memory mid a → Put a (answered (widths s) number vs) mid last b → Put 4 (little 4 next.acts) last new d
        → Leaves r can (noted s (answer_of number vs)) memory next new
    unfolding note_recorder note_memory
    note-written can s number vs e long sent answer count =
        let act = rw (act-is s number vs) at (put_then sent answer) in
        (is ∙ rw (e, long), rw (e, ← long, none) (count.whole ∙ rw (note-acts, act.whole)))
