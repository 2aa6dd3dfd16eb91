-- A line whose beginning is kept: nothing of it ends, or it is run as a block of one line.
-- Assumes nothing.
use Prim.Native.Nat.{ℕ, ◌+◌, ◌<◌, ◌≤◌}
use native.Mathlib.Omega.{arith}
use native.Mathlib.Nat.{zero-add}
use mathlib.Core.Path.{◌≡◌, refl, sym, ap, ◌∙◌}
use mathlib.Core.Logic.{inl, inr, ⊎_elim}
use mathlib.Core.List.{List, [], ◌∷◌, ◌++◌, append-nil}
use lib.ListN.{length, take, drop, take-append-drop}
use lib.Seq.{take_all}
use Rattle.held.specs.declared.Stack.{Stack}
use Rattle.text.specs.Text.{by_number, text_of}
use Rattle.puts.specs.Put.{Put}
use Rattle.lines.specs.declared.Cutter.{Cutter}
use Rattle.lines.specs.Lines.{ended, left, up_to}
use Rattle.lines.specs.Line.{line_of}
use Rattle.lines.specs.Way.{clip, held, emptied_of, one_line, line_ended}
use Rattle.lines.proofs.Pieces.{ended-newline}
use Rattle.lines.proofs.Blocks.{ended-append}
use Rattle.lines.proofs.Ends.{line-take, ended-free, left-free, to-newline, rest-free}
use Rattle.lines.proofs.Keeping.{held-clip, one-says, one_free, one-short}
use Rattle.session.specs.declared.Session.{Session}
use Rattle.session.specs.declared.Fed.{Fed}
use Rattle.session.specs.LineActs.{answered}
use Rattle.session.specs.Session.{step_of, stack_after, output_of}
use Rattle.session.specs.Way.{Answered, Completed}
use Rattle.session.proofs.Alike.{line-clip, none-held}
use Rattle.session.proofs.Folds.{fold-none, fold-rest, fold_line, clip-none}

pub emptied-holds : (c : Cutter) → held (emptied_of c) ≡ []
unfolding held emptied_of
emptied-holds c = refl

-- nothing is kept: there is nothing to complete
pub completed-none : (b : Session) (block old : List ℕ) → length (held b.cutter) ≡ 0 → Completed b block old old b (record { used = 0; wrote = 0 })
completed-none b block old e =
    record { within = omega arith; done = inl (none-held (held b.cutter) e); fed = fold-none (held b.cutter) b.stack 0 old (held-clip b.cutter) (omega arith) }

-- no line ends in the block: all of it is kept
pub completed-rest : (c kept : Cutter) (s : Stack) (block old : List ℕ) (end : ℕ) → end ≡ 0 + length (up_to block) → end ≤ length block → length block ≤ end → held kept ≡ clip (held c ++ take end block)
    → Completed (record { cutter = c; stack = s }) block old old (record { cutter = kept; stack = s }) (record { used = end; wrote = 0 })
completed-rest c kept s block old end e h k keeps =
    let all : take end block ≡ block = take_all end block k in
    record {
      within = h;
      done = inr (omega arith);
      fed = rw (keeps, all) (fold-rest (held c) block s 0 old (rest-free block 0 (omega arith) (omega arith)) (omega arith));
    }

-- ---- the block of one line

-- it has that one line
one_ended : (l : List ℕ) → up_to l ≡ l → ended [] (l ++ (10 ∷ [])) ≡ l ∷ []
one_ended l e =
    let none : ended [] l ≡ [] = rw e at (ended-free [] l) in
    let all : left [] l ≡ l = rw e at (left-free [] l) in
    rw (ended-append [] l (10 ∷ []), none, all, ended-newline)

-- lines that begin the one line, and are some, are it
first_of : (done rest : List (List ℕ)) (l : List ℕ) → done ++ rest ≡ l ∷ [] → (done ≡ [] → ⊥) → done ≡ l ∷ []
first_of [] rest l e some = absurd (some refl)
first_of (x ∷ []) [] l e some = e
first_of (x ∷ []) (y ∷ rest) l e some = let z : ◌≡◌ {A = ℕ} 0 1 = cc in absurd (omega arith)
first_of (x ∷ y ∷ done) rest l e some = let z : ◌≡◌ {A = ℕ} 0 1 = cc in absurd (omega arith)

-- so it is answered where there is room for a text
one-answered : {s s' : Stack} {old new : List ℕ} {r : Fed} (l : List ℕ) → up_to l ≡ l → 32 ≤ length old → Answered s (l ++ (10 ∷ [])) 0 old new s' r
    → (s' ≡ (step_of s l).stack) × Put 0 (text_of (by_number (step_of s l).told)) old new r.wrote
unfolding stack_after output_of
one-answered {s} {old = old} {new} {r} l free room a =
    let block = l ++ (10 ∷ []) in
    let at = r.used in
    let done = ended [] (take at block) in
    let rest = ended [] (drop at block) in
    let fed = a.sofar.fed in
    let all : done ++ rest ≡ l ∷ [] =
    rw (clip-none (left [] (take at block)) fed.keeps, take-append-drop at block, one_ended l free) at (sym (ended-append [] (take at block) (drop at block))) in
    let some : done ≡ [] → ⊥ =
    λ none. ⊎_elim
    (λ over.
    let gone : rest ≡ [] = rw (rest-free block at a.sofar.within over) at (ended-free [] (drop at block)) in
    let left : ◌≡◌ {A = List (List ℕ)} [] (l ∷ []) = rw (none, gone) at all in
    let z : ◌≡◌ {A = ℕ} 0 1 = cc in absurd (omega arith))
    (λ tight. absurd (omega (arith, tight, room, rw none at fed.text.after))) a.stops in
    let is : done ≡ l ∷ [] = first_of done rest l all some in
    (fed.stack ∙ rw is, rw (is, append-nil (text_of (by_number (step_of s l).told))) at fed.text)

-- as many bytes of the cutter as it says
pub whole-few : (kept whole : Cutter) → whole ≡ line_ended kept → whole.len ≤ 202
unfolding line_ended
whole-few kept whole e = rw e (omega (arith, one-short kept))

-- a line ends in the block: it is run behind what was kept of it
pub completed-line : {s s' : Stack} {block old new : List ℕ} {r : Fed} (c kept next : Cutter) (end : ℕ) → end ≡ 0 + length (up_to block) → end < length block → held kept ≡ clip (held c ++ take end block)
    → 32 ≤ length old → Answered s (one_line kept ++ (10 ∷ [])) 0 old new s' r → held next ≡ []
    → Completed (record { cutter = c; stack = s }) block old new (record { cutter = next; stack = s' }) (record { used = end + 1; wrote = r.wrote })
completed-line {s} {block = block} {old} {new} {r} c kept next end e l keeps room a empty =
    let line = up_to block in
    let bytes : take (end + 1) block ≡ line ++ (10 ∷ []) = rw e (to-newline block 0 (omega arith)) in
    let front : take end block ≡ line = rw (e, zero-add (length line)) (line-take block) in
    let says : line_of (one_line kept) ≡ line_of (held c ++ line) = one-says kept ∙ ap line_of keeps ∙ line-clip (held c ++ take end block) ∙ rw front in
    let done = one-answered (one_line kept) (one_free kept) room a in
    record {
      within = omega arith;
      done = inl empty;
      fed = rw (bytes, empty, done.0) (fold_line (held c) block s 0 old new r.wrote (step_of s (one_line kept)) (ap (answered s) says) done.1 a.sofar.fed.inside);
    }
