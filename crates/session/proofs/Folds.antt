-- Feeding a line's beginning, a line, and one part after another.
-- Assumes nothing.
use Prim.Native.Nat.{ℕ, ◌+◌, ◌<◌, ◌≤◌}
use native.Mathlib.Omega.{arith}
use native.Mathlib.Nat.{add-zero}
use mathlib.Core.Path.{◌≡◌, refl, sym}
use mathlib.Core.List.{List, [], ◌∷◌, ◌++◌, append-nil}
use lib.ListN.{length, drop}
use Rattle.held.specs.declared.Stack.{Stack}
use Rattle.text.specs.Text.{by_number, text_of}
use Rattle.puts.specs.Put.{Put}
use Rattle.puts.proofs.Puts.{put_then, put_same}
use Rattle.lines.specs.Lines.{before, ended, left, up_to}
use Rattle.lines.specs.Way.{clip, rest_at, end_at}
use Rattle.lines.proofs.Pieces.{ended-newline, left-newline}
use Rattle.lines.proofs.Blocks.{ended-append, left-append}
use Rattle.lines.proofs.Ends.{ended-free, left-free, to-newline}
use Rattle.session.specs.declared.Fed.{Fed}
use Rattle.session.specs.LineActs.{Acted, answered}
use Rattle.session.specs.Way.{Sofar}
use Rattle.text.specs.Way.{placed}
use Rattle.text.proofs.Places.{placed-all}
use Rattle.text.proofs.Lines.{text-short}
use Rattle.lines.specs.Line.{line_of}
use Rattle.session.specs.Session.{step_of, stack_after, output_of, Fold}
use Rattle.session.proofs.Alike.{stack-append, output-append}

-- bytes without a newline are kept behind what has begun
pub fold-rest : (p t : List ℕ) (s : Stack) (from : ℕ) (old : List ℕ) → up_to t ≡ t → from ≤ length old → Fold p s t from old old (clip (p ++ t)) s from
unfolding stack_after output_of
fold-rest p t s from old e h =
    let none : ended p t ≡ [] = rw e at (ended-free p t) in
    let all : left p t ≡ p ++ t = rw e at (left-free p t) in
    record { keeps = rw all; stack = rw none; text = rw none (record { after = sym (add-zero from); whole = refl }); inside = h }

-- nothing is fed
pub fold-none : (p : List ℕ) (s : Stack) (from : ℕ) (old : List ℕ) → clip p ≡ p → from ≤ length old → Fold p s [] from old old p s from
unfolding before
fold-none p s from old e h = rw (append-nil p, e) at (fold-rest p [] s from old refl h)

-- with a newline behind them they are a line, which is answered
pub fold_line : (p t : List ℕ) (s : Stack) (from : ℕ) (old new : List ℕ) (wrote : ℕ) (acted : Acted) → acted ≡ step_of s (p ++ up_to t) → Put from (text_of (by_number acted.told)) old new wrote
    → wrote ≤ length old → Fold p s (up_to t ++ (10 ∷ [])) from old new [] acted.stack wrote
unfolding stack_after output_of clip
fold_line p t s from old new wrote acted e put h =
    let one : ended p (up_to t ++ (10 ∷ [])) ≡ (p ++ up_to t) ∷ [] = rw (ended-append p (up_to t) (10 ∷ []), ended-free p t, left-free p t, ended-newline) in
    let none : left p (up_to t ++ (10 ∷ [])) ≡ [] = rw (left-append p (up_to t) (10 ∷ []), left-newline) in
    record { keeps = rw none; stack = rw (one, e); text = rw (one, ← e, append-nil (text_of (by_number acted.told))) put; inside = h }

-- nothing kept of a line is nothing of it
pub clip-none : (l : List ℕ) → [] ≡ clip l → l ≡ []
unfolding clip
clip-none [] e = refl
clip-none (b ∷ l) e = let z : ◌≡◌ {A = ℕ} 0 1 = cc in absurd (omega arith)

-- one part and then another, where no line is open between them
pub fold-then : {p a b old mid new kept : List ℕ} {s s' s'' : Stack} {from w w' : ℕ} → Fold p s a from old mid [] s' w → Fold [] s' b w mid new kept s'' w' → Fold p s (a ++ b) from old new kept s'' w'
fold-then {p} {a} {b} {s = s} f g =
    let none : left p a ≡ [] = clip-none (left p a) f.keeps in
    let lines : ended p (a ++ b) ≡ ended p a ++ ended [] b = rw (ended-append p a b, none) in
    record {
      keeps = rw (left-append p a b, none) g.keeps;
      stack = rw (lines, stack-append s (ended p a) (ended [] b), ← f.stack) g.stack;
      text = rw (lines, output-append s (ended p a) (ended [] b), ← f.stack) (put_then f.text g.text);
      inside = omega (arith, g.inside, put_same f.text);
    }

-- what a caller reads off: what was written lies within the buffer
pub fold-inside : {p bytes old new kept : List ℕ} {s s' : Stack} {from w : ℕ} → Fold p s bytes from old new kept s' w → w ≤ length new
fold-inside f = omega (arith, put_same f.text, f.inside)

-- ---- the lines of a block, one after the other

pub sofar-none : (s : Stack) (block : List ℕ) (from : ℕ) (old : List ℕ) → from ≤ length old → Sofar s block from old old s (record { used = 0; wrote = from })
unfolding clip
sofar-none s block from old h = record { within = omega arith; fed = fold-none [] s from old refl h }

-- one line more: what was fed before it, and the line
pub sofar-line : {s s' : Stack} {block old mid new : List ℕ} {from w : ℕ} {r : Fed} → Sofar s block from old mid s' r → end_at block r.used < length block → r.wrote + 32 ≤ length old
    → Put r.wrote (placed (length mid) r.wrote (by_number (answered s' (line_of (rest_at block r.used))).told)) mid new w
    → Sofar s block from old new (answered s' (line_of (rest_at block r.used))).stack (record { used = end_at block r.used + 1; wrote = w })
sofar-line {s} {s'} {block} {old} {mid} {new} {r = r} so l room put =
    let acted = answered s' (line_of (rest_at block r.used)) in
    let line = rw (placed-all (length mid) r.wrote (by_number acted.told) (omega (arith, room, put_same so.fed.text))) at put in
    record {
      within = omega (arith, l);
      fed = rw (to-newline block r.used l) (fold-then so.fed (fold_line [] (drop r.used block) s' r.wrote mid new _ acted refl line (omega (arith, line.after, text-short (by_number acted.told), room, put_same so.fed.text))));
    }
