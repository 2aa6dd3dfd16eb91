-- What `feed` did: nothing, a line completed, and the lines behind it.
-- Assumes nothing.
use Prim.Native.Nat.{ℕ, zero, suc, ◌+◌, ◌-◌, ◌<◌, ◌≤◌}
use native.Mathlib.Omega.{arith}
use mathlib.Core.Path.{◌≡◌, refl, sym, ◌∙◌}
use mathlib.Core.Logic.{inl, inr, ⊎_elim}
use mathlib.Core.List.{List, [], ◌++◌}
use lib.ListN.{length, take, drop, length-drop, take-append-drop}
use lib.Seq.{take_all, take-add, drop-drop}
use Rattle.held.specs.declared.Stack.{Stack}
use Rattle.puts.proofs.Puts.{put_same}
use Rattle.lines.specs.declared.Cutter.{Cutter}
use Rattle.lines.specs.Way.{clip, held}
use Rattle.lines.proofs.Pieces.{ended-none}
use Rattle.lines.proofs.Ends.{rest-free}
use Rattle.lines.proofs.Keeping.{held-clip}
use Rattle.session.specs.declared.Session.{Session}
use Rattle.session.specs.declared.Fed.{Fed}
use Rattle.session.specs.Session.{output_of, Fold, Run}
use Rattle.session.specs.Way.{Answered, Completed}
use Rattle.session.proofs.Folds.{fold-none, fold-rest, fold-then}

-- no room for a text
pub run-idle : (c : Cutter) (s : Stack) (block old : List ℕ) → length old < 32 → Run c s block old old (record { cutter = c; stack = s; used = 0; wrote = 0 })
run-idle c s block old short =
    record { within = omega arith; goes = λ room some. absurd (omega arith); idle = λ h. refl; stops = inr (omega arith); fed = fold-none (held c) s 0 old (held-clip c) (omega arith) }

-- where nothing was used nothing was written
some-used : {p old new kept : List ℕ} {s s' : Stack} {w : ℕ} (block : List ℕ) (u : ℕ) → Fold p s (take u block) 0 old new kept s' w → 32 ≤ length old → length old < w + 32 → 0 < u
unfolding output_of
some-used {p} block zero f room tight = absurd (omega (arith, rw (ended-none p) at f.text.after, room, tight))
some-used block (suc u) f room tight = omega arith

module _ {b f₁ : Session} {block old mid : List ℕ} {f : Fed} (first : Completed b block old mid f₁ f) (room : 32 ≤ length old) where
  -- where the block is not used up, the lines behind it are answered
  module _ (l : f.used < length block) {new : List ℕ} {s : Stack} {r : Fed} (a : Answered f₁.stack (take (length block - f.used) (drop f.used block)) f.wrote mid new s r) where
    abbrev at : ℕ
    at = f.used

    abbrev rest : List ℕ
    rest = drop at block

    none : held f₁.cutter ≡ []
    none = ⊎_elim (λ e. e) (λ e. absurd (omega (arith, e, l))) first.done

    on : Answered f₁.stack rest f.wrote mid new s r
    on = rw (take_all (length block - at) rest (rw (length-drop at block) (omega arith))) at a

    pub within : at + r.used ≤ length block
    within = omega (arith, on.sofar.within, length-drop at block, l)

    both : Fold (held b.cutter) b.stack (take (at + r.used) block) 0 old new [] s r.wrote
    both = rw (take-add at r.used block) (fold-then (rw none at first.fed) on.sofar.fed)

    same : length mid ≡ length old
    same = put_same first.fed.text

    -- until there is no room for a text
    pub run-tight : length old < r.wrote + 32 → Run b.cutter b.stack block old new (record { cutter = f₁.cutter; stack = s; used = at + r.used; wrote = r.wrote })
    run-tight tight =
        record { within = within; goes = λ h some. some-used block (at + r.used) both room tight; idle = λ short. absurd (omega arith); stops = inr tight; fed = rw none both }

    -- or none ends in what is left, which is kept
    pub run-all : (next : Cutter) → r.wrote + 32 ≤ length old → held next ≡ clip (held f₁.cutter ++ take (length block - (at + r.used)) (drop (at + r.used) block))
        → Run b.cutter b.stack block old new (record { cutter = next; stack = s; used = length block; wrote = r.wrote })
    run-all next free keeps =
        let end = at + r.used in
        let tail : take (length block - end) (drop end block) ≡ drop end block = take_all (length block - end) (drop end block) (rw (length-drop end block) (omega (arith, within))) in
        let free-rest = ⊎_elim (λ e. rest-free rest r.used on.sofar.within e) (λ tight. absurd (omega (arith, tight, free, same))) on.stops in
        let whole : take (length block) block ≡ take end block ++ drop end block = take_all (length block) block (omega arith) ∙ sym (take-append-drop end block) in
        record {
          within = omega arith;
          goes = λ h some. some;
          idle = λ short. absurd (omega arith);
          stops = inl refl;
          fed = rw (whole, keeps, none, tail) (fold-then both (fold-rest [] (drop end block) s r.wrote new (rw (drop-drop r.used at block) at free-rest) (omega (arith, both.inside, put_same both.text))));
        }
