-- The end of the input: the last line is fed its newline where it lacks one.
-- Assumes nothing.
use Prim.Native.Nat.{ℕ, zero, suc, ◌<◌, ◌≤◌}
use native.Mathlib.Omega.{arith}
use mathlib.Core.Path.{◌≡◌, refl, ap, ◌∙◌}
use mathlib.Core.Logic.{inl}
use mathlib.Core.List.{List, [], ◌∷◌}
use lib.ListN.{length, take}
use lib.Seq.{take_all}
use Rattle.puts.proofs.Puts.{put-take}
use Rattle.held.specs.declared.Stack.{Stack}
use Rattle.lines.specs.declared.Cutter.{Cutter}
use Rattle.lines.specs.Lines.{ended, last_line}
use Rattle.lines.specs.Way.{held}
use Rattle.lines.proofs.Keeping.{held-clip}
use Rattle.lines.proofs.Pieces.{ended-none, ended-newline}
use Rattle.session.specs.Session.{Fed, stack_after, output_of, Run, lacking}
use Rattle.session.proofs.Alike.{none-held}
use Rattle.session.proofs.Folds.{fold-none}

pub lacking-none : (p : List ℕ) → length p ≡ 0 → lacking p ≡ []
unfolding lacking
lacking-none p e = rw (none-held p e)

pub lacking-one : (p : List ℕ) → (length p ≡ 0 → ⊥) → lacking p ≡ 10 ∷ []
unfolding lacking
lacking-one [] h = absurd (h refl)
lacking-one (b ∷ p) h = refl

-- nothing is fed where nothing is kept
pub run_none : (c : Cutter) (s : Stack) (old : List ℕ) → length (held c) ≡ 0 → Run c s (lacking (held c)) old old (record { cutter = c; stack = s; used = 0; wrote = 0 })
run_none c s old e =
    rw (lacking-none (held c) e)
    (record {
      within = omega arith;
      goes = λ room some. some;
      idle = λ short. refl;
      stops = inl refl;
      fed = fold-none (held c) s 0 old (held-clip c) (omega arith);
    })

-- the lines that end in what the last line lacks are the last line, if there is one
pub ended-lacking : (p : List ℕ) → ended p (lacking p) ≡ last_line p
unfolding lacking last_line
ended-lacking [] = ended-none []
ended-lacking (b ∷ p) = ended-newline (b ∷ p)

lacking-short : (p : List ℕ) → length (lacking p) ≤ 1
unfolding lacking
lacking-short [] = omega arith
lacking-short (b ∷ p) = omega arith

-- THE LAW of `finish`: where 32 bytes are free it writes the answer of the last line
pub finished : {c : Cutter} {s : Stack} {old new : List ℕ} {r : Fed} → 32 ≤ length old → Run c s (lacking (held c)) old new r
    → (take r.wrote new ≡ output_of s (last_line (held c))) × (r.stack ≡ stack_after s (last_line (held c)))
finished {c} {s} {old} {new} {r} room run =
    let all : length (lacking (held c)) ≤ r.used = by (length (lacking (held c))) (lacking-short (held c)) (run.goes room) in
    let whole : take r.used (lacking (held c)) ≡ lacking (held c) = take_all r.used (lacking (held c)) all in
    let lines : ended (held c) (take r.used (lacking (held c))) ≡ last_line (held c) = rw whole (ended-lacking (held c)) in
    (put-take run.fed.text run.fed.inside ∙ ap (output_of s) lines, run.fed.stack ∙ ap (stack_after s) lines)
  where
    by : {u : ℕ} (n : ℕ) → n ≤ 1 → (0 < n → 0 < u) → n ≤ u
    by zero h goes = omega arith
    by (suc n) h goes = omega (arith, goes (omega arith))
