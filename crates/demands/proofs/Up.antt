-- Whether anything is up says what the latches of the histories do, and its line is the reading's.
-- Assumes nothing.
use Prim.Native.Nat.{ℕ, zero, suc, ◌+◌, ◌<◌}
use native.Mathlib.Omega.{arith}
use mathlib.Core.Path.{◌≡◌, refl, sym, ap, ◌∙◌, subst}
use mathlib.Core.Logic.{◌⊎◌, inl, inr}
use mathlib.Core.Bool.{true≢false}
use mathlib.Core.List.{List, [], ◌∷◌, map}
use lib.ListN.{length}
use Rattle.lists.proofs.Split.{split}
use Rattle.refusal.specs.Said.{value}
use Rattle.settings.specs.Faults.{Fault}
use Rattle.board.specs.declared.Board.{Board}
use Rattle.reading.specs.Reading.{line_up, read_of}
use Rattle.reading.specs.Line.{looked_at}
use Rattle.stack.specs.Row.{good_row}
use Rattle.stack.proofs.Scanned.{up-said}
use Rattle.demands.specs.Acts.{Outcome, reading, up, outcome, final}
use Rattle.demands.specs.Demands.{Log, begun, log_at, taken, summary_given, up_says}
use Rattle.demands.specs.Whole.{Latched, LineUp}
use Rattle.demands.specs.Up.{Looked, UpByPaper}
use Rattle.demands.proofs.Asked.{asks-no}
use Rattle.demands.proofs.Table.{reading-judged}
use Rattle.demands.proofs.Tells.{tells}
use Rattle.demands.proofs.Demanded.{demand2, final-good}
use Rattle.demands.proofs.Refused.{opens-so}
use Rattle.demands.proofs.Whole.{On, any-ask, line-ask, one-if}

-- ---- the boards looked at, by places in the row

abbrev NoneBelow : List Log → ℕ → Type 0
NoneBelow logs n = (i : ℕ) (f : Fault) → suc i < n → ¬ On (log_at logs i) f

abbrev AtLast : List Log → ℕ → Type 0
AtLast logs n = ((i : ℕ) × (n ≡ suc i) × (f : Fault) × On (log_at logs i) f) ⊎ ((n ≡ length logs) × ((i : ℕ) (f : Fault) → ¬ On (log_at logs i) f))

none_below : (logs : List Log) → NoneBelow logs (looked_at (map summary_given logs))
unfolding looked_at
none_below [] = λ i f p. absurd (omega arith)
none_below (l ∷ logs) =
    split (summary_given l).latched
    (λ e. rw e (λ i f p. absurd (omega arith)))
    (λ e. rw e (more (λ f h. (asks-no (summary_given l).latched (any-ask l)).0 e (f, h)) (none_below logs)))
  where
    more : ((f : Fault) → ¬ On l f) → NoneBelow logs (looked_at (map summary_given logs)) → NoneBelow (l ∷ logs) (looked_at (map summary_given logs) + 1)
    more here later zero f p = here f
    more here later (suc i) f p = later i f (omega arith)

at_last : (logs : List Log) → AtLast logs (looked_at (map summary_given logs))
unfolding looked_at
at_last [] = inr (refl, λ i f h. absurd (true≢false (sym h)))
at_last (l ∷ logs) =
    split (summary_given l).latched
    (λ e. rw e (let (f, h) = (any-ask l).0 e in inl (zero, refl, f, h)))
    (λ e. rw e (more (λ f h. (asks-no (summary_given l).latched (any-ask l)).0 e (f, h)) (at_last logs)))
  where
    none_so : ((f : Fault) → ¬ On l f) → ((i : ℕ) (f : Fault) → ¬ On (log_at logs i) f) → (i : ℕ) (f : Fault) → ¬ On (log_at (l ∷ logs) i) f
    none_so here later zero f = here f
    none_so here later (suc i) f = later i f

    more : ((f : Fault) → ¬ On l f) → AtLast logs (looked_at (map summary_given logs)) → AtLast (l ∷ logs) (looked_at (map summary_given logs) + 1)
    more here (inl (i, is, f, h)) = inl (suc i, omega arith, f, h)
    more here (inr (is, none)) = inr (omega arith, none_so here none)

-- ---- and by numbers

module _ (logs : List Log) where
  below : (b : ℕ) (f : Fault) → b < looked_at (map summary_given logs) → ¬ Latched logs b f
  below zero f p h = absurd (true≢false (sym h))
  below (suc i) f p h = none_below logs i f p h

  nothing-up : ((i : ℕ) (f : Fault) → ¬ On (log_at logs i) f) → ¬ LineUp logs 1
  nothing-up none (zero, p, f, h) = absurd (omega arith)
  nothing-up none (suc i, p, f, h) = none i f h

  there : (n : ℕ) → AtLast logs n → ((f : Fault) × Latched logs n f) ⊎ ((¬ LineUp logs 1) × (n ≡ length logs))
  there n (inl (i, is, f, h)) = inl (f, subst (λ (m : ℕ). Latched logs m f) (sym is) h)
  there n (inr (is, none)) = inr (nothing-up none, is)

  looks : Looked logs (up_says logs)
  looks =
      let boards = map summary_given logs in
      record { two = refl; line = one-if (line_up boards) (line-ask logs); below = below; there = there (looked_at boards) (at_last logs) }

-- ---- the line is the reading's, refused or not
up-is-line : (row : List Board) → ((outcome row up).said.number ≡ (outcome row reading).said.number) × (value 0 (outcome row up).said ≡ value 0 (outcome row reading).said)
unfolding read_of
up-is-line row =
    let looked = up-said row in
    let read = reading-judged row in
    split (good_row row)
    (λ e. rw (looked, read, e) (refl, refl))
    (λ e. rw (looked, read, e) (refl, refl))

pub up-by-paper : UpByPaper
up-by-paper =
    record {
      up-is-line = up-is-line;
      told = looks;
      answered = λ plans fine acts.
          let e = opens-so plans fine in
          let logs = final taken (begun plans) acts in
          let said = ap (λ (row : List Board). (outcome row up).said) (demand2 plans e acts).1
          ∙ ap (λ (o : Outcome). o.said) (tells logs (final-good plans e acts) up) in
          (up_says logs, said, looks logs);
    }
