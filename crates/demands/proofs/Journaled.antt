-- The journal lists the last 128 latchings; their numbers rise from sample to sample until the top; and cause and cell come back out of their byte.
-- Assumes nothing.
use Prim.Native.Nat.{ℕ, zero, suc, ◌+◌, ◌<◌, ◌≤◌}
use native.Mathlib.Omega.{arith}
use mathlib.Core.Path.{◌≡◌, refl, ◌∙◌}
use mathlib.Core.Bool.{Bool}
use mathlib.Core.List.{List, [], ◌∷◌, ◌++◌}
use lib.Dec.{leb}
use Rattle.lists.specs.Marks.{lowest}
use Rattle.lists.specs.Each.{each}
use Rattle.lists.proofs.Split.{split}
use Rattle.settings.specs.Faults.{Fault, SCD, OCD, OV, UV, OT}
use Rattle.journal.specs.Ring.{Entry, latching}
use Rattle.journal.proofs.Laws.{last-listed, latest-all, words_of}
use Rattle.board.specs.declared.Readings.{Readings}
use Rattle.board.specs.Latchings.{number_top, cause}
use Rattle.board.specs.Latchings as sample
use Rattle.board.specs.declared.Plan.{Plan}
use Rattle.board.specs.Plan.{is_garden}
use Rattle.board.proofs.Counts.{good-plan}
use Rattle.demands.specs.Paper as paper
use Rattle.demands.specs.Paper.{sampled, framed, History, sample_of, stood_delay, count_at, filter, sample_number, lowest_at, fault_cell, latchings}
use Rattle.demands.specs.Journaled.{EachOf, new_ones, Journaled}

-- ---- of each entry

each-weaker : (P Q : Entry → Type 0) (es : List Entry) → ((e : Entry) → P e → Q e) → EachOf P es → EachOf Q es
each-weaker P Q [] f so = tt
each-weaker P Q (e ∷ es) f so = (f e so.0, each-weaker P Q es f so.1)

each_append : (P : Entry → Type 0) (es fs : List Entry) → EachOf P es → EachOf P fs → EachOf P (es ++ fs)
each_append P [] fs a b = b
each_append P (e ∷ es) fs a b = (a.0, each_append P es fs a.1 b)

each-new : (P : Entry → Type 0) (up : Fault → Bool) (cell : Fault → ℕ) (number : ℕ) → ((f : Fault) → P (latching (cause f) (cell f) number)) → EachOf P (sample.latchings up cell number)
unfolding sample.latchings
each-new P up cell number so = one SCD (at OCD (at OV (at UV (at OT [])))) (one OCD (at OV (at UV (at OT []))) (one OV (at UV (at OT [])) (one UV (at OT []) (one OT [] tt))))
  where
    at : Fault → List Entry → List Entry
    at = sample.noting up cell number

    one : (f : Fault) (later : List Entry) → EachOf P later → EachOf P (at f later)
    one f later rest = split (up f) (λ e. rw e (so f, rest)) (λ e. rw e rest)

-- ---- numbers

number-here : (p : Plan) (h : History) (x : Readings) (mv : List ℕ) → EachOf (λ e. e.number ≡ sample_number (sampled x mv ∷ h)) (new_ones p h x mv)
number-here p h x mv = each-new (λ e. e.number ≡ sample_number (sampled x mv ∷ h)) (λ f. paper.latching p f (sampled x mv) h) (fault_cell p x mv h) (sample_number (sampled x mv ∷ h)) (λ f. refl)

up-to-here : (p : Plan) (h : History) → EachOf (λ e. e.number ≤ sample_number h) (latchings p h)
up-to-here p [] = tt
up-to-here p (sampled x mv ∷ h) =
    let now = sample_number (sampled x mv ∷ h) in
    let up_to : Entry → Type 0 = λ e. e.number ≤ now in
    each_append up_to (latchings p h) (new_ones p h x mv)
    (each-weaker (λ e. e.number ≤ sample_number h) up_to (latchings p h) (λ e l. omega (arith, l)) (up-to-here p h))
    (each-weaker (λ e. e.number ≡ now) up_to (new_ones p h x mv) (λ e l. omega (arith, l)) (number-here p h x mv))
up-to-here p (framed address register v ∷ h) = up-to-here p h

-- ---- cells

lowest-small : (f : ℕ → Bool) (low i n : ℕ) → lowest (low + 1) (each i n f) ≤ low + n
unfolding lowest each
lowest-small f low i zero = omega arith
lowest-small f low i (suc n) =
    let later = lowest-small f (low + 1) (suc i) n in
    split (f i) (λ e. rw e (omega arith)) (λ e. rw e (omega (arith, later)))

lowest-few : (p : Plan) (f : Fault) (x : Readings) (mv : List ℕ) (h : History) → lowest_at p f x mv h ≤ p.cells
lowest-few p f x mv h =
    split (is_garden p.kind)
    (λ e. let small = lowest-small (λ k. leb p.trigger (count_at p f (filter p f h) (sample_of x mv) k)) 0 0 p.cells in rw e (omega (arith, small)))
    (λ e. let small = lowest-small (λ k. stood_delay f k (sampled x mv ∷ h)) 0 0 p.cells in rw e (omega (arith, small)))

cell-small : (p : Plan) → p.cells ≤ 10 → (f : Fault) (x : Readings) (mv : List ℕ) (h : History) → fault_cell p x mv h f < 16
cell-small p few SCD x mv h = omega arith
cell-small p few OCD x mv h = omega arith
cell-small p few OV x mv h = let low = lowest-few p OV x mv h in omega (arith, low, few)
cell-small p few UV x mv h = let low = lowest-few p UV x mv h in omega (arith, low, few)
cell-small p few OT x mv h = omega arith

cause-small : (f : Fault) → cause f < 16
cause-small SCD = omega arith
cause-small OCD = omega arith
cause-small OV = omega arith
cause-small UV = omega arith
cause-small OT = omega arith

pub journaled-is : (p : Plan) (h : History) → Journaled p h
journaled-is p h =
    record {
      last-ones = last-listed (latchings p h);
      all_ones = λ few. last-listed (latchings p h) ∙ latest-all 128 (latchings p h) few;
      sample-enters = λ x mv. refl;
      frame-enters-none = λ address register v. refl;
      own-number = number-here p h;
      rising = λ x mv below. each-weaker (λ e. e.number ≤ sample_number h) (λ e. e.number < sample_number (sampled x mv ∷ h)) (latchings p h) (λ e l. omega (arith, l, below)) (up-to-here p h);
      never-falling = λ x mv. each-weaker (λ e. e.number ≤ sample_number h) (λ e. e.number ≤ sample_number (sampled x mv ∷ h)) (latchings p h) (λ e l. omega (arith, l)) (up-to-here p h);
      in_words = λ good f x mv number. words_of (cause f) (fault_cell p x mv h f) number (cause-small f) (cell-small p (good-plan p good) f x mv h);
    }
