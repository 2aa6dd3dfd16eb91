-- The latchings of a history are those of each fault, added up; and as long as no tally has stopped the five are these.
-- Assumes nothing.
use Prim.Native.Nat.{ℕ, ◌+◌, min, ◌<◌}
use native.Mathlib.Omega.{arith}
use mathlib.Core.Path.{◌≡◌, refl, sym, ap₂, ◌∙◌}
use mathlib.Core.Bool.{Bool, true, false, cond}
use mathlib.Core.List.{List, [], ◌∷◌}
use lib.ListN.{length, length-append}
use Rattle.lists.proofs.Split.{split}
use Rattle.lists.specs.Marks.{bit}
use Rattle.settings.specs.Faults.{Fault, SCD, OCD, OV, UV, OT}
use Rattle.latches.specs.Tallies.{tally_top}
use Rattle.journal.specs.Ring.{Entry}
use Rattle.board.specs.Latchings as sample
use Rattle.board.specs.declared.Plan.{Plan}
use Rattle.demands.specs.Paper.{sampled, framed, History, how_many, latching, sample_number, fault_cell, latchings}
use Rattle.demands.specs.Tallied.{over_faults, Tallied}

-- one act more is one more where it is so
one_more : (b : Bool) (n : ℕ) → cond b (n + 1) n ≡ n + bit b
one_more true n = refl
one_more false n = omega arith

added : (n m : Fault → ℕ) → over_faults n + over_faults m ≡ over_faults (λ f. n f + m f)
added n m = omega arith

-- of one sample: each fault that latches there is one
new-ones : (up : Fault → Bool) (cell : Fault → ℕ) (number : ℕ) → length (sample.latchings up cell number) ≡ over_faults (λ f. bit (up f))
unfolding sample.latchings
new-ones up cell number =
    let at : Fault → List Entry → List Entry = sample.noting up cell number in
    let one : (f : Fault) (later : List Entry) → length (at f later) ≡ bit (up f) + length later = λ f later. split (up f) (λ e. rw e (omega arith)) (λ e. rw e (omega arith)) in
    one SCD (at OCD (at OV (at UV (at OT [])))) ∙ rw (one OCD (at OV (at UV (at OT []))), one OV (at UV (at OT [])), one UV (at OT []), one OT []) (omega arith)

by-fault : (p : Plan) (h : History) → length (latchings p h) ≡ over_faults (λ f. how_many (latching p f) h)
by-fault p [] = refl
by-fault p (sampled x mv ∷ h) =
    let e = sampled x mv in
    let new = sample.latchings (λ f. latching p f e h) (fault_cell p x mv h) (sample_number (e ∷ h)) in
    length-append (latchings p h) new
    ∙ ap₂ (λ (n m : ℕ). n + m) (by-fault p h) (new-ones (λ f. latching p f e h) (fault_cell p x mv h) (sample_number (e ∷ h)))
    ∙ added (λ f. how_many (latching p f) h) (λ f. bit (latching p f e h))
    ∙ sym (λ i. over_faults (λ f. one_more (latching p f e h) (how_many (latching p f) h) i))
by-fault p (framed address register v ∷ h) = by-fault p h

-- a tally below the top is the number itself
not_stopped : (n : ℕ) → min tally_top n < tally_top → min tally_top n ≡ n
not_stopped n below = omega (arith, below)

pub tallied-is : (p : Plan) (h : History) → Tallied p h
tallied-is p h =
    record {
      by-fault = by-fault p h;
      together = λ below. (λ i. over_faults (λ f. not_stopped (how_many (latching p f) h) (below f) i)) ∙ sym (by-fault p h);
    }
