-- By its kind, and its body by itself.
-- Assumes nothing.
use Rattle.std.proofs.Common.{◌≡◌, ◌+◌, ◌-◌, ◌≤◌, ℕ, List, length, take, drop, sym, ap, ◌∙◌, false, arith}
use mathlib.Mathlib.Data.Bool.Basic.{or-eq-false-eq-eq-false-and-eq-false}
use lib.ListN.{length-drop}
use lib.Seq.{length-take-le}
use borrow.Author.Tests.{eq-eqb, ne_eqb, ltb-false}
use Rattle.format.specs.Read.{kind_in, long_in, wrong_long}
use Rattle.acts.specs.declared.Act.TheVariants.{Sample, Frame, Reading}
use Rattle.replay.specs.Way.{sample_in, frame_in, act_in, IsWhole}
use Rattle.replay.proofs.Bodies.{sample-within, frame-within}
use Rattle.replay.proofs.act_in.Goals as goal

enough : (kind long : ℕ) → 1 ≡ kind → wrong_long kind long ≡ false → 12 ≤ long
enough kind long e h = ltb-false long 12 ((or-eq-false-eq-eq-false-and-eq-false _ _).0 (rw (eq-eqb kind 1 (sym e)) at h)).0

body-length : (rest : List ℕ) → IsWhole rest → length (take (long_in rest) (drop 2 rest)) ≡ long_in rest
body-length rest whole = length-take-le (long_in rest) (drop 2 rest) (omega (arith, whole.inside, length-drop 2 rest))

sample-is : (rest body : List ℕ) → IsWhole rest → 1 ≡ kind_in rest → body ≡ take (long_in rest) (drop 2 rest) → Sample (sample_in (length body) body) ≡ act_in rest
unfolding act_in
sample-is rest body whole k b =
    let long = long_in rest in
    let same = sample-within long (drop 2 rest) (enough (kind_in rest) long k whole.fitting) in
    rw (eq-eqb (kind_in rest) 1 (sym k)) (ap Sample (ap (λ l. sample_in (length l) l) b ∙ ap (λ n. sample_in n (take long (drop 2 rest))) (body-length rest whole) ∙ same))

frame-is : (rest body : List ℕ) → IsWhole rest → 2 ≡ kind_in rest → body ≡ take (long_in rest) (drop 2 rest) → Frame (frame_in (length body) body) ≡ act_in rest
unfolding act_in
frame-is rest body whole k b =
    let long = long_in rest in
    let same = frame-within long (drop 2 rest) (omega (arith, body-length rest whole)) in
    rw (ne_eqb (kind_in rest) 1 (λ e. omega (arith, e, k)), eq-eqb (kind_in rest) 2 (sym k)) (ap Frame (ap (λ l. frame_in (length l) l) b ∙ ap (λ n. frame_in n (take long (drop 2 rest))) (body-length rest whole) ∙ same))

reading-is : (rest : List ℕ) → 3 ≡ kind_in rest → Reading ≡ act_in rest
unfolding act_in
reading-is rest k = rw (ne_eqb (kind_in rest) 1 (λ e. omega (arith, e, k)), ne_eqb (kind_in rest) 2 (λ e. omega (arith, e, k)))

-- the bytes between two places are so many from the first on
shown : (long n : ℕ) (rest : List ℕ) → long ≡ n → take (2 + long - 2) (drop 2 rest) ≡ take n (drop 2 rest)
shown long n rest e = let all : 2 + long - 2 ≡ n = omega (arith, e) in rw all

pub returns-in-Sample : goal.returns-in-Sample
returns-in-Sample c =
    let rest = c.args.rest.now in
    ap Sample c.sample_in.ensures ∙ sample-is rest _ c.requires c.in-Sample.ensures (shown _ (long_in rest) rest c.byte_at-long.ensures)

pub returns-in-Frame : goal.returns-in-Frame
returns-in-Frame c =
    let rest = c.args.rest.now in
    ap Frame c.frame_in.ensures ∙ frame-is rest _ c.requires c.in-Frame.ensures (shown _ (long_in rest) rest c.byte_at-long.ensures)

pub returns-in-Reading : goal.returns-in-Reading
returns-in-Reading c = reading-is c.args.rest.now c.in-Reading.ensures
