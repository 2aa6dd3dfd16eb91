-- `answer_lines`: the lines up to a place are answered.
-- Assumes nothing.
use Rattle.std.proofs.Common.{◌∙◌, refl, ap, rules, arith}
use mathlib.Core.Logic.{inl}
use Rattle.puts.proofs.Puts.{put_same}
use Rattle.lines.specs.declared.Found.{Found}
use Rattle.lines.specs.Way.{found_at}
use Rattle.session.proofs.Folds.{sofar-none, sofar-line}
use Rattle.session.proofs.answer_lines.Goals as goal

pub loop-out-init : goal.loop-out-init
loop-out-init c = (refl, sofar-none _ _ _ _ (search rules))

pub loop-out-smaller : goal.loop-out-smaller
unfolding found_at
loop-out-smaller c =
    let end = ap (λ (f : Found). f.end) c.line_at-found.ensures in
    omega (arith, end, c.if-block-found.false)

pub loop-out-preserved : goal.loop-out-preserved
unfolding found_at
loop-out-preserved c =
    let h = c.loop-out in
    let end = ap (λ (f : Found). f.end) c.line_at-found.ensures in
    let line = ap (λ (f : Found). f.line) c.line_at-found.ensures in
    let put = rw (c.by_number.ensures, c.answer-told.ensures.0, line) at c.put_told.ensures in
    let next = sofar-line h.invariant.1 (omega (arith, end, c.if-block-found.false)) (omega arith) put in
    (put_same put ∙ h.invariant.0, rw (c.answer-told.ensures.1, line, end) next)

pub returns-then-block-found : goal.returns-then-block-found
unfolding found_at
returns-then-block-found c =
    let end = ap (λ (f : Found). f.end) c.line_at-found.ensures in
    record { sofar = c.loop-out.invariant.1; stops = inl (omega (arith, end, c.if-block-found.true)) }
