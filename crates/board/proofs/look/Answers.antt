use Rattle.std.proofs.Common.{sym, ◌∙◌}
use borrow.Author.Tests.{eq-eqb, ne_eqb}
use Rattle.board.specs.Way.{look_of}
use Rattle.board.proofs.Laws.{range-by}
use Rattle.board.proofs.Unmoved.{in-range}
use Rattle.board.proofs.look.Goals as goal

pub returns-then-bad_board : goal.returns-then-bad_board
unfolding look_of
returns-then-bad_board c = rw (← c.bad_board.ensures, c.if-bad_board.true)

pub returns-then-mv-b : goal.returns-then-mv-b
unfolding look_of
returns-then-mv-b c = rw (← c.bad_board.ensures, c.if-bad_board.false, ne_eqb _ _ c.if-mv-b.true)

pub returns-then-x : goal.returns-then-x
unfolding look_of
returns-then-x c = rw (← c.bad_board.ensures, c.if-bad_board.false, eq-eqb _ _ c.if-mv-b.false, c.if-x.true)

pub returns-then-quiet : goal.returns-then-quiet
unfolding look_of
returns-then-quiet c =
    let a = c.args in
    let is-quiet = rw c.span_of-span.ensures at (sym c.quiet.ensures ∙ c.if-quiet.true) in
    rw (c.span_of-span.ensures, ← c.bad_board.ensures, c.if-bad_board.false, eq-eqb _ _ c.if-mv-b.false, c.if-x.false, in-range a.b.now a.x a.mv.now is-quiet, is-quiet)

pub returns-then-out_of_range : goal.returns-then-out_of_range
unfolding look_of
returns-then-out_of_range c =
    let a = c.args in
    let broken = sym (range-by a.x a.mv.now) ∙ (rw c.span_of-span.ensures at (sym c.out_of_range.ensures ∙ c.if-out_of_range.true)) in
    rw (← c.bad_board.ensures, c.if-bad_board.false, eq-eqb _ _ c.if-mv-b.false, c.if-x.false, broken)

pub returns-then-is_garden : goal.returns-then-is_garden
unfolding look_of
returns-then-is_garden c =
    let a = c.args in
    let kept = sym (range-by a.x a.mv.now) ∙ (rw c.span_of-span.ensures at (sym c.out_of_range.ensures ∙ c.if-out_of_range.false)) in
    let loud = rw c.span_of-span.ensures at (sym c.quiet.ensures ∙ c.if-quiet.false) in
    let garden = sym c.is_garden.ensures ∙ c.if-is_garden.true in
    rw (c.span_of-span.ensures, ← c.bad_board.ensures, c.if-bad_board.false, eq-eqb _ _ c.if-mv-b.false, c.if-x.false, kept, loud, garden)

pub returns : goal.returns
unfolding look_of
returns c =
    let a = c.args in
    let kept = sym (range-by a.x a.mv.now) ∙ (rw c.span_of-span.ensures at (sym c.out_of_range.ensures ∙ c.if-out_of_range.false)) in
    let loud = rw c.span_of-span.ensures at (sym c.quiet.ensures ∙ c.if-quiet.false) in
    let other = sym c.is_garden.ensures ∙ c.if-is_garden.false in
    rw (c.span_of-span.ensures, ← c.bad_board.ensures, c.if-bad_board.false, eq-eqb _ _ c.if-mv-b.false, c.if-x.false, kept, loud, other)
