use Rattle.std.proofs.Common.{sym, ◌∙◌}
use borrow.Author.Tests.{eq-eqb, ne_eqb}
use Rattle.lists.specs.Marks.{marks}
use Rattle.reading.specs.Way.{up}
use Rattle.reading.proofs.Gathered.{up_none, up_next}
use Rattle.reading.proofs.+line_up.Goals as goal

pub returns-then-left-eq0 : goal.returns-then-left-eq0
unfolding up marks
returns-then-left-eq0 t c = rw c.if-left-eq0.true

pub returns-then-latched-eq0 : goal.returns-then-latched-eq0
returns-then-latched-eq0 t c = rw c.if-latched-eq0.true (sym (up_none c.args.left))

pub returns-then-latched-eq1 : goal.returns-then-latched-eq1
returns-then-latched-eq1 t c = sym (up_next c.args.latched c.args.left c.if-left-eq0.false ∙ rw (eq-eqb _ _ c.if-latched-eq1.true))

pub returns : goal.returns
returns t c = c.line_up.ensures ∙ sym (up_next c.args.latched c.args.left c.if-left-eq0.false ∙ rw (ne_eqb _ _ c.if-latched-eq1.false))
