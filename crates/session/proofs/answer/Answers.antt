-- `answer`, kind by kind.
-- Assumes nothing.
use Rattle.std.proofs.Common.{◌≡◌, refl, ap}
use Rattle.held.specs.declared.Stack.{Stack}
use Rattle.lines.specs.declared.Kind.{Kind}
use Rattle.lines.specs.declared.Kind.TheVariants.{Open, Sample, Frame, Read, Malformed}
use Rattle.lines.specs.declared.Line.{Line}
use Rattle.session.specs.LineActs.{line_by, answered}
use Rattle.session.proofs.answer.Goals as goal

by-kind : (s : Stack) (line : Line) (k : Kind) → line.kind ≡ k → answered s line ≡ line_by k s line
unfolding answered
by-kind s line k e = ap (λ (k : Kind). line_by k s line) e

pub returns-in-Open : goal.returns-in-Open
returns-in-Open c = rw (by-kind c.args.stack.now c.args.line.now Open c.in-Open.is) c.open_line.ensures

pub returns-in-Sample : goal.returns-in-Sample
returns-in-Sample c = rw (by-kind c.args.stack.now c.args.line.now Sample c.in-Sample.is) (rw c.sample_of.ensures at c.act_on.ensures)

pub returns-in-Frame : goal.returns-in-Frame
returns-in-Frame c = rw (by-kind c.args.stack.now c.args.line.now Frame c.in-Frame.is) (rw c.frame_of.ensures at c.act_on-in-Frame.ensures)

pub returns-in-Read : goal.returns-in-Read
returns-in-Read c = rw (by-kind c.args.stack.now c.args.line.now Read c.in-Read.is) c.act_on-in-Read.ensures

pub returns-in-Malformed : goal.returns-in-Malformed
returns-in-Malformed c = rw (by-kind c.args.stack.now c.args.line.now Malformed c.in-Malformed.is) (refl, refl)
