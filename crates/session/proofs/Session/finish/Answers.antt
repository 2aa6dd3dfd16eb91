-- `finish`: nothing, or a newline fed.
-- Assumes nothing.
use Rattle.std.proofs.Common.{sym, ◌∙◌}
use Rattle.lines.specs.Way.{held}
use Rattle.session.proofs.Lasts.{lacking-one, run_none}
use Rattle.session.proofs.Session.finish.Goals as goal

pub returns-then-kept_len-eq0 : goal.returns-then-kept_len-eq0
returns-then-kept_len-eq0 c = run_none _ _ _ (sym c.kept_len.ensures ∙ c.if-kept_len-eq0.true)

pub returns : goal.returns
returns c = rw (lacking-one (held c.args.self.now.cutter) (λ none. c.if-kept_len-eq0.false (c.kept_len.ensures ∙ none))) c.feed.ensures
