-- Each tally by itself; where no fault latched they stay.
use Rattle.std.proofs.Common.{sym, ◌∙◌}
use Rattle.latches.specs.Tallies.{tallies_next}
use Rattle.latches.proofs.Tallied.{none-latched}
use Rattle.latches.proofs.tallies_next.Goals as goal

pub returns-then-not-any_up : goal.returns-then-not-any_up
returns-then-not-any_up c = none-latched c.args.up c.args.t (sym c.any_up.ensures ∙ c.if-not-any_up.true)

pub returns : goal.returns
unfolding tallies_next
returns c = rw (c.tally_next-5.ensures, c.tally_next-4.ensures, c.tally_next-3.ensures, c.tally_next-2.ensures, c.tally_next.ensures)
