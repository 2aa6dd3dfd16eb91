-- By the kind of act: one byte each, but for a sample's second.
-- Assumes nothing.
use Rattle.std.proofs.Common.{drop-drop}
use Rattle.format.specs.Read.{numbers_in}
use Rattle.reader.proofs.Numbers.{one_in}
use Rattle.replay.proofs.values_in.Goals as goal

pub returns-in-Sample : goal.returns-in-Sample
unfolding numbers_in
returns-in-Sample c = rw (c.in-Sample.is, c.two_at.ensures, one_in c.args.rest.now 0)

pub returns-in-Frame : goal.returns-in-Frame
unfolding numbers_in
returns-in-Frame c = let l = c.args.rest.now in rw (c.in-Frame.is, drop-drop 1 1 l, drop-drop 1 2 l, one_in l 0, one_in l 1, one_in l 2, one_in l 3)

pub returns-in-Reading : goal.returns-in-Reading
unfolding numbers_in
returns-in-Reading c = let l = c.args.rest.now in rw (c.in-Reading.is, drop-drop 1 1 l, drop-drop 1 2 l, drop-drop 1 3 l, one_in l 0, one_in l 1, one_in l 2, one_in l 3, one_in l 4)
