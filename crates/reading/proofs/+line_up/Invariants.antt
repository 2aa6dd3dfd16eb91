use Rattle.reading.proofs.+line_up.Given as goal

abbrev pub decreases-line_up : goal.decreases-line_up
decreases-line_up l = l.left
