-- `sample_of`, part by part.
-- Assumes nothing.
use Rattle.std.proofs.Common.{◌≡◌, length, drop, take, get_or, rules, arith}
use lib.ListN.{length-drop}
use lib.Seq.{take_all}
use mir.Facts.{to_z-of_z}
use mir.Syntax.{w32}
use Rattle.session.proofs.Minus.{shunt-fits}
use Rattle.session.specs.LineActs.{readings_of, cell_places, sample_of}
use Rattle.session.proofs.sample_of.Goals as goal

pub returns : goal.returns
unfolding sample_of readings_of cell_places
returns c =
    let numbers = c.args.line.now.numbers in
    let long : length numbers ≡ 21 = search rules in
    let all : take 16 (drop 5 numbers) ≡ drop 5 numbers = take_all 16 (drop 5 numbers) (rw length-drop (omega arith)) in
    rw (c.copy_from_slice.ensures.after, c.shunt_of.ensures, to_z-of_z {w = w32} (shunt-fits c.args.line.now.minus (get_or numbers 4 0)), c.saturating_sub.ensures, all)
