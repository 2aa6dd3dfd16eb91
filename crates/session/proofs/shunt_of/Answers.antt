-- `shunt_of`: a size with its sign.
-- Assumes nothing.
use Rattle.std.proofs.Common.{arith}
use mir.Facts.{to_z-of_z}
use Rattle.session.specs.LineActs.{shunt_of}
use Rattle.session.proofs.Minus.{size_is, minus-fits}
use Rattle.session.proofs.shunt_of.Goals as goal

pub returns-then-minus : goal.returns-then-minus
unfolding shunt_of
returns-then-minus c =
    let n = c.min-size.result in
    let small = c.min-size.ensures in
    rw (c.if-minus.true, size_is n (omega arith), to_z-of_z (minus-fits n (omega arith)), small)

pub returns-else-minus : goal.returns-else-minus
unfolding shunt_of
returns-else-minus c =
    let n = c.min-size.result in
    let small = c.min-size.ensures in
    rw (c.if-minus.false, size_is n (omega arith), small)
