use mir.Facts.{to_z-of_z}
use Rattle.board.proofs.Signed.{above-none, above-size}
use Rattle.board.proofs.shunt_above.Goals as goal

pub returns-then-shunt-lt0 : goal.returns-then-shunt-lt0
returns-then-shunt-lt0 c = above-none c.args.level c.args.shunt (rw (to_z-of_z c.ranges.shunt) at c.if-shunt-lt0.true)

pub returns : goal.returns
returns c =
    let back = to_z-of_z c.ranges.shunt in
    rw back (above-size c.args.level c.args.shunt (rw back at c.if-shunt-lt0.false))
