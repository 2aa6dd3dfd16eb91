-- The worth of the place past the cells, and the sets.
use Rattle.std.proofs.Common.{◌<◌, ◌%◌, ◌^◌, arith}
use Rattle.lists.proofs.Marks.{place-worth}
use Rattle.cells.proofs.Sets.{and-not, flags-set}
use Rattle.cells.proofs.flags_next.Goals as goal

pub returns : goal.returns
returns c =
    let a = c.args in
    let few : a.cells < 16 = omega (arith, c.requires.0) in
    let kept : a.flags % 2 ^ a.cells < 65536 = omega (arith, c.ranges.flags.fits) in
    rw (place-worth a.cells few, and-not (a.flags % 2 ^ a.cells) a.low kept c.ranges.low.fits) (flags-set a.stood a.low a.flags a.cells c.requires.1 c.requires.2)
