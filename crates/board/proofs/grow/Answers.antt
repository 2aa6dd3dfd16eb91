use Rattle.latches.proofs.Packed.{latches-kept}
use Rattle.board.specs.Sample.{grown_latches, garden_with}
use Rattle.board.specs.Way.{grown_by, grown_of}
use Rattle.board.proofs.grow.Goals as goal

pub returns : goal.returns
unfolding grown_of garden_with
returns c =
    let a = c.args in
    rw (c.status.ensures, c.number_next.ensures, c.last_by-next.ensures, c.tallies_next-next.ensures, c.risen-up.ensures, c.byte_of.ensures, c.grow-grown.ensures, c.latches_of-old.ensures, latches-kept (grown_latches (grown_by a.b a.x a.span a.mv.now)))
