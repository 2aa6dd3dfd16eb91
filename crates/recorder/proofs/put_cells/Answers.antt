use Rattle.std.proofs.Common.{◌^◌, get_or, arith}
use borrow.Author.Tests.{ltb-true}
use Rattle.lists.proofs.Every.{every-at}
use Rattle.format.specs.Format.{little, fits}
use Rattle.format.proofs.Sizes.{little-length}
use Rattle.recorder.proofs.Numbers.{little-two}
use Rattle.recorder.proofs.Pieces.{piece-turn, piece-all}
use Rattle.recorder.proofs.put_cells.Goals as goal

pub overflow_cast-mv : goal.overflow_cast-mv
overflow_cast-mv c =
    let cells = c.args.cells.now in
    let fit = ltb-true (get_or cells c.loop-mv.mv-index 0) (256 ^ 2) (every-at (fits 2) cells c.loop-mv.mv-index 0 c.requires.1 c.loop-mv-test.true) in
    record { fits = omega (arith, fit) }

pub loop-mv-preserved : goal.loop-mv-preserved
loop-mv-preserved c =
    let h = c.loop-mv in
    let cells = c.args.cells.now in
    let put = rw (c.to_le_bytes.ensures, little-two) at c.put_bytes-next.ensures in
    let two = little-length 2 (get_or cells h.mv-index 0) in
    (omega (arith, put.after, two, h.invariant.0), piece-turn (little 2) cells h.mv-index c.loop-mv-test.true h.invariant.1 put)

pub returns-clause-put : goal.returns-clause-put
returns-clause-put c = piece-all (little 2) c.args.cells.now c.loop-mv.mv-index c.loop-mv-test.false c.loop-mv.invariant.1
