-- The bytes are read whole, then the boards opened and the acts done again.
-- Assumes nothing.
use Rattle.std.proofs.Common.{◌∙◌, ◌+◌, ◌*◌, ap, drop, arith}
use Rattle.format.specs.Read.{acts_from}
use Rattle.replay.specs.Check.{wrong_after, row_after, checked}
use Rattle.replay.proofs.Checks.{stop-told, count-few, counts-told, acts-inside, acts-whole, not-refused, told}
use Rattle.replay.proofs.check.Goals as goal

pub overflow_cast-result : goal.overflow_cast-result
overflow_cast-result c = omega (arith, count-few c.args.row.now c.args.bytes.now c.in-Ok.counts c.in-Ok.ensures)

pub open_boards-requires : goal.open_boards-requires
open_boards-requires c =
    let fits = c.if-counts-row.false in (
      omega (arith, fits, acts-inside c.args.row.now c.args.bytes.now c.in-Ok.counts c.in-Ok.ensures fits),
      omega (arith, fits, count-few c.args.row.now c.args.bytes.now c.in-Ok.counts c.in-Ok.ensures),
      not-refused c.args.row.now c.args.bytes.now c.in-Ok.counts c.in-Ok.ensures fits,
    )

pub first_wrong-requires : goal.first_wrong-requires
first_wrong-requires c =
    let fits = c.if-counts-row.false in
    (acts-inside c.args.row.now c.args.bytes.now c.in-Ok.counts c.in-Ok.ensures fits, acts-whole c.args.row.now c.args.bytes.now c.in-Ok.counts c.in-Ok.ensures fits)

pub returns-in-Err : goal.returns-in-Err
returns-in-Err c = rw (c.hold.ensures, c.from.ensures) (stop-told c.args.row.now c.args.bytes.now c.in-Err.stop c.in-Err.ensures)

pub returns-in-Ok : goal.returns-in-Ok
returns-in-Ok c = counts-told c.args.row.now c.args.bytes.now c.in-Ok.counts c.in-Ok.ensures c.if-counts-row.true

pub returns-in-Ok-2 : goal.returns-in-Ok-2
returns-in-Ok-2 c =
    let counts = c.in-Ok.counts in
    let acts = acts_from counts.acts (drop (8 + 2 * counts.boards) c.args.bytes.now) in
    let so = told c.args.row.now c.args.bytes.now counts c.in-Ok.ensures c.if-counts-row.false in (
      ap (λ place. checked place 0) (c.unwrap_or.ensures ∙ c.first_wrong.ensures.0 ∙ ap (λ row. wrong_after 0 row acts) c.open_boards.ensures) ∙ so.0,
      c.first_wrong.ensures.1 ∙ ap (λ row. row_after row acts) c.open_boards.ensures ∙ so.1,
    )
