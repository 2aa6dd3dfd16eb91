use Rattle.std.proofs.Common.{◌∙◌, arith}
use Rattle.board.specs.Sample.{fresh}
use Rattle.reading.specs.Way.{seen_with}
use Rattle.reading.proofs.Along.{folded_on, folded-ends}
use Rattle.reading.proofs.Scanned.{row-folds}
use Rattle.reading.proofs.see_row.Goals as goal

pub loop-i-init : goal.loop-i-init
loop-i-init c = rw c.none_seen-seen.ensures (row-folds c.args.row.now)

pub loop-i-preserved : goal.loop-i-preserved
loop-i-preserved c = rw c.see-seen.ensures (folded_on seen_with _ c.args.row.now c.loop-i.i c.loop-i.seen c.loop-i-test.true ∙ c.loop-i.invariant)

pub returns : goal.returns
returns c = folded-ends seen_with (fresh 0) c.args.row.now c.loop-i.i c.loop-i.seen (omega arith) ∙ c.loop-i.invariant
