use Rattle.std.proofs.Common.{ℕ, List, arith}
use Rattle.format.specs.Format.{board_bytes}
use Rattle.recorder.specs.Recorder.{listed_of}
use Rattle.recorder.proofs.Pieces.{board-piece, piece-turn, piece-all}
use Rattle.recorder.proofs.put_boards.Goals as goal

abbrev piece : ℕ → List ℕ
piece plan = board_bytes (listed_of plan)

pub loop-plan-preserved : goal.loop-plan-preserved
loop-plan-preserved c =
    let h = c.loop-plan in
    let plans = c.args.plans.now in
    let put = rw (c.from-plan.ensures, board-piece) at c.put_bytes-next.ensures in
    (omega (arith, c.put_bytes-next.ensures.after, h.invariant.0), piece-turn piece plans h.plan-index c.loop-plan-test.true h.invariant.1 put)

pub returns-clause-put : goal.returns-clause-put
returns-clause-put c = piece-all piece c.args.plans.now c.loop-plan.plan-index c.loop-plan-test.false c.loop-plan.invariant.1
