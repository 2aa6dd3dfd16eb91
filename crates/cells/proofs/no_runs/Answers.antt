use Rattle.lists.proofs.Every.{every-turn, every-done}
use Rattle.std.proofs.Common.{◌≡◌, length, arith, rules}
use Rattle.cells.specs.Way.{no_run}
use Rattle.cells.proofs.no_runs.Goals as goal

pub loop-c-preserved : goal.loop-c-preserved
loop-c-preserved c =
    let h = c.loop-c in
    let ten : length c.args.cells ≡ 10 = search rules in
    every-turn no_run c.args.cells h.c-index (record { ov = 0; uv = 0 }) h.none h.invariant (omega arith)

pub returns : goal.returns
returns c =
    let ten : length c.args.cells ≡ 10 = search rules in
    every-done no_run c.args.cells c.loop-c.c-index c.loop-c.none c.loop-c.invariant (omega arith)
