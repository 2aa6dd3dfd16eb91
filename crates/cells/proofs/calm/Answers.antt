use Rattle.std.proofs.Common.{◌≡◌, length, rules}
use borrow.Author.Tests.{eq-eqb}
use Rattle.cells.specs.Way.{calm_of}
use Rattle.cells.proofs.calm.Goals as goal

pub returns : goal.returns
unfolding calm_of
returns c =
    let ten : length c.args.cells ≡ 10 = search rules in
    rw (eq-eqb _ _ ten, c.no_runs.ensures, c.uv_release.ensures, c.ov_release.ensures)
