-- `open_line`: the stack that the opening gives, or the one before it.
-- Assumes nothing.
use Rattle.std.proofs.Common.{refl}
use Rattle.std.proofs.lemmas.Result.{err_from_is_err_and}
use Rattle.held.proofs.Opens.{opened-by, refused-by}
use Rattle.session.specs.LineActs.{opens}
use Rattle.session.proofs.open_line.Goals as goal

pub returns : goal.returns
unfolding opens
returns c =
    let start = opened-by _ _ (rw c.min.ensures at c.in_ok-stack.ensures) in
    rw (start.0, start.1) (refl, refl)

pub returns-in_err-stack : goal.returns-in_err-stack
unfolding opens
returns-in_err-stack c =
    let start = refused-by _ _ (rw c.min.ensures at c.in_err-stack.ensures) in
    let p = err_from_is_err_and c.from_residual.result c.from_residual.ensures.1 in
    rw (p.1, p.2, start) (refl, refl)
