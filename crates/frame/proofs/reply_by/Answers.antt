-- `reply_by`: the check that moved is the fresh one.
-- Assumes nothing.
use Rattle.std.proofs.Common.{ℕ, ap, rules}
use Rattle.frame.specs.declared.Reply.{Reply}
use Rattle.frame.specs.Way.{reply_by}
use Rattle.frame.proofs.Sums.{moved-check}
use Rattle.frame.proofs.reply_by.Goals as goal

pub returns : goal.returns
unfolding reply_by
returns c =
    let a = c.args in
    let asked = a.taken.request in
    let fresh = moved-check asked.address asked.register asked.value a.value a.taken.check (search rules) (search rules) (search rules) (search rules) in
    rw c.check_moved.ensures (ap (λ (k : ℕ). record { address = asked.address; register = asked.register; value = a.value; check = k }) fresh)
