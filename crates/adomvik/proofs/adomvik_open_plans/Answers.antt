use Rattle.std.proofs.Common.{◌∙◌, ap, []}
use Rattle.adomvik.specs.Placed.{number_in}
use Rattle.adomvik.proofs.Laws.{number-is}
use Rattle.stack.specs.Open.{open_answer}
use Rattle.adomvik.specs.Calls.{open_number}
use Rattle.adomvik.proofs.adomvik_open_plans.Goals as goal

pub returns : goal.returns
unfolding open_number
returns c =
    let a = c.args in
    (c.number.ensures ∙ ap number_in c.open_row.ensures.0 ∙ number-is (λ done. []) (open_answer a.row.now a.plans.now), c.open_row.ensures.1)
