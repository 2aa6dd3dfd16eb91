use Rattle.std.proofs.Common.{◌∙◌, ap, []}
use Rattle.adomvik.specs.Placed.{number_in}
use Rattle.adomvik.proofs.Laws.{number-is}
use Rattle.stack.specs.Open.{open_counts_answer}
use Rattle.adomvik.specs.Calls.{open_number}
use Rattle.adomvik.proofs.adomvik_open.Goals as goal

pub returns : goal.returns
unfolding open_number
returns c =
    let a = c.args in
    (c.number.ensures ∙ ap number_in c.open_counts.ensures.0 ∙ number-is (λ done. []) (open_counts_answer a.row.now a.counts.now), c.open_counts.ensures.1)
