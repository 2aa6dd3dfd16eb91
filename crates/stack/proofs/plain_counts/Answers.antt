use Rattle.std.proofs.Common.{◌∙◌, rules, tests, ltb}
use Rattle.std.proofs.lemmas.Iterator.{YieldsList-from_slice}
use Rattle.std.proofs.lemmas.Iterator.Search.{all_from_yields_List}
use Rattle.lists.proofs.Every.{every-all}
use Rattle.stack.proofs.plain_counts.Goals as goal

pub returns : goal.returns
returns c =
    let counts = c.args.counts.now in
    all_from_yields_List (λ count. ltb count 256) _ _ _ c.all.ensures.ran (YieldsList-from_slice counts cc) (λ x b q k. search (rules, tests)) ∙ every-all (λ count. ltb count 256) counts
