use Rattle.std.proofs.Common.{◌∙◌, rules, tests}
use Rattle.std.proofs.lemmas.Iterator.{YieldsList-from_slice}
use Rattle.std.proofs.lemmas.Iterator.Search.{all_from_yields_List}
use Rattle.format.specs.Format.{fits}
use Rattle.lists.proofs.Every.{every-all}
use Rattle.recorder.proofs.cells_fit.Goals as goal

pub returns : goal.returns
returns c =
    let cells = c.args.cells.now in
    all_from_yields_List (fits 2) _ _ _ c.all.ensures.ran (YieldsList-from_slice cells cc) (λ x b q k. search (rules, tests)) ∙ every-all (fits 2) cells
