use Rattle.std.proofs.Common.{ℕ, Bool, ◌∙◌, rules, tests}
use Rattle.std.proofs.lemmas.Iterator.{YieldsList-from_slice}
use Rattle.std.proofs.lemmas.Iterator.Search.{any_from_yields_List}
use Rattle.board.specs.Plan.{is_garden, plan_of}
use Rattle.lists.proofs.Every.{every-any}
use Rattle.recorder.proofs.has_garden.Goals as goal

pub returns : goal.returns
returns c =
    let plans = c.args.plans.now in
    let garden : ℕ → Bool = λ plan. is_garden (plan_of plan).kind in
    any_from_yields_List garden _ _ _ c.any.ensures.ran (YieldsList-from_slice plans cc) (λ x b q k. search (rules, tests)) ∙ every-any garden plans
