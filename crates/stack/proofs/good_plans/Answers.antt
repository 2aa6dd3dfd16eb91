use Rattle.std.proofs.Common.{◌∙◌, rules, tests, not}
use Rattle.std.proofs.lemmas.Iterator.{YieldsList-from_slice}
use Rattle.std.proofs.lemmas.Iterator.Search.{all_from_yields_List}
use Rattle.lists.proofs.Every.{every-all}
use Rattle.board.specs.Plan.{plan_of, bad_plan}
use Rattle.stack.proofs.good_plans.Goals as goal

pub returns : goal.returns
returns c =
    let plans = c.args.plans.now in
    all_from_yields_List (λ plan. not (bad_plan (plan_of plan))) _ _ _ c.all.ensures.ran (YieldsList-from_slice plans cc) (λ x b q k. search (rules, tests)) ∙ every-all (λ plan. not (bad_plan (plan_of plan))) plans
