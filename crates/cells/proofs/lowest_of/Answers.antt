-- The first place that the set has gives its lowest cell.
use Rattle.std.proofs.Common.{◌≡◌, ℕ, Bool, true, false, rules, tests}
use Rattle.std.proofs.lemmas.Iterator.{first_from_Range}
use Rattle.lists.specs.Marks.{marked}
use Rattle.cells.proofs.Sets.{lowest-found}
use Rattle.cells.proofs.lowest_of.Goals as goal

pub returns : goal.returns
returns c =
    let has : ℕ → Bool = λ k. marked c.args.set k in
    let first = first_from_Range _ _ _ c.find.result (λ k. has k ≡ true) (λ k. has k ≡ false) c.find.ensures.ran (λ x q k. search (rules, tests)) (λ x q k. search (rules, tests)) in
    lowest-found has c.find.result c.map_or.result first (search rules)
