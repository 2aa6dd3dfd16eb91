-- As many plans are shown as there are records.
-- Assumes nothing.
use Rattle.std.proofs.Common.{◌≡◌, ◌∙◌, List, ℕ, ap, ◌≤◌, length, take, drop, map}
use Rattle.format.specs.Read.{boards_from}
use Rattle.stack.specs.Open.{open_answer, open_row}
use Rattle.replay.specs.Check.{plan_by}
use Rattle.replay.specs.Way.{front}
use Rattle.replay.proofs.Places.{plans-length}
use Rattle.replay.proofs.Same.{front-shown}
use Rattle.replay.proofs.open_boards.Goals as goal

shown : (n : ℕ) (bytes plans : List ℕ) → plans ≡ front n (map plan_by (boards_from n (drop 8 bytes))) → n ≤ 16 → take n plans ≡ map plan_by (boards_from n (drop 8 bytes))
shown n bytes plans e few = ap (take n) e ∙ front-shown n (map plan_by (boards_from n (drop 8 bytes))) (plans-length n (drop 8 bytes)) few

pub unwrap-requires : goal.unwrap-requires
unwrap-requires c =
    let row = c.args.row.now in
    rw (c.open_row.ensures.0 ∙ ap (open_answer row) (shown (length row) c.args.bytes.now c.plans_at-plans.result c.plans_at-plans.ensures c.requires.1) ∙ c.requires.2)

pub returns : goal.returns
returns c =
    let row = c.args.row.now in
    c.open_row.ensures.1 ∙ ap (open_row row) (shown (length row) c.args.bytes.now c.plans_at-plans.result c.plans_at-plans.ensures c.requires.1)
