use Rattle.std.proofs.Common.{◌≡◌, ◌<◌, ℕ, sym, ◌∙◌, length, arith}
use Rattle.recorder.proofs.Begins.{begin-bad, begin-garden, begin-full, begin-room, begin-left, begin-written}
use Rattle.recorder.proofs.begin.Goals as goal

some : (v : ℕ) → 0 < v → v ≡ 0 → ⊥
some v p e = omega (arith, p, e)

pub returns-then-bad_plans : goal.returns-then-bad_plans
returns-then-bad_plans c =
    let a = c.args in
    begin-left a.plans.now a.memory.now c.not_begun.result 1 (begin-bad a.plans.now (length a.memory.now) (sym c.bad_plans.ensures ∙ c.if-bad_plans.true)) (some 1 (omega arith)) c.not_begun.ensures

pub returns-then-has_garden : goal.returns-then-has_garden
returns-then-has_garden c =
    let a = c.args in
    begin-left a.plans.now a.memory.now c.not_begun-then-has_garden.result 15 (begin-garden a.plans.now (length a.memory.now) (sym c.bad_plans.ensures ∙ c.if-bad_plans.false) (sym c.has_garden.ensures ∙ c.if-has_garden.true)) (some 15 (omega arith)) c.not_begun-then-has_garden.ensures

pub returns-then-end_of-boards : goal.returns-then-end_of-boards
returns-then-end_of-boards c =
    let a = c.args in
    begin-left a.plans.now a.memory.now c.not_begun-then-end_of-boards.result 16 (begin-full a.plans.now (length a.memory.now) (sym c.bad_plans.ensures ∙ c.if-bad_plans.false) (sym c.has_garden.ensures ∙ c.if-has_garden.false) (omega (arith, c.if-end_of-boards.true, c.end_of.ensures))) (some 16 (omega arith)) c.not_begun-then-end_of-boards.ensures

pub returns : goal.returns
returns c =
    let a = c.args in
    begin-written a.plans.now a.memory.now (begin-room a.plans.now (length a.memory.now) (sym c.bad_plans.ensures ∙ c.if-bad_plans.false) (sym c.has_garden.ensures ∙ c.if-has_garden.false) (omega (arith, c.if-end_of-boards.false, c.end_of.ensures)))
    c.put_header-header_end.ensures.put c.put_boards-used.ensures.put
