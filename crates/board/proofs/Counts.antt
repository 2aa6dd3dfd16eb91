-- What a good plan has: at most 10 cells, and of a garden board a trigger of 1 to 255; and what a number stands for.
-- Assumes nothing.
use Prim.Native.Nat.{ℕ, ◌+◌, ◌*◌, ◌/◌, ◌%◌, ◌<◌, ◌≤◌}
use native.Mathlib.Omega.{arith}
use mathlib.Core.Path.{◌≡◌, refl, sym, ap}
use mathlib.Core.Bool.{Bool, true, false, true≢false, cond, not, ◌||◌}
use lib.Dec.{ltb}
use borrow.Author.Tests.{ltb-false, lt-ltb}
use Rattle.lists.specs.Compare.{◌above◌, outside}
use Rattle.lists.proofs.Split.{split}
use Rattle.board.specs.declared.Plan.{Plan}
use Rattle.board.specs.Plan.{is_garden, bad_garden, bad_plan, plan_of, plan_number}

neither : (a b : Bool) → not (a || b) ≡ true → (a ≡ false) × (b ≡ false)
neither false false e = (refl, refl)
neither false true e = absurd (true≢false (sym e))
neither true b e = absurd (true≢false (sym e))

pub within : (low high n : ℕ) → not (outside low high n) ≡ true → (low ≤ n) × (n ≤ high)
within low high n e =
    let no = neither (ltb n low) (ltb high n) e in
    (ltb-false n low no.0, ltb-false high n no.1)

-- what is bad by its kind is not so
by_kind : (p : Plan) → not (bad_plan p) ≡ true → cond (is_garden p.kind) (bad_garden p) (outside 5 10 p.cells) ≡ false
by_kind p e = (neither (p.kind above 2) (cond (is_garden p.kind) (bad_garden p) (outside 5 10 p.cells)) e).1

good-garden : (p : Plan) → is_garden p.kind ≡ true → not (bad_plan p) ≡ true → (outside 3 5 p.cells ≡ false) × (outside 1 255 p.trigger ≡ false)
good-garden p is e =
    let good : bad_garden p ≡ false = rw is at (by_kind p e) in
    let made = neither (outside 3 5 p.cells || p.row above 2) (outside 1 255 p.trigger) (ap not good) in
    ((neither (outside 3 5 p.cells) (p.row above 2) (ap not made.0)).0, made.1)

pub good-plan : (p : Plan) → not (bad_plan p) ≡ true → p.cells ≤ 10
good-plan p e =
    split (is_garden p.kind)
    (λ is. let few = within 3 5 p.cells (ap not (good-garden p is e).0) in omega (arith, few.1))
    (λ is. let few : outside 5 10 p.cells ≡ false = rw is at (by_kind p e) in (within 5 10 p.cells (ap not few)).1)

pub good-trigger : (p : Plan) → is_garden p.kind ≡ true → not (bad_plan p) ≡ true → (1 ≤ p.trigger) × (p.trigger ≤ 255)
good-trigger p is e = within 1 255 p.trigger (ap not (good-garden p is e).1)

-- the number of a kind, cells, a row and a trigger that fit their bytes stands for them
module _ (kind cells row trigger : ℕ) (k : kind < 256) (c : cells < 256) (r : row < 256) (t : trigger < 256) where
  abbrev number : ℕ
  number = cells + 256 * kind + 65536 * row + 16777216 * trigger

  kind-stands : number / 256 % 256 ≡ kind
  kind-stands = omega (arith, k, c, r, t)

  cells-stand : number % 256 ≡ cells
  cells-stand = omega (arith, k, c, r, t)

  row-stands : number / 65536 % 256 ≡ row
  row-stands = omega (arith, k, c, r, t)

  trigger-stands : number / 16777216 ≡ trigger
  trigger-stands = omega (arith, k, c, r, t)

  pub plan-stands : plan_of (plan_number kind cells row trigger) ≡ record { kind = kind; cells = cells; row = row; trigger = trigger }
  plan-stands =
      rw (lt-ltb cells 256 c, lt-ltb row 256 r, lt-ltb trigger 256 t)
      (λ i. record { kind = kind-stands i; cells = cells-stand i; row = row-stands i; trigger = trigger-stands i })
