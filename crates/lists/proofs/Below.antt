-- A test that computes, of every number below another: what it says of each.
-- Assumes nothing.
use Prim.Native.Nat.{ℕ, zero, suc, ◌<◌}
use native.Mathlib.Nat.{not-suc-le-zero}
use native.Mathlib.Omega.{arith}
use mathlib.Core.Path.{◌≡◌, sym, subst}
use mathlib.Core.Bool.{Bool, true, ◌&&◌}
use lib.Dec.{eqb}
use borrow.Author.Tests.{eqb-true, eqb-false}
use Rattle.lists.proofs.Split.{split, both}

unfoldable pub right-below : (ℕ → Bool) → ℕ → Bool
right-below right zero = true
right-below right (suc n) = right n && right-below right n

below : (x n : ℕ) → x < suc n → (x ≡ n → ⊥) → x < n
below x n p other = omega (arith, other)

pub right-at : (right : ℕ → Bool) (n : ℕ) → right-below right n ≡ true → (x : ℕ) → x < n → right x ≡ true
unfolding right-below
right-at right zero t x p = absurd (not-suc-le-zero p)
right-at right (suc n) t x p =
    let h = both (right n) (right-below right n) t in
    split (eqb x n)
    (λ e. subst (λ (y : ℕ). right y ≡ true) (sym (eqb-true x n e)) h.0)
    (λ e. let other = eqb-false x n e in right-at right n h.1 x (below x n p other))
