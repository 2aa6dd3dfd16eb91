-- The number of the bled cells, from the highest cell down; and the rule without its order.
-- Assumes nothing.
use Prim.Native.Nat.{ℕ, zero, suc, ◌+◌, ◌-◌, ◌%◌, ◌<◌, ◌≤◌}
use native.Mathlib.Nat.{lt_of_lt_of_le, not-suc-le-zero}
use native.Mathlib.Omega.{arith}
use mathlib.Core.Path.{◌≡◌, refl, sym, ap, ◌∙◌}
use mathlib.Core.Bool.{Bool, true, false, true≢false, not, ◌&&◌, ◌||◌, or-false}
use mathlib.Core.List.{List, [], ◌∷◌}
use borrow.Author.Tests.{eq-eqb, ne_eqb}
use lib.Dec.{eqb}
use lib.ListN.{length, get_or, drop, length-drop, drop_of_length-le}
use lib.Seq.{drop-cons}
use lib.Pow.{pow_mono}
use Rattle.lists.specs.Marks.{bit, number, marked, marks}
use Rattle.lists.proofs.Marks.{marks-length, marks-at, number-below}
use Rattle.cells.specs.Bleed.{near, bled}
use Rattle.cells.specs.Way.{mark_next}

-- a cell below others, and the number with it
pub mark-turn : (b : Bool) (above : List Bool) → mark_next b (number above) ≡ number (b ∷ above)
unfolding number
mark-turn true above = omega arith
mark-turn false above = omega arith

-- the number of up to ten cells
pub below-ten : (bs : List Bool) → length bs ≤ 10 → number bs < 1024
below-ten bs h = lt_of_lt_of_le (number-below bs) (pow_mono h)

bled-length : (flags : List Bool) → length (bled flags) ≡ length flags
unfolding bled
bled-length [] = refl
bled-length (f ∷ flags) = ap suc (bled-length flags)

-- where no cell is flagged none is bled
pub none-bled : (n : ℕ) → number (bled (marks n 0)) ≡ 0
unfolding marks bled number
none-bled zero = refl
none-bled (suc n) = rw (none-bled n)

-- the last two bits of the number of the cells above say whether one of the two next higher ones is among them
pub near-number : (bs : List Bool) → eqb (number bs % 4) 0 ≡ not (near bs)
unfolding number
near-number [] = refl
near-number (true ∷ []) = refl
near-number (false ∷ []) = refl
near-number (true ∷ c ∷ bs) = ne_eqb (number (true ∷ c ∷ bs) % 4) 0 (by c) where
  by : (c : Bool) → number (true ∷ c ∷ bs) % 4 ≡ 0 → ⊥
  by true e = omega (arith, e)
  by false e = omega (arith, e)
near-number (false ∷ true ∷ bs) = ne_eqb (number (false ∷ true ∷ bs) % 4) 0 (λ e. omega (arith, e))
near-number (false ∷ false ∷ bs) = eq-eqb (number (false ∷ false ∷ bs) % 4) 0 (omega arith)

module _ (flags n : ℕ) where
  -- what the pass holds with the cells from place i up behind it: the bled ones
  pub record Bled (i out : ℕ) : Type 0 where
    pub in-out : out ≡ number (bled (drop i (marks n flags)))

  -- at its start
  pub bled-start : Bled n 0
  unfolding bled number
  bled-start =
      let past : drop n (marks n flags) ≡ [] = drop_of_length-le (marks n flags) {i = n} (rw (marks-length n flags) (omega arith)) in
      record { in-out = rw past }

  -- one cell further down
  pub bled-turn : {i out : ℕ} (b : Bool) → Bled i out → b ≡ (marked flags (i - 1) && eqb (out % 4) 0) → 0 < i → i ≤ n → Bled (i - 1) (mark_next b out)
  unfolding bled
  bled-turn {i = zero} b g e p q = absurd (not-suc-le-zero p)
  bled-turn {i = suc j} b g e p q =
      let F = marks n flags in
      let back : suc j - 1 ≡ j = omega arith in
      let here : drop j F ≡ marked flags j ∷ drop (suc j) F = drop-cons F j false (rw (marks-length n flags) (omega arith)) ∙ rw (marks-at n flags j (omega arith)) in
      let is-bled : b ≡ (marked flags j && not (near (bled (drop (suc j) F)))) = rw (g.in-out, back, near-number (bled (drop (suc j) F))) at e in
      record { in-out = rw (back, here, ← is-bled, g.in-out) (mark-turn b (bled (drop (suc j) F))) }

  pub bled-done : {i out : ℕ} → Bled i out → i ≡ 0 → out ≡ number (bled (marks n flags))
  bled-done g z = g.in-out ∙ rw z

  pub few-bled : {i out : ℕ} → Bled i out → n ≤ 10 → out < 1024
  few-bled {i} g h = rw g.in-out (below-ten (bled (drop i (marks n flags))) (rw (bled-length, length-drop i (marks n flags), marks-length n flags) (omega arith)))

-- ---- the rule without its order, of any number of cells

-- the cell at a place is bled; past the highest none is
abbrev pub bled_at : List Bool → ℕ → Bool
bled_at flags k = get_or (bled flags) k false

near_first : (bs : List Bool) → near bs ≡ (get_or bs 0 false || get_or bs 1 false)
near_first [] = refl
near_first (b ∷ []) = sym (or-false b)
near_first (b ∷ c ∷ bs) = refl

-- of any three cells in a row at most one is bled
pub bled-apart : (flags : List Bool) (k : ℕ) → bit (bled_at flags k) + bit (bled_at flags (suc k)) + bit (bled_at flags (suc (suc k))) ≤ 1
unfolding bled
bled-apart [] k = omega arith
bled-apart (f ∷ flags) zero = rw (near_first (bled flags)) (one_of f (bled_at flags 0) (bled_at flags 1) (bled-apart flags 0))
  where
    one_of : (f b c : Bool) → bit b + bit c + bit (bled_at flags 2) ≤ 1 → bit (f && not (b || c)) + bit b + bit c ≤ 1
    one_of true true c h = omega (arith, h)
    one_of false true c h = omega (arith, h)
    one_of true false true h = omega (arith, h)
    one_of false false true h = omega (arith, h)
    one_of true false false h = omega arith
    one_of false false false h = omega arith
bled-apart (f ∷ flags) (suc k) = bled-apart flags k

-- a flagged cell that is not bled has a bled one among the two above it
pub bled-full : (flags : List Bool) (k : ℕ) → get_or flags k false ≡ true → bled_at flags k ≡ false → (bled_at flags (suc k) || bled_at flags (suc (suc k))) ≡ true
unfolding bled
bled-full [] k e h = absurd (true≢false (sym e))
bled-full (f ∷ flags) zero e h = by (near (bled flags)) refl (rw e at h)
  where
    by : (t : Bool) → near (bled flags) ≡ t → not t ≡ false → (bled_at flags 0 || bled_at flags 1) ≡ true
    by true n h = sym (near_first (bled flags)) ∙ n
    by false n h = absurd (true≢false h)
bled-full (f ∷ flags) (suc k) e h = bled-full flags k e h
