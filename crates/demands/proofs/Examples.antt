-- The test of a shuffle tells just the shuffles; the orders of the table go by it.
-- Assumes nothing.
use Prim.Native.Nat.{ℕ, ◌<◌}
use native.Mathlib.Omega.{arith}
use mathlib.Core.Path.{◌≡◌, refl, sym, ap, ◌∙◌}
use mathlib.Core.Logic.{◌↔◌}
use mathlib.Core.Bool.{Bool, true, false, true≢false, ◌&&◌}
use mathlib.Core.List.{List, [], ◌∷◌}
use lib.Dec.{ltb, eqb}
use lib.ListN.{length, get_or}
use borrow.Author.Tests.{ltb-true, lt-ltb, eqb-true, eq-eqb}
use Rattle.lists.proofs.Split.{split, both}
use Rattle.lists.specs.Marks.{bit}
use Rattle.lists.specs.Marks.{number, marks, lowest}
use Rattle.journal.specs.Ring as journal
use Rattle.board.specs.Latchings as sample
use Rattle.lists.specs.Every.{every}
use Rattle.lists.specs.Each.{each, all}
use Rattle.cells.specs.Bleed.{bled}
use Rattle.latches.specs.Latches.{latches_byte}
use Rattle.board.specs.Shunt.{shunt_above}
use Rattle.reading.specs.Reading.{line_up, first_flagged, read_of}
use Rattle.reading.specs.Line.{looked_at}
use Rattle.stack.specs.Row.{good_row}
use Rattle.demands.specs.Acts.{reading}
use Rattle.demands.specs.Tied.{tied}
use Rattle.demands.specs.Shuffle.{times, turn, Shuffle, inside, keeps_turn, shuffles}
use Rattle.demands.specs.Examples.{nine, orders, right, Matters}
use Rattle.demands.proofs.Lists.{all-at, all_yes}

-- ---- places outside are not named

outside-none : (n p : ℕ) (order : List ℕ) → inside n order ≡ true → ltb p n ≡ false → times p order ≡ 0
outside-none n p [] e h = refl
outside-none n p (q ∷ order) e h =
    let parts = both (ltb q n) (inside n order) e in
    let rest = outside-none n p order parts.1 h in
    split (eqb p q)
    (λ same. absurd (true≢false (sym parts.0 ∙ ap (λ (k : ℕ). ltb k n) (sym (eqb-true p q same)) ∙ h)))
    (λ other. rw other (omega arith))

named-inside : (n : ℕ) (order : List ℕ) → ((p : ℕ) → 0 < times p order → ltb p n ≡ true) → inside n order ≡ true
named-inside n [] f = refl
named-inside n (q ∷ order) f =
    let here : 0 < times q (q ∷ order) = rw (eq-eqb q q refl) (omega arith) in
    rw (f q here) (named-inside n order (λ p h. f p (omega arith)))

module _ {A : Type 0} (tied : A → A → Bool) (none : A) (xs : List A) (order : List ℕ) where
  abbrev n : ℕ
  n = length xs

  abbrev once_at : ℕ → Bool
  once_at p = eqb (times p order) 1

  abbrev all_keep : ℕ → Bool
  all_keep q = all (each 0 n (λ p. keeps_turn tied none xs order p q))

  from-test : shuffles tied none xs order ≡ true → Shuffle tied none xs order
  from-test e =
      let a = both (inside n order && all (each 0 n once_at)) (all (each 0 n all_keep)) e in
      let b = both (inside n order) (all (each 0 n once_at)) a.0 in
      record {
        once = λ p.
            split (ltb p n)
            (λ h. eqb-true (times p order) 1 (all-at n once_at b.1 p (ltb-true p n h)) ∙ ap bit (sym h))
            (λ h. outside-none n p order b.0 h ∙ ap bit (sym h));
        stays = λ p q h k t.
            ltb-true (turn p order) (turn q order)
            (rw (lt-ltb p q h, t) at (all-at n (λ p. keeps_turn tied none xs order p q) (all-at n all_keep a.1 q k) p (omega arith)));
      }

  to-test : Shuffle tied none xs order → shuffles tied none xs order ≡ true
  to-test w = rw (places, turns-once, turns-kept)
    where
      named : (p : ℕ) → 0 < times p order → ltb p n ≡ true
      named p h = split (ltb p n) (λ e. e) (λ e. let none_of : times p order ≡ 0 = w.once p ∙ ap bit e in absurd (omega arith))

      places : inside n order ≡ true
      places = named-inside n order named

      turns-once : all (each 0 n once_at) ≡ true
      turns-once = all_yes n once_at (λ p h. eq-eqb (times p order) 1 (w.once p ∙ ap bit (lt-ltb p n h)))

      keeps : (p q : ℕ) → q < n → keeps_turn tied none xs order p q ≡ true
      keeps p q k =
          split (ltb p q)
          (λ h.
          split (tied (get_or xs p none) (get_or xs q none))
          (λ t. rw (h, t, lt-ltb (turn p order) (turn q order) (w.stays p q (ltb-true p q h) k t)))
          (λ t. rw (h, t)))
          (λ h. rw h)

      turns-kept : all (each 0 n all_keep) ≡ true
      turns-kept = all_yes n all_keep (λ q k. all_yes n (λ p. keeps_turn tied none xs order p q) (λ p h. keeps p q k))

  pub tested : (shuffles tied none xs order ≡ true) ↔ Shuffle tied none xs order
  tested = (from-test, to-test)

-- ---- the table

pub orders-right : right orders ≡ true
unfolding each
orders-right = refl

-- so one of them is a shuffle; one in which a board passes itself is none, nor one in which it passes a reading
pub allowed : Shuffle (tied 2) reading nine (7 ∷ 2 ∷ 6 ∷ 0 ∷ 1 ∷ 4 ∷ 3 ∷ 8 ∷ 5 ∷ [])
unfolding each
allowed = from-test (tied 2) reading nine (7 ∷ 2 ∷ 6 ∷ 0 ∷ 1 ∷ 4 ∷ 3 ∷ 8 ∷ 5 ∷ []) refl

pub past-itself : Shuffle (tied 2) reading nine (1 ∷ 0 ∷ 2 ∷ 3 ∷ 4 ∷ 5 ∷ 6 ∷ 7 ∷ 8 ∷ []) → ⊥
unfolding each
past-itself w = true≢false (sym (to-test (tied 2) reading nine (1 ∷ 0 ∷ 2 ∷ 3 ∷ 4 ∷ 5 ∷ 6 ∷ 7 ∷ 8 ∷ []) w))

pub past-reading : Shuffle (tied 2) reading nine (0 ∷ 1 ∷ 3 ∷ 2 ∷ 4 ∷ 5 ∷ 6 ∷ 7 ∷ 8 ∷ []) → ⊥
unfolding each
past-reading w = true≢false (sym (to-test (tied 2) reading nine (0 ∷ 1 ∷ 3 ∷ 2 ∷ 4 ∷ 5 ∷ 6 ∷ 7 ∷ 8 ∷ []) w))

pub order-matters : Matters
unfolding each shunt_above number bled latches_byte good_row every read_of line_up looked_at first_flagged lowest marks journal.listing journal.entered journal.no_entries journal.words sample.latchings
order-matters = record { before-reading = refl; behind-reading = refl; before-up = refl; behind-up = refl; before-listing = refl; behind-listing = refl; then-rest = refl; rest-first = refl }
