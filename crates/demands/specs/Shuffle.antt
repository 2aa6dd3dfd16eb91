-- A shuffle of a list (01, demand 3): by places; as entries taken out one after another; and as swaps of neighbours.
-- Assumes nothing.
use Rattle.std.specs.Prelude.{ℕ, suc, ◌+◌, ◌<◌, ◌≡◌, Bool, true, false, cond, not, ◌&&◌, ◌||◌, List, [], ◌∷◌, ◌++◌, map, ltb, eqb, length, get_or}
use Rattle.lists.specs.Marks.{bit}
use Rattle.lists.specs.Each.{each, all}

-- ---- by places

-- an order names places of a list, and the entries come in that order; `none` stands past its end
abbrev pub picked : {A : Type 0} → A → List ℕ → List A → List A
picked none order xs = map (λ p. get_or xs p none) order

-- how often a place is named, and after how many others it first is
abbrev pub times : ℕ → List ℕ → ℕ
times p [] = 0
times p (q ∷ order) = bit (eqb p q) + times p order

abbrev pub turn : ℕ → List ℕ → ℕ
turn p [] = 0
turn p (q ∷ order) = cond (eqb p q) 0 (suc (turn p order))

-- every place of the list is named once, and no other; and of two entries that are tied, the one that stood earlier comes earlier
pub record Shuffle {A : Type 0} (tied : A → A → Bool) (none : A) (xs : List A) (order : List ℕ) : Type 0 where
  pub once : (p : ℕ) → times p order ≡ bit (ltb p (length xs))
  pub stays : (p q : ℕ) → p < q → q < length xs → tied (get_or xs p none) (get_or xs q none) ≡ true → turn p order < turn q order

-- the same as a test
abbrev pub inside : ℕ → List ℕ → Bool
inside n [] = true
inside n (q ∷ order) = ltb q n && inside n order

abbrev pub keeps_turn : {A : Type 0} → (A → A → Bool) → A → List A → List ℕ → ℕ → ℕ → Bool
keeps_turn tied none xs order p q = not (ltb p q && tied (get_or xs p none) (get_or xs q none)) || ltb (turn p order) (turn q order)

abbrev pub shuffles : {A : Type 0} → (A → A → Bool) → A → List A → List ℕ → Bool
shuffles tied none xs order =
    let n = length xs in
    inside n order
    && all (each 0 n (λ p. eqb (times p order) 1))
    && all (each 0 n (λ q. all (each 0 n (λ p. keeps_turn tied none xs order p q))))

-- ---- by taking out

-- an entry is tied to none of these, which stand in front of it
abbrev pub Free : {A : Type 0} → (A → A → Bool) → A → List A → Type 0
Free tied a [] = Unit {0}
Free tied a (b ∷ before) = (tied b a ≡ false) × Free tied a before

-- the first of the other list stood behind entries that it may pass, and the rest is taken out of what is left
abbrev pub TakenOut : {A : Type 0} → (A → A → Bool) → List A → List A → Type 0
TakenOut tied xs [] = xs ≡ []
TakenOut {A} tied xs (a ∷ others) = (before : List A) × (after : List A) × (xs ≡ before ++ (a ∷ after)) × Free tied a before × TakenOut tied (before ++ after) others

-- ---- by swaps of neighbours that are not tied

pub data Swaps {A : Type 0} (tied : A → A → Bool) : List A → List A → Type 0 where
  as-it-is : {xs : List A} → Swaps tied xs xs
  swap : (before : List A) (a b : A) (after : List A) {ys : List A} → tied a b ≡ false
      → Swaps tied (before ++ (b ∷ a ∷ after)) ys → Swaps tied (before ++ (a ∷ b ∷ after)) ys

-- ---- of two lists: the other one is made by some order (the laws same-as-taken-out and same-as-swaps: just where it is made so)

abbrev pub Shuffled : {A : Type 0} → (A → A → Bool) → A → List A → List A → Type 0
Shuffled tied none xs ys = (order : List ℕ) × Shuffle tied none xs order × (picked none order xs ≡ ys)
