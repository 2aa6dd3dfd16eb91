-- Demand 1, as far as a statement adds to what the checker shows of every function: refusals come by the table alone, in its order, each exactly under its condition, and change nothing (01, Refusal numbers).
-- Assumes nothing.
use Rattle.std.specs.Prelude.{ℕ, ◌<◌, ◌≡◌, ◌⊎◌, ◌↔◌, true, false, List, [], ◌∷◌, map, length}
use Rattle.refusal.specs.Said.{Said, refuses, Bar}
use Rattle.board.specs.declared.Board.{Board}
use Rattle.board.specs.declared.Readings.{Readings}
use Rattle.stack.specs.Open.{open_bars, opening_said, open_answer, open_row}
use Rattle.demands.specs.Acts.{Act, sample, frame, listing, reading, up, outcome, bars, next}

-- n is the number of the first row of a table whose condition holds
abbrev pub FirstIs : ℕ → List Bar → Type 0
FirstIs n [] = ⊥
FirstIs n (b ∷ rows) = ((b.when ≡ true) × (b.number ≡ n)) ⊎ ((b.when ≡ false) × FirstIs n rows)

abbrev pub NoneHolds : List Bar → Type 0
NoneHolds [] = Unit {0}
NoneHolds (b ∷ rows) = (b.when ≡ false) × NoneHolds rows

-- refused with n exactly if n is the first, accepted exactly if there is none
pub record ByTable (rows : List Bar) (said : Said) : Type 0 where
  pub refused : (n : ℕ) → 0 < n → (said ≡ refuses n) ↔ FirstIs n rows
  pub accepted : (said.number ≡ 0) ↔ NoneHolds rows

-- the buffer that an act lends
abbrev pub lent : Act → List ℕ
lent (sample n x mv) = []
lent (frame bytes buffer) = buffer
lent (listing n buffer) = buffer
lent reading = []
lent up = []

-- the rows that each act meets, in the paper's order
abbrev pub numbers_of : List Bar → List ℕ
numbers_of rows = map (λ b. b.number) rows

pub record InOrder (row : List Board) : Type 0 where
  pub of-sample : (n : ℕ) (x : Readings) (mv : List ℕ) → numbers_of (bars row (sample n x mv)) ≡ 1 ∷ 2 ∷ 3 ∷ 4 ∷ 5 ∷ []
  pub of-frame : (bytes buffer : List ℕ) → numbers_of (bars row (frame bytes buffer)) ≡ 1 ∷ 6 ∷ 7 ∷ 8 ∷ 2 ∷ 9 ∷ 10 ∷ 13 ∷ 11 ∷ []
  pub of-listing : (n : ℕ) (buffer : List ℕ) → numbers_of (bars row (listing n buffer)) ≡ 1 ∷ 2 ∷ 14 ∷ []
  pub of-reading : numbers_of (bars row reading) ≡ 1 ∷ []
  pub of-up : numbers_of (bars row up) ≡ 1 ∷ []

-- on any row of records, also one that no opening gave
pub record Demand1 (row : List Board) : Type 0 where
  pub order : InOrder row
  pub by-table : (a : Act) → ByTable (bars row a) (outcome row a).said
  pub unchanged : (a : Act) (n : ℕ) → 0 < n → (outcome row a).said ≡ refuses n → (next row a ≡ row) × ((outcome row a).buffer ≡ lent a)

-- and of an opening, on any row and any plans
pub record Demand1Opening (row : List Board) (plans : List ℕ) : Type 0 where
  pub by-table : ByTable (open_bars (length row) plans) (opening_said (open_answer row plans))
  pub unchanged : (n : ℕ) → 0 < n → opening_said (open_answer row plans) ≡ refuses n → open_row row plans ≡ row
