-- The journal and the latchings of a board's history (02, ticket 8): what is listed, and how its numbers go.
-- Assumes nothing.
use Rattle.std.specs.Prelude.{ℕ, ◌<◌, ◌≤◌, ◌≡◌, true, not, List, [], ◌∷◌, ◌++◌, length}
use Rattle.settings.specs.Faults.{Fault}
use Rattle.journal.specs.Ring.{Entry, listing, latest, words}
use Rattle.journal.specs.Ring as journal
use Rattle.board.specs.declared.Readings.{Readings}
use Rattle.board.specs.Latchings.{number_top, cause}
use Rattle.board.specs.Latchings as sample
use Rattle.board.specs.declared.Plan.{Plan}
use Rattle.board.specs.Plan.{bad_plan}
use Rattle.demands.specs.Paper.{sampled, framed, History, latching, sample_number, fault_cell, latchings, given}

-- something is so of each entry
abbrev pub EachOf : (Entry → Type 0) → List Entry → Type 0
EachOf P [] = Unit {0}
EachOf P (e ∷ es) = P e × EachOf P es

-- the latchings of one sample more
abbrev pub new_ones : Plan → History → Readings → List ℕ → List Entry
new_ones p h x mv = sample.latchings (λ f. latching p f (sampled x mv) h) (fault_cell p x mv h) (sample_number (sampled x mv ∷ h))

pub record Journaled (p : Plan) (h : History) : Type 0 where
  -- a listing is exactly the last 128 of the latchings, or all if fewer
  pub last-ones : listing (given p h).journal ≡ latest 128 (latchings p h)
  pub all_ones : length (latchings p h) ≤ 128 → listing (given p h).journal ≡ latchings p h
  -- one sample more puts its latchings behind those that were, and a frame puts none
  pub sample-enters : (x : Readings) (mv : List ℕ) → latchings p (sampled x mv ∷ h) ≡ latchings p h ++ new_ones p h x mv
  pub frame-enters-none : (address register v : ℕ) → latchings p (framed address register v ∷ h) ≡ latchings p h
  -- they have its number, and until the top those that were have lower ones
  pub own-number : (x : Readings) (mv : List ℕ) → EachOf (λ e. e.number ≡ sample_number (sampled x mv ∷ h)) (new_ones p h x mv)
  pub rising : (x : Readings) (mv : List ℕ) → sample_number h < number_top → EachOf (λ e. e.number < sample_number (sampled x mv ∷ h)) (latchings p h)
  pub never-falling : (x : Readings) (mv : List ℕ) → EachOf (λ e. e.number ≤ sample_number (sampled x mv ∷ h)) (latchings p h)
  -- an entry's words are its cause, its cell and its number
  pub in_words : not (bad_plan p) ≡ true → (f : Fault) (x : Readings) (mv : List ℕ) (number : ℕ) → words (journal.latching (cause f) (fault_cell p x mv h f) number ∷ []) ≡ cause f ∷ fault_cell p x mv h f ∷ number ∷ []
