-- A text put into a buffer.
-- Assumes nothing.
use Rattle.std.specs.Prelude.{ℕ, ◌+◌, ◌≡◌, List, length}
use Rattle.std.proofs.lemmas.List.Edits.{sets}

-- text is put into old from at on, which makes it new, and next is the place after it
pub record Put (at : ℕ) (text old new : List ℕ) (next : ℕ) : Type 0 where
  pub after : next ≡ at + length text
  pub whole : new ≡ sets old at text
