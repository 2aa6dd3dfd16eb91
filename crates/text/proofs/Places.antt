-- Where the line of an answer is put.
-- Assumes nothing.
use Prim.Native.Nat.{ℕ, ◌+◌, ◌<◌, ◌≤◌}
use native.Mathlib.Nat.{add-zero}
use mathlib.Core.Path.{◌≡◌, refl, sym}
use mathlib.Core.List.{List, []}
use lib.ListN.{length}
use borrow.Author.Tests.{le-leb, lt-leb}
use Rattle.puts.specs.Put.{Put}
use Rattle.std.proofs.Common.{Result}
use Rattle.acts.specs.declared.Told.{Told}
use Rattle.text.specs.Text.{text_of}
use Rattle.text.specs.Way.{placed}

-- without 32 free bytes nothing is put, and with them the line
pub placed-none : (room at : ℕ) (told : Result Told ℕ) → room < at + 32 → placed room at told ≡ []
unfolding placed
placed-none room at told h = rw (lt-leb (at + 32) room h)

pub placed-all : (room at : ℕ) (told : Result Told ℕ) → at + 32 ≤ room → placed room at told ≡ text_of told
unfolding placed
placed-all room at told h = rw (le-leb (at + 32) room h)

pub put-none : {at : ℕ} {old : List ℕ} (told : Result Told ℕ) → length old < at + 32 → Put at (placed (length old) at told) old old at
put-none {at} {old} told h = rw (placed-none (length old) at told h) (record { after = sym (add-zero at); whole = refl })

pub put-line : {at r : ℕ} {line old new : List ℕ} (told : Result Told ℕ) → at + 32 ≤ length old → line ≡ text_of told → Put at line old new r → Put at (placed (length old) at told) old new r
put-line {at} {old = old} told h e p = rw (placed-all (length old) at told h, ← e) p
