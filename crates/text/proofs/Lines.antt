-- A line ends with its newline and has no other, and has 32 bytes at most.
-- Assumes nothing.
use Prim.Native.Nat.{ℕ, ◌+◌, ◌<◌, ◌≤◌}
use native.Mathlib.Omega.{arith}
use mathlib.Core.Path.{◌≡◌, refl}
use mathlib.Core.Bool.{Bool, true, false, not}
use mathlib.Core.List.{List, [], ◌∷◌, ◌++◌, append_assoc, append-nil}
use lib.Dec.{eqb, leb}
use lib.ListN.{length, length-append}
use borrow.Author.Tests.{ne_eqb, leb-true}
use Rattle.lists.specs.Marks.{bit}
use Rattle.lists.specs.Every.{every}
use Rattle.lists.proofs.Split.{split}
use Rattle.acts.specs.declared.Told.{Told}
use Rattle.acts.specs.declared.Told.TheVariants.{Opened, Status, Reply, Reading}
use Rattle.std.proofs.Common.{Result, Ok, Err}
use Rattle.text.specs.Text.{digit, decimal, words_of, text_of}
use Rattle.text.specs.Way.{placed, Typed}
use Rattle.text.proofs.Decimal.{decimal-five as five, decimal-fold, flag-digit}

abbrev pub plain : ℕ → Bool
plain b = not (eqb b 10)

number-plain : (n : ℕ) → n < 65536 → (s : List ℕ) → every plain (decimal n ++ s) ≡ every plain s
unfolding every
number-plain n h s = decimal-fold (λ v s. every plain s) (λ v d s l. rw (ne_eqb (digit d) 10 (λ e. omega arith))) n s h

number-last : (n : ℕ) → n < 65536 → every plain (decimal n) ≡ true
unfolding every
number-last n h = rw append-nil at (number-plain n h [])

flag-plain : (b : Bool) (s : List ℕ) → every plain (decimal (bit b) ++ s) ≡ every plain s
flag-plain true s = number-plain 1 (omega arith) s
flag-plain false s = number-plain 0 (omega arith) s

words-plain : (told : Result Told ℕ) → Typed told → every plain (words_of told) ≡ true
unfolding words_of every
words-plain (Ok Opened) h = refl
words-plain (Err n) h = simp (number-last n (omega arith))
words-plain (Ok (Status s)) h = simp (number-plain s.status (omega arith), number-last s.bled (omega arith))
words-plain (Ok (Reply r)) h =
    simp (number-plain r.address (omega arith), number-plain r.register (omega arith), number-plain r.value (omega arith), number-last r.check (omega arith))
words-plain (Ok (Reading w)) h = simp (flag-plain, number-plain w.flagged.board (omega arith), number-last w.flagged.cell (omega arith))

pub one-newline : (told : Result Told ℕ) → Typed told → (text_of told ≡ words_of told ++ (10 ∷ [])) × (every plain (words_of told) ≡ true)
unfolding text_of
one-newline told h = (refl, words-plain told h)

number-long : (n : ℕ) (s t : List ℕ) → length ((decimal n ++ s) ++ t) ≡ length (decimal n) + length (s ++ t)
number-long n s t = rw (append_assoc (decimal n) s t) (length-append (decimal n) (s ++ t))

-- and has 32 bytes at most, whatever its numbers
pub text-short : (told : Result Told ℕ) → length (text_of told) ≤ 32
unfolding text_of words_of
text-short (Ok Opened) = omega arith
text-short (Err n) = simp length-append (omega (arith, five n))
text-short (Ok (Status s)) = simp (number-long, length-append) (omega (arith, five s.status, five s.bled))
text-short (Ok (Reply r)) = simp (number-long, length-append) (omega (arith, five r.address, five r.register, five r.value, five r.check))
text-short (Ok (Reading w)) = simp (number-long, length-append, flag-digit) (omega (arith, five w.flagged.board, five w.flagged.cell))

-- so no line leaves its buffer
pub placed-inside : (room at : ℕ) (told : Result Told ℕ) → at ≤ room → at + length (placed room at told) ≤ room
unfolding placed
placed-inside room at told h =
    split (leb (at + 32) room) (λ e. rw e (omega (arith, leb-true (at + 32) room e, text-short told))) (λ e. rw e (omega arith))
