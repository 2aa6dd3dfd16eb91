-- A line can be read back, so two different answers never print the same one.
-- Assumes nothing.
use Prim.Native.Nat.{ℕ, ◌+◌, ◌-◌, ◌*◌, ◌<◌}
use Prim.Native.String.{String}
use native.Mathlib.Omega.{arith}
use mathlib.Core.Path.{◌≡◌, refl, sym, ap, ◌∙◌}
use mathlib.Core.Bool.{Bool, true, false, cond}
use mathlib.Core.List.{List, [], ◌∷◌, ◌++◌, append_assoc}
use lib.Dec.{ltb, eqb}
use lib.ListN.{get_or}
use borrow.Author.Tests.{le-ltb}
use Rattle.lists.specs.Marks.{bit}
use Rattle.acts.specs.declared.Told.{Told}
use Rattle.acts.specs.declared.Told.TheVariants.{Opened, Status, Reply, Reading}
use Rattle.std.proofs.Common.{Result, Ok, Err}
use Rattle.text.specs.Text.{bytes, digit, decimal, words_of, text_of}
use Rattle.text.specs.Way.{Typed}
use Rattle.text.proofs.Decimal.{decimal-fold}

-- the value of each word in base ten, letters too; a space or a newline ends a word, and the first has come to v already
unfoldable values : ℕ → List ℕ → List ℕ
values v [] = []
values v (b ∷ s) = cond (ltb b 48) (v ∷ values 0 s) (values (v * 10 + (b - 48)) s)

-- a number's value is the number
number-value : (n : ℕ) → n < 65536 → (s : List ℕ) → values 0 (decimal n ++ s) ≡ values n s
unfolding values
number-value n h s =
    decimal-fold values (λ v d s l. let same : digit d - 48 ≡ d = omega arith in rw (le-ltb (digit d) 48 (omega arith), same)) n s h

number-then : (n : ℕ) → n < 65536 → (s t : List ℕ) → values 0 ((decimal n ++ s) ++ t) ≡ values n (s ++ t)
number-then n h s t = rw (append_assoc (decimal n) s t) (number-value n h (s ++ t))

-- a flag is a number too
flag_small : (b : Bool) → bit b < 65536
flag_small true = omega arith
flag_small false = omega arith

flag-value : (b : Bool) → eqb (bit b) 1 ≡ b
flag-value true = refl
flag-value false = refl

-- the answer of which these are the values: its first word says which
abbrev word : String → ℕ
word w = get_or (values 0 (bytes w)) 0 0

abbrev told_of : List ℕ → Result Told ℕ
told_of vs =
    let at : ℕ → ℕ = λ i. get_or vs i 0 in
    cond (eqb (at 0) (word "ok ")) (Ok Opened)
    (cond (eqb (at 0) (word "no ")) (Err (at 1))
    (cond (eqb (at 0) (word "st ")) (Ok (Status (record { status = at 1; bled = at 3 })))
    (cond (eqb (at 0) (word "re ")) (Ok (Reply (record { address = at 1; register = at 2; value = at 3; check = at 4 })))
    (Ok (Reading (record { line = eqb (at 1) 1; chg = eqb (at 3) 1; dsg = eqb (at 5) 1; flagged = record { board = at 7; cell = at 8 } }))))))

read_back : (told : Result Told ℕ) → Typed told → told_of (values 0 (text_of told)) ≡ told
unfolding text_of words_of values
read_back (Ok Opened) h = refl
read_back (Err n) h = simp (number-value n (omega arith))
read_back (Ok (Status s)) h = simp (number-then s.status (omega arith), number-value s.bled (omega arith))
read_back (Ok (Reply r)) h =
    simp (number-then r.address (omega arith), number-then r.register (omega arith), number-then r.value (omega arith), number-value r.check (omega arith))
read_back (Ok (Reading w)) h =
    simp (number-then (bit w.line) (flag_small w.line), number-then (bit w.chg) (flag_small w.chg), number-then (bit w.dsg) (flag_small w.dsg), number-then w.flagged.board (omega arith), number-value w.flagged.cell (omega arith), flag-value)

pub text-apart : (a b : Result Told ℕ) → Typed a → Typed b → text_of a ≡ text_of b → a ≡ b
text-apart a b h k e = sym (read_back a h) ∙ ap (λ (s : List ℕ). told_of (values 0 s)) e ∙ read_back b k
