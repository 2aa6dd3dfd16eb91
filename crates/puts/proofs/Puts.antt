-- Texts put into a buffer one after the other.
-- Assumes nothing.
use Prim.Native.Nat.{ℕ, suc, ◌+◌, ◌<◌, ◌≤◌}
use native.Mathlib.Omega.{arith}
use native.Mathlib.Numerals.{add-one}
use native.Mathlib.Nat.{add-zero}
use mathlib.Core.Path.{◌≡◌, sym, ap, ◌∙◌}
use mathlib.Core.List.{List, [], ◌∷◌, ◌++◌}
use lib.ListN.{length, get_or, set, take, drop, length-append}
use lib.Seq.{sets, length-sets, sets-eq, length-take-le, take-suc, take_at}
use Rattle.puts.specs.Put.{Put}

pub sets-append : (l : List ℕ) (i : ℕ) (a b : List ℕ) → sets l i (a ++ b) ≡ sets (sets l i a) (i + length a) b
sets-append l i [] b = rw (add-zero i)
sets-append l i (x ∷ a) b =
    let e : i + suc (length a) ≡ suc i + length a = omega arith in
    rw e (sets-append (set l i x) (suc i) a b)

-- a turn of a copy
pub sets-turn : (at : ℕ) (s old new : List ℕ) (i : ℕ) → new ≡ sets old at (take i s) → i < length s → set new (at + i) (get_or s i 0) ≡ sets old at (take (i + 1) s)
sets-turn at s old new i e h =
    let few : length (take i s) ≡ i = length-take-le i s (omega arith) in
    rw (e, add-one i, take-suc s i 0 h, sets-append old at (take i s) (get_or s i 0 ∷ []), few)

-- one text and then another
pub put_then : {at m r : ℕ} {a b old mid new : List ℕ} → Put at a old mid m → Put m b mid new r → Put at (a ++ b) old new r
put_then {at} {m} {r} {a} {b} {old} p q =
    record {
      after = rw (length-append a b) (omega (arith, p.after, q.after));
      whole = rw (sets-append old at a b, ← p.whole, ← p.after) q.whole;
    }

-- what a caller reads off: the buffer's length stays, and the bytes up to the next place are those before and the text
pub put_same : {at r : ℕ} {text old new : List ℕ} → Put at text old new r → length new ≡ length old
put_same {at} {r} {text} {old} p = ap length p.whole ∙ length-sets old at text

pub put-take : {at r : ℕ} {text old new : List ℕ} → Put at text old new r → r ≤ length old → take r new ≡ take at old ++ text
put-take {at} {r} {text} {old} p h =
    let fits : at + length text ≤ length old = omega (arith, p.after) in
    let len : length (take at old ++ text) ≡ r = length-append (take at old) text ∙ rw (length-take-le at old (omega arith)) (sym p.after) in
    rw (p.whole, sets-eq text old at fits, take_at (take at old ++ text) (drop (at + length text) old) r len)
