-- A case on a test, with what each way shows.
-- Assumes nothing.
use mathlib.Core.Path.{◌≡◌, refl, sym}
use mathlib.Core.Bool.{Bool, true, false, true≢false, not, ◌&&◌}
use lib.Dec.{T as Holds}

pub split : {P : Type 0} (t : Bool) → (t ≡ true → P) → (t ≡ false → P) → P
split true f g = f refl
split false f g = g refl

pub both : (a b : Bool) → (a && b) ≡ true → (a ≡ true) × (b ≡ true)
both true b e = (refl, e)
both false b e = absurd (true≢false (sym e))

pub not_yes : (b : Bool) → not b ≡ true → b ≡ false
not_yes false e = refl
not_yes true e = absurd (true≢false (sym e))

-- what a test that holds comes to, and one that does not
pub is_true : (b : Bool) → Holds b → b ≡ true
is_true true h = refl
is_true false h = absurd h

pub is_false : (b : Bool) → Holds (not b) → b ≡ false
is_false true h = absurd h
is_false false h = refl
