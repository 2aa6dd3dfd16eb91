-- How long the pieces of a recording are, and lists of them.
-- Assumes nothing.
use Prim.Native.Nat.{ℕ, zero, suc, ◌+◌, ◌*◌, ◌/◌, ◌≤◌}
use native.Mathlib.Omega.{arith}
use mathlib.Core.Path.{◌≡◌, refl, ap}
use mathlib.Core.List.{List, [], ◌∷◌, ◌++◌, append_assoc, map}
use lib.IntN.{ℤ}
use lib.ListN.{length, length-append}
use Rattle.format.specs.Format.{little, all_bytes, sample, body_of, Noted, act_bytes, answer_bytes, recording, header, Listed, board_bytes}

pub little-length : (w n : ℕ) → length (little w n) ≡ w
unfolding little
little-length zero n = refl
little-length (suc w) n = ap suc (little-length w (n / 256))

-- ---- lists of pieces
module _ {A : Type 0} (bytes : A → List ℕ) where
  pub all_append : (xs ys : List A) → all_bytes bytes (xs ++ ys) ≡ all_bytes bytes xs ++ all_bytes bytes ys
  all_append [] ys = refl
  all_append (x ∷ xs) ys = rw (all_append xs ys, append_assoc (bytes x) (all_bytes bytes xs) (all_bytes bytes ys))

  pub all-twos : ((x : A) → length (bytes x) ≡ 2) → (xs : List A) → length (all_bytes bytes xs) ≡ 2 * length xs
  all-twos h [] = refl
  all-twos h (x ∷ xs) = rw (length-append (bytes x) (all_bytes bytes xs)) (omega (arith, h x, all-twos h xs))

  pub all_map : {B : Type 0} (f : B → A) (xs : List B) → all_bytes bytes (map f xs) ≡ all_bytes (λ x. bytes (f x)) xs
  all_map f [] = refl
  all_map f (x ∷ xs) = ap (λ (l : List ℕ). bytes (f x) ++ l) (all_map f xs)

-- ---- a sample, and a recording
pub sample-length : (board elapsed load thermistor : ℕ) (shunt : ℤ) (cells : List ℕ) → length (body_of (sample board elapsed load thermistor shunt cells)) ≡ 12 + 2 * length cells
unfolding body_of little
sample-length board elapsed load thermistor shunt cells = omega (arith, all-twos (little 2) (little-length 2) cells)

-- an act has three bytes at least
pub act-long : (n : Noted) → 3 ≤ length (act_bytes n)
unfolding act_bytes little answer_bytes
act-long n = simp length-append (omega arith)

pub board-length : (b : Listed) → length (board_bytes b) ≡ 2
unfolding board_bytes little
board-length b = refl

pub header-length : (boards acts : ℕ) → length (header boards acts) ≡ 8
unfolding header little
header-length boards acts = refl

pub recording-length : (boards : List Listed) (acts : List Noted) → length (recording boards acts) ≡ 8 + 2 * length boards + length (all_bytes act_bytes acts)
unfolding recording
recording-length boards acts =
    rw (length-append (header (length boards) (length acts)) (all_bytes board_bytes boards ++ all_bytes act_bytes acts), length-append (all_bytes board_bytes boards) (all_bytes act_bytes acts))
    (omega (arith, header-length (length boards) (length acts), all-twos board_bytes board-length boards))
