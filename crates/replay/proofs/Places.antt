-- The first sixteen cells and plans, one by one, and what stands at a place.
-- Assumes nothing.
use Prim.Native.Nat.{ℕ, zero, suc, ◌+◌, ◌*◌, ◌-◌, ◌<◌, ◌≤◌, min}
use native.Mathlib.Nat.{not-suc-le-zero, le_of_suc-le-suc}
use native.Mathlib.Omega.{arith}
use mathlib.Core.Path.{◌≡◌, refl, sym, ap, ◌∙◌}
use mathlib.Core.List.{List, ◌++◌, map}
use Rattle.std.proofs.lemmas.List.{take-replicate, drop-replicate, append-nil}
use lib.ListN.{length, get_or, take, drop, replicate, length-map, length-take}
use lib.Seq.{drop-drop}
use Rattle.lists.proofs.Fill.{filled}
use Rattle.format.specs.Read.{number_in, pairs_in, boards_from, board_in}
use Rattle.format.proofs.WrittenAgain.{boards-length}
use Rattle.replay.specs.Check.{plan_by}
use Rattle.replay.specs.Way.{front}

-- ---- the places of an array, filled from the front: `few` of sixteen
abbrev zeros : List ℕ
zeros = replicate 16 0

module _ (n few : ℕ) (ef : few ≡ min n 16) (xs : List ℕ) where
  pub fill-starts : take few (zeros) ≡ filled 0 (min n 16) xs 0
  fill-starts = let all : min n 16 - 0 ≡ min n 16 = omega arith in rw (ef, all) (take-replicate (min n 16) 16 0 (omega arith))

  pub fill-goes : (i : ℕ) → i < length (take few (zeros)) → (i < n) × (i < min n 16)
  fill-goes i h = (omega (arith, h, ef, length-take few (zeros)), omega (arith, h, ef, length-take few (zeros)))

  pub fill-ends : (i : ℕ) (out : List ℕ) → out ≡ filled 0 (min n 16) xs i → i ≤ length (take few (zeros)) → length (take few (zeros)) ≤ i → out ++ drop few (zeros) ≡ front n xs
  fill-ends i out e most least =
      let all : i ≡ min n 16 = omega (arith, most, least, ef, length-take few (zeros)) in
      let none : min n 16 - min n 16 ≡ 0 = omega arith in
      rw (e, all, none, ef, drop-replicate {X = ℕ} (min n 16) 16 0, append-nil)

-- the entry that a loop comes to lies where it reads
later : (i : ℕ) (rest : List ℕ) → drop (2 * i) (drop 2 rest) ≡ drop (2 * suc i) rest
later i rest = let there : 2 + 2 * i ≡ 2 * suc i = omega arith in drop-drop (2 * i) 2 rest ∙ ap (λ (k : ℕ). drop k rest) there

pub pair-at : (n i : ℕ) (rest : List ℕ) → i < n → get_or (pairs_in n rest) i 0 ≡ number_in 2 (drop (2 * i) rest)
unfolding pairs_in
pair-at zero i rest p = absurd (not-suc-le-zero p)
pair-at (suc n) zero rest p = refl
pair-at (suc n) (suc i) rest p = pair-at n i (drop 2 rest) (le_of_suc-le-suc p) ∙ ap (number_in 2) (later i rest)

pub plan-at : (n i : ℕ) (rest : List ℕ) → i < n → get_or (map plan_by (boards_from n rest)) i 0 ≡ 256 * number_in 1 (drop (2 * i) rest) + number_in 1 (drop 1 (drop (2 * i) rest))
unfolding boards_from board_in
plan-at zero i rest p = absurd (not-suc-le-zero p)
plan-at (suc n) zero rest p = refl
plan-at (suc n) (suc i) rest p = plan-at n i (drop 2 rest) (le_of_suc-le-suc p) ∙ ap (λ (l : List ℕ). 256 * number_in 1 l + number_in 1 (drop 1 l)) (later i rest)

-- ---- the same of the boards, which stand behind the header
module _ (bytes : List ℕ) (n i : ℕ) (here : i < n) where
  pub next-plan : (kind cells : ℕ) → kind ≡ number_in 1 (drop (8 + 2 * i) bytes) → cells ≡ number_in 1 (drop (9 + 2 * i) bytes) → 256 * kind + cells ≡ get_or (map plan_by (boards_from n (drop 8 bytes))) i 0
  next-plan kind cells k c =
      let there : 8 + 2 * i + 1 ≡ 9 + 2 * i = omega arith in
      let one : number_in 1 (drop (2 * i) (drop 8 bytes)) ≡ kind = ap (number_in 1) (drop-drop (2 * i) 8 bytes) ∙ sym k in
      let two : number_in 1 (drop 1 (drop (2 * i) (drop 8 bytes))) ≡ cells = ap (number_in 1) (ap (drop 1) (drop-drop (2 * i) 8 bytes) ∙ drop-drop 1 (8 + 2 * i) bytes ∙ ap (λ (j : ℕ). drop j bytes) there) ∙ sym c in
      sym (plan-at n i (drop 8 bytes) here ∙ rw (one, two))

pub plans-length : (n : ℕ) (rest : List ℕ) → length (map plan_by (boards_from n rest)) ≡ n
plans-length n rest = length-map (boards_from n rest) plan_by ∙ boards-length n rest
