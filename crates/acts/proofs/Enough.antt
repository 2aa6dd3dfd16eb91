-- Sixteen cells, sixteen bytes and four bytes for a reply are enough: what is past them changes no answer and no row.
-- Assumes nothing.
use Prim.Native.Nat.{ℕ, ◌<◌, ◌≤◌, min}
use native.Mathlib.Omega.{arith}
use mathlib.Core.Path.{◌≡◌, refl}
use mathlib.Core.Bool.{true}
use mathlib.Core.List.{List}
use lib.Dec.{ltb, leb}
use lib.ListN.{length, take, length-take}
use lib.Seq.{take_all}
use borrow.Author.Tests.{ne_eqb, lt-ltb, le-ltb, ltb-true, ltb-false, leb-true, leb-false}
use Rattle.lists.proofs.Split.{split}
use Rattle.board.specs.declared.Board.{Board}
use Rattle.board.specs.declared.Readings.{Readings}
use Rattle.stack.specs.Row.{good_row, place_of, board_at}
use Rattle.stack.specs.Sample.{sample_answer, sample_row}
use Rattle.stack.specs.Frame.{frame_answer, frame_row}
use Rattle.stack.proofs.Ways.{board-few, has-board, has-none}

-- what holds of the whole of a short list, and of any two long ones, holds of its first sixteen
first-sixteen : (P : List ℕ → List ℕ → Type 0) → ((l : List ℕ) → P l l) → ((a b : List ℕ) → 15 < length a → 15 < length b → P a b) → (l : List ℕ) → P (take 16 l) l
first-sixteen P same long l =
    split (leb (length l) 16) (λ few. rw (take_all 16 l (leb-true _ _ few)) (same l))
    (λ over. let more : 16 < length l = leb-false _ _ over in long (take 16 l) l (rw (length-take 16 l) (omega arith)) (omega arith))

module _ (row : List Board) (n : ℕ) (x : Readings) where
  abbrev SameSample : List ℕ → List ℕ → Type 0
  SameSample a b = (sample_answer row n x a ≡ sample_answer row n x b) × (sample_row row n x a ≡ sample_row row n x b)

  -- no board has more than ten cells
  count-few : good_row row ≡ true → place_of n < length row → (board_at row (place_of n)).count ≤ 10
  count-few good there = board-few row good (place_of n) there

  long-cells : (a b : List ℕ) → 15 < length a → 15 < length b → SameSample a b
  unfolding sample_answer sample_row
  long-cells a b h k =
      split (good_row row)
      (λ good.
      split (ltb (place_of n) (length row))
      (λ e.
      let there = ltb-true (place_of n) (length row) e in
      let few = count-few good there in
      let count = (board_at row (place_of n)).count in
      let one = ne_eqb (length a) count (λ s. omega arith) in
      let two = ne_eqb (length b) count (λ s. omega arith) in
      (rw (good, has-board row good n there, one, two), rw (good, has-board row good n there, one, two)))
      (λ e. let none = has-none row good n (ltb-false _ _ e) in (rw (good, none), rw (good, none))))
      (λ bad. (rw bad, rw bad))

  pub cells-enough : (mv : List ℕ) → SameSample (take 16 mv) mv
  cells-enough = first-sixteen SameSample (λ l. (refl, refl)) long-cells

module _ (row : List Board) where
  abbrev SameFrame : List ℕ → List ℕ → List ℕ → List ℕ → Type 0
  SameFrame a lent b buffer = (frame_answer row a lent ≡ frame_answer row b buffer) × (frame_row row a lent ≡ frame_row row b buffer)

  pub bytes-enough : (buffer bytes : List ℕ) → SameFrame (take 16 bytes) buffer bytes buffer
  unfolding frame_answer frame_row
  bytes-enough buffer =
      first-sixteen (λ a b. SameFrame a buffer b buffer) (λ l. (refl, refl))
      (λ a b h k.
      let one = ne_eqb (length a) 4 (λ s. omega arith) in
      let two = ne_eqb (length b) 4 (λ s. omega arith) in
      split (good_row row) (λ good. (rw (good, one, two), rw (good, one, two))) (λ bad. (rw bad, rw bad)))

  pub room-enough : (bytes buffer : List ℕ) → SameFrame bytes (take 4 buffer) bytes buffer
  unfolding frame_answer frame_row
  room-enough bytes buffer =
      let long = length buffer in
      let same : ltb (length (take 4 buffer)) 4 ≡ ltb long 4 =
      rw (length-take 4 buffer) (split (ltb long 4) (λ e. rw e (lt-ltb (min 4 long) 4 (omega (arith, ltb-true long 4 e)))) (λ e. rw e (le-ltb (min 4 long) 4 (omega (arith, ltb-false long 4 e))))) in
      (rw same, rw same)
