-- Sets of cells, by numbers and cell by cell: the flagged ones, whether there is one at all, whether a cell is in it, and the lowest.
-- Assumes nothing.
use Prim.Native.Nat.{ℕ, zero, suc, ◌+◌, ◌-◌, ◌/◌, ◌%◌, ◌^◌, ◌<◌, ◌≤◌}
use native.Mathlib.Nat.{two-pow-succ, div-one, div-div-eq-div-mul, mod-eq_of_lt}
use native.Mathlib.Omega.{arith}
use mathlib.Core.Path.{◌≡◌, refl, sym, ap, ap₂, ◌∙◌}
use mathlib.Core.Bool.{Bool, true, false, cond, not, ◌&&◌, ◌||◌}
use mathlib.Core.List.{List, [], ◌∷◌}
use borrow.Author.Tests.{ne_eqb, ltb-true, ltb-false}
use lib.Bits.{bit_and, bit_or}
use lib.Dec.{eqb, ltb}
use mir.Syntax.{w16}
use Rattle.std.specs.Int.{bit_at}
use Rattle.std.specs.Option.{MatchOption}
use Rattle.std.specs.Prelude.{Option, Some, None}
use Rattle.std.proofs.lemmas.Nat.Bits.{bit_at_and, bit_at_not, bit_at_xor, bit_at-lt, bit_at_above, same_from_bits}
use Rattle.lists.proofs.Split.{split}
use Rattle.lists.specs.Marks.{number, marked, marks, lowest}
use Rattle.lists.proofs.Marks.{without, number_at, number-below, number-marks, marked-above, or_turn, without-turn, lowest-zero}
use Rattle.lists.specs.Each.{each, some}
use Rattle.cells.specs.Cells.{lowest_cell}
use Rattle.cells.specs.Way.{flag_at}
use Rattle.lists.proofs.Each.{each-length, each-place, each-down, each_none}

module _ (f g : ℕ → Bool) where
  or-each : (i n : ℕ) → bit_or (number (each i n f)) (number (each i n g)) ≡ number (each i n (λ k. f k || g k))
  unfolding each number
  or-each i zero = refl
  or-each i (suc n) = rw (← or-each (suc i) n) (or_turn (f i) (g i) (number (each (suc i) n f)) (number (each (suc i) n g)))

  without-each : (i n : ℕ) → without (number (each i n f)) (number (each i n g)) ≡ number (each i n (λ k. f k && not (g k)))
  unfolding each number
  without-each i zero = refl
  without-each i (suc n) = rw (← without-each (suc i) n) (without-turn (f i) (g i) (number (each (suc i) n f)) (number (each (suc i) n g)))

-- the first n cells of a number, place by place
marks-each : (x i n : ℕ) → marks n (x / 2 ^ i) ≡ each i n (marked x)
unfolding marks each
marks-each x i zero = refl
marks-each x i (suc n) =
    let on : x / 2 ^ i / 2 ≡ x / 2 ^ suc i = div-div-eq-div-mul x (2 ^ i) 2 ∙ ap (λ (m : ℕ). x / m) (omega (arith, two-pow-succ i)) in
    rw (on, marks-each x (suc i) n)

first-each : (x n : ℕ) → x % 2 ^ n ≡ number (each 0 n (marked x))
first-each x n = sym (number-marks n x) ∙ ap number (ap (marks n) (sym (div-one x)) ∙ marks-each x 0 n)

own-each : (x n : ℕ) → x < 2 ^ n → x ≡ number (each 0 n (marked x))
own-each x n h = sym (mod-eq_of_lt h) ∙ first-each x n

-- of 16 places, those of one set that another has not
pub and-not : (x y : ℕ) → x < 65536 → y < 65536 → bit_and x (65535 - y) ≡ without x y
and-not x y p q =
    same_from_bits
    (bit_and x (65535 - y))
    (without x y)
    (λ i. split
    (ltb i 16)
    (λ e.
    let at : i < 16 = ltb-true i 16 e in
    rw (bit_at_and x (65535 - y) i, bit_at_not w16 y i q at, bit_at_xor x (bit_and x y) i, bit_at_and x y i) (omega (arith, bit_at-lt x i, bit_at-lt y i)))
    (λ e.
    let none : bit_at x i ≡ 0 = bit_at_above x 16 i p (ltb-false i 16 e) in
    rw (bit_at_and x (65535 - y) i, bit_at_xor x (bit_and x y) i, bit_at_and x y i, none) (omega arith)))

-- those that have stood, and those flagged before that do not read low
pub flags-set : (stands low flags n : ℕ) → stands < 2 ^ n → low < 2 ^ n
    → bit_or stands (without (flags % 2 ^ n) low) ≡ number (each 0 n (flag_at stands low flags))
flags-set stands low flags n hs hl =
    let kept : without (flags % 2 ^ n) low ≡ number (each 0 n (λ k. marked flags k && not (marked low k))) =
    ap₂ without (first-each flags n) (own-each low n hl) ∙ without-each (marked flags) (marked low) 0 n in
    ap₂ bit_or (own-each stands n hs) kept ∙ or-each (marked stands) (λ k. marked flags k && not (marked low k)) 0 n

-- a number is not 0 exactly if it has some cell
pub some-lowest : (k : ℕ) (bs : List Bool) → not (eqb (lowest (k + 1) bs) 0) ≡ some bs
unfolding lowest
some-lowest k [] = refl
some-lowest k (true ∷ bs) = rw (ne_eqb (k + 1) 0 (λ e. omega arith))
some-lowest k (false ∷ bs) = some-lowest (k + 1) bs

pub some_number : (bs : List Bool) → not (eqb (number bs) 0) ≡ some bs
some_number bs = rw (← lowest-zero 0 bs) (some-lowest 0 bs)

-- a cell is in a set exactly if it is so at its place
pub set_at : (f : ℕ → Bool) (n k : ℕ) → k < n → marked (number (each 0 n f)) k ≡ f k
set_at f n k p = number_at (each 0 n f) k (rw (each-length f 0 n) p) ∙ each-place f n k false p

-- ---- the lowest cell of some, found from the highest down
pub lowest-none : (f : ℕ → Bool) (n : ℕ) → 0 ≡ lowest (n + 1) (each n (n - n) f)
unfolding lowest
lowest-none f n = rw (each_none f n)

pub lowest-down : (f : ℕ → Bool) (i n low : ℕ) → 0 < i → i ≤ n → low ≡ lowest (i + 1) (each i (n - i) f) → cond (f (i - 1)) (i - 1 + 1) low ≡ lowest (i - 1 + 1) (each (i - 1) (n - (i - 1)) f)
unfolding lowest
lowest-down f i n low p q e =
    let back : i - 1 + 1 + 1 ≡ i + 1 = omega arith in
    rw (each-down f i n p q, e, back)

-- cells past the last are in no set, so they do not count
lowest-nothing : (f : ℕ → Bool) (low i n : ℕ) → ((k : ℕ) → i ≤ k → k < i + n → f k ≡ false) → lowest low (each i n f) ≡ 0
unfolding lowest each
lowest-nothing f low i zero none = refl
lowest-nothing f low i (suc n) none = rw (none i (omega arith) (omega arith)) (lowest-nothing f (low + 1) (suc i) n (λ k l m. none k (omega arith) (omega arith)))

lowest-before : (f g : ℕ → Bool) (low i n m : ℕ) → ((k : ℕ) → k < i + n → f k ≡ g k) → ((k : ℕ) → i + n ≤ k → f k ≡ false) → lowest low (each i (n + m) f) ≡ lowest low (each i n g)
unfolding lowest each
lowest-before f g low i zero m same none = let all : zero + m ≡ m = omega arith in rw all (lowest-nothing f low i m (λ k l _. none k (omega arith)))
lowest-before f g low i (suc n) m same none =
    let one : suc n + m ≡ suc (n + m) = omega arith in
    rw (one, same i (omega arith), lowest-before f g (low + 1) (suc i) n m (λ k l. same k (omega arith)) (λ k l. none k (omega arith)))

pub lowest_set : (f : ℕ → Bool) (n : ℕ) → n ≤ 10 → lowest_cell (number (each 0 n f)) ≡ lowest 1 (each 0 n f)
lowest_set f n few =
    let set = number (each 0 n f) in
    let ten : n + (10 - n) ≡ 10 = omega arith in
    let small : set < 2 ^ n = rw (each-length f 0 n) at (number-below (each 0 n f)) in
    ap (λ (m : ℕ). lowest 1 (each 0 m (marked set))) (sym ten) ∙ lowest-before (marked set) f 1 0 n (10 - n) (λ k l. set_at f n k (omega arith)) (λ k l. marked-above n set k small (omega arith))

-- ---- the lowest cell of some, found from the lowest up
lowest-first : (f : ℕ → Bool) (low i n k : ℕ) → i ≤ k → k < i + n → f k ≡ true → ((j : ℕ) → i ≤ j → j < k → f j ≡ false) → lowest low (each i n f) ≡ low + (k - i)
unfolding lowest each
lowest-first f low i zero k p q hit misses = omega arith
lowest-first f low i (suc n) k p q hit misses =
    split
    (ltb i k)
    (λ e.
    let on : i < k = ltb-true i k e in
    rw (misses i (omega arith) on, lowest-first f (low + 1) (suc i) n k (omega arith) (omega arith) hit (λ j l m. misses j (omega arith) m)) (omega arith))
    (λ e.
    let here : k ≡ i = omega (arith, ltb-false i k e) in
    let found : f i ≡ true = rw (← here) hit in
    rw found (omega arith))

-- what a search over the ten places gives
pub lowest-found : (f : ℕ → Bool) (found : Option ℕ) (low : ℕ)
    → MatchOption found ((k : ℕ) → 0 ≤ k → k < 10 → f k ≡ false) (λ i. (0 ≤ i) × (i < 10) × (f i ≡ true) × ((k : ℕ) → 0 ≤ k → k < i → f k ≡ false))
    → MatchOption found (low ≡ 0) (λ i. low ≡ i + 1)
    → low ≡ lowest 1 (each 0 10 f)
lowest-found f None low misses is = is ∙ sym (lowest-nothing f 1 0 10 (λ k l m. misses k l (omega arith)))
lowest-found f (Some i) low first is = is ∙ omega (arith, lowest-first f 1 0 10 i (omega arith) (omega arith) first.2 first.3)
