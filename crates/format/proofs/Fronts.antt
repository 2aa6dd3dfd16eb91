-- Pieces at the front of a list of bytes: read back from what was written, and written again from what was read; and lists of tests one behind the other.
-- Assumes nothing.
use Prim.Native.Nat.{ℕ, zero, suc, ◌+◌, ◌*◌, ◌-◌, ◌/◌, ◌%◌, ◌^◌, ◌<◌, ◌≤◌}
use native.Mathlib.Nat.{pow-suc}
use native.Mathlib.Omega.{arith}
use mathlib.Core.Path.{◌≡◌, refl, sym, ap, ◌∙◌}
use mathlib.Core.Bool.{Bool, true, false, true≢false, cond, not, ◌&&◌}
use mathlib.Core.List.{List, [], ◌∷◌, ◌++◌, append_assoc, map}
use lib.Dec.{eqb}
use lib.IntN.{ℤ, pos, negsuc}
use lib.ListN.{length, drop, length-append, length-drop}
use lib.Seq.{drop_at, drop-drop}
use borrow.Author.Tests.{ltb-true, ltb-false, lt-ltb, le-ltb, eqb-true, eqb-false}
use Rattle.lists.specs.Compare.{◌below◌}
use Rattle.lists.specs.Every.{every}
use Rattle.lists.proofs.Split.{split, both, not_yes}
use Rattle.refusal.specs.Said.{first}
use Rattle.format.specs.Format.{little, all_bytes, fits, twos, fits_signed, fields, values_fit}
use Rattle.format.specs.Read.{number_in, numbers_in, pairs_in, signed, widths_by, values_long, act_long, Test, bar_of, field, head_tests, board_tests, act_tests, boards_tests, acts_tests}
use Rattle.format.proofs.Sizes.{little-length}

-- ---- lists of bytes
pub every_drop : {A : Type 0} (p : A → Bool) (n : ℕ) (l : List A) → every p l ≡ true → every p (drop n l) ≡ true
unfolding every
every_drop p zero l h = h
every_drop p (suc n) [] h = h
every_drop p (suc n) (x ∷ l) h = every_drop p n l (both (p x) (every p l) h).1

-- a piece in front of what is behind it, and behind that the next
seam : (m n : ℕ) (l : List ℕ) → drop (m + n) l ≡ drop n (drop m l)
seam m n l = sym (drop-drop n m l)

pub fronts : (a b l : List ℕ) (m n : ℕ) → a ++ drop m l ≡ l → b ++ drop n (drop m l) ≡ drop m l → (a ++ b) ++ drop (m + n) l ≡ l
fronts a b l m n p q = rw (seam m n l, append_assoc a b (drop n (drop m l)), q) p

-- the same from a place on
pub next-front : (a b l : List ℕ) (i m n : ℕ) → a ++ drop m (drop i l) ≡ drop i l → b ++ drop n (drop (i + m) l) ≡ drop (i + m) l → (a ++ b) ++ drop (m + n) (drop i l) ≡ drop i l
next-front a b l i m n p q = fronts a b (drop i l) m n p (rw (drop-drop m i l) q)

-- ---- a number
pub number-back : (w n : ℕ) (r : List ℕ) → n < 256 ^ w → number_in w (little w n ++ r) ≡ n
unfolding little number_in
number-back zero n r p = omega (arith, p)
number-back (suc w) n r p =
    let power : 256 ^ suc w ≡ 256 ^ w * 256 = pow-suc 256 w in
    rw (number-back w (n / 256) r (omega (arith, p, power))) (omega arith)

pub number-below : (w : ℕ) (l : List ℕ) → every (fits 1) l ≡ true → number_in w l < 256 ^ w
unfolding number_in every
number-below zero l h = omega arith
number-below (suc w) [] h =
    let power : 256 ^ suc w ≡ 256 ^ w * 256 = pow-suc 256 w in
    omega (arith, power, number-below w [] h)
number-below (suc w) (x ∷ l) h =
    let power : 256 ^ suc w ≡ 256 ^ w * 256 = pow-suc 256 w in
    let hx = both (fits 1 x) (every (fits 1) l) h in
    omega (arith, power, ltb-true x 256 hx.0, number-below w l hx.1)

pub number_fits : (w : ℕ) (l : List ℕ) → every (fits 1) l ≡ true → fits w (number_in w l) ≡ true
number_fits w l h = lt-ltb (number_in w l) (256 ^ w) (number-below w l h)

pub number-front : (w : ℕ) (l : List ℕ) → every (fits 1) l ≡ true → w ≤ length l → little w (number_in w l) ++ drop w l ≡ l
unfolding little number_in every
number-front zero l h p = refl
number-front (suc w) [] h p = absurd (omega (arith, p))
number-front (suc w) (x ∷ l) h p =
    let hx = both (fits 1 x) (every (fits 1) l) h in
    let small : x < 256 = ltb-true x 256 hx.0 in
    let low : (x + 256 * number_in w l) % 256 ≡ x = omega (arith, small) in
    let high : (x + 256 * number_in w l) / 256 ≡ number_in w l = omega (arith, small) in
    rw (low, high, number-front w l hx.1 (omega (arith, p)))

pub number_at : (w i : ℕ) (l : List ℕ) → every (fits 1) l ≡ true → i + w ≤ length l → little w (number_in w (drop i l)) ++ drop w (drop i l) ≡ drop i l
number_at w i l h p = number-front w (drop i l) (every_drop (fits 1) i l h) (omega (arith, p, length-drop i l))

-- ---- a signed number
pub signed-twos : (z : ℤ) → fits_signed z ≡ true → signed (twos z) ≡ z
signed-twos (pos n) h = rw h
signed-twos (negsuc k) h =
    let p : k < 2147483648 = ltb-true k 2147483648 h in
    let same : 4294967295 - (4294967295 - k) ≡ k = omega (arith, p) in
    rw (le-ltb (4294967295 - k) 2147483648 (omega (arith, p)), same)

pub twos-signed : (n : ℕ) → n < 256 ^ 4 → twos (signed n) ≡ n
twos-signed n p = split (n below 2147483648) (λ e. rw e) (λ e. rw e (omega (arith, p, ltb-false n 2147483648 e)))

pub signed-fits : (n : ℕ) → n < 256 ^ 4 → fits_signed (signed n) ≡ true
signed-fits n p =
    split (n below 2147483648) (λ e. rw (e, e))
    (λ e. rw e (lt-ltb (4294967295 - n) 2147483648 (omega (arith, p, ltb-false n 2147483648 e))))

-- ---- numbers of two bytes
pub pairs-back : (cells r : List ℕ) → every (fits 2) cells ≡ true → pairs_in (length cells) (all_bytes (little 2) cells ++ r) ≡ cells
unfolding pairs_in every
pairs-back [] r h = refl
pairs-back (c ∷ cells) r h =
    let hc = both (fits 2 c) (every (fits 2) cells) h in
    let behind = all_bytes (little 2) cells ++ r in
    rw (append_assoc (little 2 c) (all_bytes (little 2) cells) r, number-back 2 c behind (ltb-true c 65536 hc.0), drop_at (little 2 c) behind 2 (little-length 2 c), pairs-back cells r hc.1)

pub pairs-length : (n : ℕ) (l : List ℕ) → length (pairs_in n l) ≡ n
unfolding pairs_in
pairs-length zero l = refl
pairs-length (suc n) l = ap suc (pairs-length n (drop 2 l))

pub pairs-fit : (n : ℕ) (l : List ℕ) → every (fits 1) l ≡ true → every (fits 2) (pairs_in n l) ≡ true
unfolding pairs_in every
pairs-fit zero l h = refl
pairs-fit (suc n) l h = rw (number_fits 2 l h) (pairs-fit n (drop 2 l) (every_drop (fits 1) 2 l h))

pub pairs-front : (n : ℕ) (l : List ℕ) → every (fits 1) l ≡ true → 2 * n ≤ length l → all_bytes (little 2) (pairs_in n l) ++ drop (2 * n) l ≡ l
unfolding pairs_in
pairs-front zero l h p = refl
pairs-front (suc n) l h p =
    let more : 2 * suc n ≡ 2 + 2 * n = omega arith in
    rw more
    (fronts (little 2 (number_in 2 l)) (all_bytes (little 2) (pairs_in n (drop 2 l))) l 2 (2 * n) (number-front 2 l h (omega (arith, p)))
    (pairs-front n (drop 2 l) (every_drop (fits 1) 2 l h) (omega (arith, p, length-drop 2 l))))

-- ---- numbers of given widths
abbrev pub wide : List ℕ → ℕ
wide [] = 0
wide (w ∷ ws) = w + wide ws

pub fields_back : (ws vs r : List ℕ) → values_fit ws vs ≡ true → numbers_in ws (fields ws vs ++ r) ≡ vs
unfolding numbers_in fields
fields_back [] [] r h = refl
fields_back [] (v ∷ vs) r h = absurd (true≢false (sym h))
fields_back (w ∷ ws) [] r h = absurd (true≢false (sym h))
fields_back (w ∷ ws) (v ∷ vs) r h =
    let hv = both (fits w v) (values_fit ws vs) h in
    let behind = fields ws vs ++ r in
    rw (append_assoc (little w v) (fields ws vs) r, number-back w v behind (ltb-true v (256 ^ w) hv.0), drop_at (little w v) behind w (little-length w v), fields_back ws vs r hv.1)

pub fields-length : (ws vs : List ℕ) → values_fit ws vs ≡ true → length (fields ws vs) ≡ wide ws
unfolding fields
fields-length [] [] h = refl
fields-length [] (v ∷ vs) h = absurd (true≢false (sym h))
fields-length (w ∷ ws) [] h = absurd (true≢false (sym h))
fields-length (w ∷ ws) (v ∷ vs) h = rw (length-append (little w v) (fields ws vs), little-length w v, fields-length ws vs (both (fits w v) (values_fit ws vs) h).1)

pub numbers_fit : (ws l : List ℕ) → every (fits 1) l ≡ true → values_fit ws (numbers_in ws l) ≡ true
unfolding numbers_in
numbers_fit [] l h = refl
numbers_fit (w ∷ ws) l h = rw (number_fits w l h) (numbers_fit ws (drop w l) (every_drop (fits 1) w l h))

pub numbers-front : (ws l : List ℕ) → every (fits 1) l ≡ true → wide ws ≤ length l → fields ws (numbers_in ws l) ++ drop (wide ws) l ≡ l
unfolding numbers_in fields
numbers-front [] l h p = refl
numbers-front (w ∷ ws) l h p =
    fronts (little w (number_in w l)) (fields ws (numbers_in ws (drop w l))) l w (wide ws) (number-front w l h (omega (arith, p)))
    (numbers-front ws (drop w l) (every_drop (fits 1) w l h) (omega (arith, p, length-drop w l)))

-- the values of an answer
pub wide_by : (kind number : ℕ) → wide (cond (eqb number 0) (widths_by kind) []) ≡ values_long kind number
wide_by kind number = split (eqb number 0)
    (λ e. rw e (split (eqb kind 1) (λ f. rw f) (λ f. rw f (split (eqb kind 2) (λ g. rw g) (λ g. rw g)))))
    (λ e. rw e)

-- ---- tests: 0 of a list says that all pass, since no test has number 0
abbrev pub real_tests : List Test → Bool
real_tests [] = true
real_tests (t ∷ ts) = not (eqb t.number 0) && real_tests ts

pub real-append : (ts us : List Test) → real_tests ts ≡ true → real_tests us ≡ true → real_tests (ts ++ us) ≡ true
real-append [] us h k = k
real-append (t ∷ ts) us h k = let ht = both (not (eqb t.number 0)) (real_tests ts) h in rw ht.0 (real-append ts us ht.1 k)

pub first-append : (ts us : List Test) → real_tests ts ≡ true
    → first (map bar_of (ts ++ us)) ≡ cond (eqb (first (map bar_of ts)) 0) (first (map bar_of us)) (first (map bar_of ts))
first-append [] us h = refl
first-append (t ∷ ts) us h =
    let ht = both (not (eqb t.number 0)) (real_tests ts) h in
    split t.when (λ e. rw (e, not_yes (eqb t.number 0) ht.0)) (λ e. rw e (first-append ts us ht.1))

pub clear-append : (ts us : List Test) → first (map bar_of ts) ≡ 0 → first (map bar_of us) ≡ 0 → real_tests ts ≡ true → first (map bar_of (ts ++ us)) ≡ 0
clear-append ts us e f h = rw (first-append ts us h, e) f

pub append-clear : (ts us : List Test) → real_tests ts ≡ true → first (map bar_of (ts ++ us)) ≡ 0 → (first (map bar_of ts) ≡ 0) × (first (map bar_of us) ≡ 0)
append-clear ts us h e =
    let whole = sym (first-append ts us h) ∙ e in
    split (eqb (first (map bar_of ts)) 0) (λ z. (eqb-true (first (map bar_of ts)) 0 z, rw z at whole)) (λ z. absurd (eqb-false (first (map bar_of ts)) 0 z (rw z at whole)))

-- a field: long enough, and not wrong
two-clear : (a b : Bool) (n : ℕ) → cond a 17 (cond b 18 n) ≡ 0 → (a ≡ false) × (b ≡ false) × (n ≡ 0)
two-clear true b n e = absurd (omega (arith, e))
two-clear false true n e = absurd (omega (arith, e))
two-clear false false n e = (refl, refl, e)

pub field-clear : (at : ℕ) (rest : List ℕ) (from long : ℕ) (wrong : Bool) (ts : List Test) → first (map bar_of (field at rest from long wrong ++ ts)) ≡ 0
    → (from + long ≤ length rest) × (wrong ≡ false) × (first (map bar_of ts) ≡ 0)
field-clear at rest from long wrong ts e =
    let both-clear = two-clear (length rest below from + long) wrong (first (map bar_of ts)) e in
    (ltb-false (length rest) (from + long) both-clear.0, both-clear.1, both-clear.2)

pub clear-field : (at : ℕ) (rest : List ℕ) (from long : ℕ) (wrong : Bool) (ts : List Test) → from + long ≤ length rest → wrong ≡ false
    → first (map bar_of (field at rest from long wrong ++ ts)) ≡ first (map bar_of ts)
clear-field at rest from long wrong ts p e = rw (le-ltb (length rest) (from + long) p, e)

-- ---- the tests of a reading: none has number 0, and which is the first in the acts' recursion
pub head-real : (bytes : List ℕ) → real_tests (head_tests bytes) ≡ true
unfolding head_tests
head-real bytes = refl

pub board-real : (at : ℕ) (rest : List ℕ) → real_tests (board_tests at rest) ≡ true
unfolding board_tests
board-real at rest = refl

pub boards-real : (n at : ℕ) (rest : List ℕ) → real_tests (boards_tests n at rest) ≡ true
unfolding boards_tests
boards-real zero at rest = refl
boards-real (suc n) at rest = real-append (board_tests at rest) (boards_tests n (at + 2) (drop 2 rest)) (board-real at rest) (boards-real n (at + 2) (drop 2 rest))

pub act-real : (at : ℕ) (rest : List ℕ) → real_tests (act_tests at rest) ≡ true
unfolding act_tests
act-real at rest = refl

pub boards-first : (n at : ℕ) (rest : List ℕ) → first (map bar_of (boards_tests (suc n) at rest))
    ≡ cond (eqb (first (map bar_of (board_tests at rest))) 0) (first (map bar_of (boards_tests n (at + 2) (drop 2 rest)))) (first (map bar_of (board_tests at rest)))
unfolding boards_tests
boards-first n at rest = first-append (board_tests at rest) (boards_tests n (at + 2) (drop 2 rest)) (board-real at rest)

pub acts-first : (n at : ℕ) (rest : List ℕ) → first (map bar_of (acts_tests (suc n) at rest))
    ≡ cond (eqb (first (map bar_of (act_tests at rest))) 0) (first (map bar_of (acts_tests n (at + act_long rest) (drop (act_long rest) rest)))) (first (map bar_of (act_tests at rest)))
unfolding acts_tests
acts-first n at rest = first-append (act_tests at rest) (acts_tests n (at + act_long rest) (drop (act_long rest) rest)) (act-real at rest)
