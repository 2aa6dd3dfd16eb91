-- The laws of the journal: a listing has at most 128 entries; with room the new one comes to its end, and when full the oldest goes too;
-- so entries one after the other are listed as the last 128 of them (02, ticket 8).
-- Assumes nothing.
use Prim.Native.Nat.{ℕ, zero, suc, ◌+◌, ◌-◌, ◌*◌, ◌/◌, ◌%◌, ◌<◌, ◌≤◌}
use native.Mathlib.Omega.{arith}
use mathlib.Core.Path.{◌≡◌, refl, sym, ap, ap₂, ◌∙◌}
use mathlib.Core.Bool.{Bool, true, false, cond}
use mathlib.Core.List.{List, [], ◌∷◌, ◌++◌, append_assoc, append-nil}
use lib.Dec.{ltb}
use lib.ListN.{length, get_or, set, take, drop, length-append, length-drop, length-set, length-replicate, drop_of_length-le, take-append-drop}
use lib.Seq.{get_or-set_same, get_or-set_other, drop-append-le, drop-drop, drop-cons}
use borrow.Author.Tests.{ltb-true, ltb-false}
use Rattle.lists.specs.Each.{each}
use Rattle.lists.proofs.Each.{each-length, each-place, each_same, set_front}
use Rattle.lists.proofs.Split.{split}
use Rattle.journal.specs.declared.Journal.{Journal}
use Rattle.journal.specs.Ring.{Entry, latching, here, held, kept, no_entries, entered, entered_all, noted, place_at, listing, latest, words}

-- ---- lists by places: one place more at the end, and all places one further
each-end : (f : ℕ → Entry) (i n : ℕ) → each i (suc n) f ≡ each i n f ++ (f (i + n) ∷ [])
unfolding each
each-end f i zero = ap (λ (k : ℕ). f k ∷ []) (omega arith)
each-end f i (suc n) =
    let further : suc i + n ≡ i + suc n = omega arith in
    ap (λ (l : List Entry). f i ∷ l) (each-end f (suc i) n ∙ ap (λ (k : ℕ). each (suc i) n f ++ (f k ∷ [])) further)

each-further : (f : ℕ → Entry) (i n : ℕ) → each (suc i) n f ≡ each i n (λ k. f (suc k))
unfolding each
each-further f i zero = refl
each-further f i (suc n) = ap (λ (l : List Entry). f (suc i) ∷ l) (each-further f (suc i) n)

-- ---- how many are listed, and which
pub listing-length : (j : Journal) → length (listing j) ≡ held j
unfolding listing
listing-length j = each-length (λ k. kept j (place_at j k)) 0 (held j)

pub listing-short : (j : Journal) → length (listing j) ≤ 128
listing-short j = omega (arith, listing-length j)

pub listing-at : (j : Journal) (k : ℕ) (other : Entry) → k < held j → get_or (listing j) k other ≡ kept j (place_at j k)
unfolding listing
listing-at j k other p = each-place (λ i. kept j (place_at j i)) (held j) k other p

-- ---- a ring of 128 places, as every record has; what `next` and `len` say does not matter
abbrev pub Sound : Journal → Type 0
Sound j = (length j.numbers ≡ 128) × (length j.whats ≡ 128)

pub blank-sound : Sound no_entries
unfolding no_entries
blank-sound = let none : ℕ = 0 in (length-replicate 128 none, length-replicate 128 none)

pub entered-sound : (j : Journal) (e : Entry) → Sound j → Sound (entered j e)
unfolding entered
entered-sound j e s = (length-set j.numbers (here j) e.number ∙ s.0, length-set j.whats (here j) e.what ∙ s.1)

-- after an entry both are good, whatever they were
pub entered-good : (j : Journal) (e : Entry) → ((entered j e).next < 128) × ((entered j e).len ≤ 128)
unfolding entered
entered-good j e = (omega arith, omega arith)

-- ---- one entry more: the new one stands behind those that were listed, and no other place is written
place-new : (j : Journal) → place_at j (held j) ≡ here j
place-new j = omega arith

place-old : (j : Journal) (k : ℕ) → k < held j → 0 < 128 - held j + k → place_at j k ≡ here j → ⊥
place-old j k p q e = omega arith

place-room : (j : Journal) (e : Entry) (k : ℕ) → j.len < 128 → place_at (entered j e) k ≡ place_at j k
unfolding entered
place-room j e k p = omega arith

place-full : (j : Journal) (e : Entry) (k : ℕ) → 128 ≤ j.len → place_at (entered j e) k ≡ place_at j (suc k)
unfolding entered
place-full j e k p = omega arith

held-room : (j : Journal) (e : Entry) → held j < 128 → held (entered j e) ≡ suc (held j)
unfolding entered
held-room j e p = omega arith

held-full : (j : Journal) (e : Entry) → held j ≡ 128 → held (entered j e) ≡ held j
unfolding entered
held-full j e p = omega arith

module _ (j : Journal) (e : Entry) where
  -- the entry that stands where the k-th stood
  abbrev stands : ℕ → Entry
  stands k = kept (entered j e) (place_at j k)

  stands-new : Sound j → stands (held j) ≡ e
  unfolding entered
  stands-new s =
      let at = here j in
      let number : get_or (set j.numbers at e.number) at 0 ≡ e.number = get_or-set_same j.numbers at e.number 0 (omega (arith, s.0)) in
      let what : get_or (set j.whats at e.what) at 0 ≡ e.what = get_or-set_same j.whats at e.what 0 (omega (arith, s.1)) in
      rw (place-new j, number, what)

  stands-old : (k : ℕ) → k < held j → 0 < 128 - held j + k → stands k ≡ kept j (place_at j k)
  unfolding entered
  stands-old k p q =
      let at = here j in
      let other = place-old j k p q in
      rw (get_or-set_other j.numbers at (place_at j k) e.number 0 other, get_or-set_other j.whats at (place_at j k) e.what 0 other)

  abbrev before : ℕ → Entry
  before k = kept j (place_at j k)

  abbrev after : ℕ → Entry
  after k = kept (entered j e) (place_at (entered j e) k)

  -- with room, the new one is at the end
  pub entered-room : Sound j → held j < 128 → listing (entered j e) ≡ listing j ++ (e ∷ [])
  unfolding listing
  entered-room s p =
      let n = held j in
      let same : (k : ℕ) → after k ≡ stands k = λ k. ap (kept (entered j e)) (place-room j e k (omega arith)) in
      let old : each 0 n after ≡ each 0 n before = each_same after before 0 n (λ k q. same k ∙ stands-old k (omega arith) (omega arith)) in
      let end : 0 + n ≡ n = omega arith in
      let new : after (0 + n) ≡ e = ap after end ∙ same n ∙ stands-new s in
      ap (λ (m : ℕ). each 0 m after) (held-room j e p) ∙ each-end after 0 n ∙ rw (old, new)

  -- when full, the oldest is gone and the new one is at the end: for an m in place of 127, which the checker would count down to
  full : (m : ℕ) → m ≡ 127 → Sound j → held j ≡ suc m → listing (entered j e) ≡ drop 1 (listing j) ++ (e ∷ [])
  unfolding listing each
  full m is s p =
      let same : (k : ℕ) → after k ≡ stands (suc k) = λ k. ap (kept (entered j e)) (place-full j e k (omega arith)) in
      let old : each 0 m after ≡ each 1 m before
      = each_same after (λ k. before (suc k)) 0 m (λ k q. same k ∙ stands-old (suc k) (omega arith) (omega arith)) ∙ sym (each-further before 0 m) in
      let end : 0 + m ≡ m = omega arith in
      let new : after (0 + m) ≡ e = ap after end ∙ same m ∙ ap stands (sym p) ∙ stands-new s in
      ap (λ (n : ℕ). each 0 n after) (held-full j e (omega arith) ∙ p) ∙ each-end after 0 m ∙ rw (old, new) (ap (λ (n : ℕ). drop 1 (each 0 n before) ++ (e ∷ [])) (sym p))

  pub entered-full : Sound j → held j ≡ 128 → listing (entered j e) ≡ drop 1 (listing j) ++ (e ∷ [])
  entered-full s p = full 127 refl s p

-- ---- so a listing is the last 128 of what was entered
pub latest-all : (n : ℕ) (es : List Entry) → length es ≤ n → latest n es ≡ es
latest-all n es p = let none : length es - n ≡ 0 = omega arith in rw none

-- what is cut off early would be cut off late
latest-twice : (n : ℕ) (es fs : List Entry) → latest n (latest n es ++ fs) ≡ latest n (es ++ fs)
latest-twice n es fs =
    let cut = length es - n in
    let all = es ++ fs in
    let long : length all ≡ length es + length fs = length-append es fs in
    let left : length (drop cut all) ≡ length all - cut = length-drop cut all in
    let early : drop cut es ++ fs ≡ drop cut all = sym (drop-append-le cut es fs (omega arith)) in
    let sum : cut + (length (drop cut all) - n) ≡ length all - n = omega arith in
    ap (latest n) early ∙ drop-drop (length (drop cut all) - n) cut all ∙ ap (λ (k : ℕ). drop k all) sum

pub entered-listing : (j : Journal) (e : Entry) → Sound j → listing (entered j e) ≡ latest 128 (listing j ++ (e ∷ []))
entered-listing j e s =
    let es = listing j in
    let new : List Entry = e ∷ [] in
    let held-is : length es ≡ held j = listing-length j in
    let long : length (es ++ new) ≡ length es + 1 = length-append es new in
    split
    (ltb (held j) 128)
    (λ test.
    let room : held j < 128 = ltb-true (held j) 128 test in
    entered-room j e s room ∙ sym (latest-all 128 (es ++ new) (omega arith)))
    (λ test.
    let none : 128 ≤ held j = ltb-false (held j) 128 test in
    let one : length (es ++ new) - 128 ≡ 1 = omega arith in
    entered-full j e s (omega arith) ∙ sym (drop-append-le 1 es new (omega arith)) ∙ ap (λ (k : ℕ). drop k (es ++ new)) (sym one))

pub all-listing : (j : Journal) (es : List Entry) → Sound j → listing (entered_all j es) ≡ latest 128 (listing j ++ es)
all-listing j [] s = rw append-nil (sym (latest-all 128 (listing j) (listing-short j)))
all-listing j (e ∷ es) s =
    all-listing (entered j e) es (entered-sound j e s) ∙ ap (λ (l : List Entry). latest 128 (l ++ es)) (entered-listing j e s) ∙ latest-twice 128 (listing j ++ (e ∷ [])) es ∙ ap (latest 128) (append_assoc (listing j) (e ∷ []) es)

-- one cause of those that are left: what is entered of it, and then of the rest
pub noted-turn : (up : ℕ → Bool) (cell : ℕ → ℕ) (number i : ℕ) (j next : Journal) → i < 5 → next ≡ cond (up i) (entered j (latching i (cell i) number)) j
    → entered_all next (noted up cell number (i + 1) (5 - (i + 1))) ≡ entered_all j (noted up cell number i (5 - i))
unfolding noted
noted-turn up cell number i j next p is =
    let one : 5 - i ≡ suc (5 - (i + 1)) = omega arith in
    rw (one, is) (split (up i) (λ e. rw e) (λ e. rw e))

pub noted-sound : (up : Bool) (e : Entry) (j next : Journal) → next ≡ cond up (entered j e) j → Sound j → Sound next
noted-sound true e j next is s = rw is (entered-sound j e s)
noted-sound false e j next is s = rw is s

pub all_more : (j : Journal) (es fs : List Entry) → entered_all j (es ++ fs) ≡ entered_all (entered_all j es) fs
all_more j [] fs = refl
all_more j (e ∷ es) fs = all_more (entered j e) es fs

pub blank-listing : listing no_entries ≡ []
unfolding no_entries listing each
blank-listing = refl

-- from a board's start: exactly the last 128 of the entries, or all if fewer
pub last-listed : (es : List Entry) → listing (entered_all no_entries es) ≡ latest 128 es
last-listed es = all-listing no_entries es blank-sound ∙ ap (λ (l : List Entry). latest 128 (l ++ es)) blank-listing

-- ---- in words: a cause and a cell come back out of their byte
pub words_of : (cause cell number : ℕ) → cause < 16 → cell < 16 → words (latching cause cell number ∷ []) ≡ cause ∷ cell ∷ number ∷ []
unfolding words
words_of cause cell number p q =
    let top : (16 * (cause % 16) + cell % 16) / 16 ≡ cause = omega arith in
    let low : (16 * (cause % 16) + cell % 16) % 16 ≡ cell = omega arith in
    rw (top, low)

-- the buffer from the last entry down to the one with k older: before it the buffer is as it was lent
module _ (es : List Entry) (old : List ℕ) where
  abbrev pub put-down : ℕ → List ℕ
  put-down k = take (3 * k) old ++ (words (drop k es) ++ drop (3 * length es) old)

  pub put-none : old ≡ put-down (length es)
  unfolding words
  put-none = let none : drop (length es) es ≡ [] = drop_of_length-le es {i = length es} (omega arith) in rw none (sym (take-append-drop (3 * length es) old))

  pub put-turn : (k : ℕ) (e other : Entry) (out : List ℕ) → 0 < k → k ≤ length es → 3 * length es ≤ length old → out ≡ put-down k → get_or es (k - 1) other ≡ e
      → set (set (set out (3 * (k - 1) + 2) e.number) (3 * (k - 1) + 1) (e.what % 16)) (3 * (k - 1)) (e.what / 16) ≡ put-down (k - 1)
  unfolding words
  put-turn k e other out p q room o is =
      let at = 3 * (k - 1) in
      let rest = words (drop k es) ++ drop (3 * length es) old in
      let three : 3 * k ≡ suc (at + 2) = omega arith in
      let two : at + 2 ≡ suc (at + 1) = omega arith in
      let one : at + 1 ≡ suc at = omega arith in
      let back : suc (k - 1) ≡ k = omega arith in
      let cons : drop (k - 1) es ≡ e ∷ drop k es = drop-cons es (k - 1) other (omega arith) ∙ ap₂ (λ (f : Entry) (m : ℕ). f ∷ drop m es) is back in
      let number : set out (at + 2) e.number ≡ take (at + 2) old ++ (e.number ∷ rest)
      = ap (λ (l : List ℕ). set l (at + 2) e.number) (o ∙ ap (λ (m : ℕ). take m old ++ rest) three) ∙ set_front old rest (at + 2) e.number (omega arith) in
      let cell : set (set out (at + 2) e.number) (at + 1) (e.what % 16) ≡ take (at + 1) old ++ (e.what % 16 ∷ e.number ∷ rest)
      = ap (λ (l : List ℕ). set l (at + 1) (e.what % 16)) (number ∙ ap (λ (m : ℕ). take m old ++ (e.number ∷ rest)) two) ∙ set_front old (e.number ∷ rest) (at + 1) (e.what % 16) (omega arith) in
      ap (λ (l : List ℕ). set l at (e.what / 16)) (cell ∙ ap (λ (m : ℕ). take m old ++ (e.what % 16 ∷ e.number ∷ rest)) one)
      ∙ set_front old (e.what % 16 ∷ e.number ∷ rest) at (e.what / 16) (omega arith)
      ∙ ap (λ (ds : List Entry). take at old ++ (words ds ++ drop (3 * length es) old)) (sym cons)
