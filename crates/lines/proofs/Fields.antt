-- The fields of a line, read one after the other, are its words.
-- Assumes nothing.
use Prim.Native.Nat.{ℕ, zero, suc, ◌+◌, ◌-◌, ◌<◌, ◌≤◌}
use native.Mathlib.Nat.{zero-add, add-zero}
use native.Mathlib.Numerals.{add-one}
use native.Mathlib.Omega.{arith}
use mathlib.Core.Path.{◌≡◌, refl, sym, ap, ◌∙◌}
use mathlib.Core.Bool.{Bool, true, false, true≢false, cond, not, ◌&&◌, ◌||◌, and-true, and-false, or_assoc, or-false}
use mathlib.Core.Logic.{⊎_elim}
use mathlib.Core.List.{List, [], ◌∷◌, map}
use lib.Dec.{leb, ltb, eqb}
use lib.ListN.{length, get_or, set}
use lib.Seq.{sets}
use borrow.Author.Tests.{eqb-true, eqb-false, eq-eqb, ne_eqb, le-leb, lt-leb, ltb-true, ltb-false}
use Rattle.lists.proofs.Split.{split}
use Rattle.lines.specs.Lines.{before, onto, pieces}
use Rattle.lines.proofs.Pieces.{behind, first_piece}
use Rattle.lines.specs.declared.Kind.{Kind}
use Rattle.lines.specs.declared.Kind.TheVariants.{Open, Sample, Frame, Read, Malformed}
use Rattle.lines.specs.declared.Rules.{Rules}
use Rattle.lines.specs.declared.Line.{Line}
use Rattle.std.proofs.Common.{Option, Some, None}
use Rattle.lines.specs.declared.Number.{Number}
use Rattle.lines.specs.Line.{words, worth, starts_well, is_number, negative, unsigned, size_of, is_field, letter, kind_of, rules_of, is_shunt, all_fields, obeys, any_negative, blank, malformed, said, words_say, line_of}
use Rattle.lines.specs.Way.{rest_at, end_at, front, number, number_at, field_at, found_at}
use Rattle.lines.proofs.Words.{rest_end, rest-on, end_on, before-long, rest-drop, end-behind}
use Rattle.lines.proofs.Numbers.{field_in}
use Rattle.lines.proofs.Fronts.{front_long, number_word, front-or, plain-negative, plain-unsigned}

-- the first word of the line from a place on
abbrev word_at : List ℕ → ℕ → List ℕ
word_at s at = before 32 (rest_at s at)

words-at : (s : List ℕ) (i : ℕ) → words (rest_at s i) ≡ word_at s i ∷ behind 32 (rest_at s (i + length (word_at s i)))
words-at s i = first_piece 32 (rest_at s i) ∙ rw (rest-drop s i (length (word_at s i)) (before-long 32 (rest_at s i)))

-- a word that does not begin with a minus sign has none
word-plain : (s : List ℕ) (at : ℕ) → eqb (get_or s at 10) 45 ≡ false → (negative (word_at s at) ≡ false) × (unsigned (word_at s at) ≡ word_at s at)
unfolding before negative unsigned
word-plain s at plain =
    let b = get_or s at 10 in
    split (eqb b 10)
    (λ e. rw (rest_end s at refl (eqb-true b 10 e)) (refl, refl))
    (λ e. rw (rest-on s at refl (eqb-false b 10 e)) (plain-negative b (rest_at s (at + 1)) plain, plain-unsigned b (rest_at s (at + 1)) plain))

-- an empty word is no field
pub no_field : (largest : ℕ) (signed : Bool) → is_field largest signed [] ≡ false
unfolding is_field unsigned is_number starts_well
no_field largest signed = refl

-- the line of which n numbers were read and stored, when the words ws are left
unfoldable pub line_from : Rules → Kind → Bool → ℕ → List ℕ → List (List ℕ) → Line
line_from r k m n numbers ws =
    cond (leb r.head (n + length ws) && (leb (n + length ws) r.most && all_fields r n ws))
    (record { kind = k; minus = m || any_negative ws; count = n + length ws; numbers = sets numbers n (map size_of ws) })
    malformed

-- the same after one field more
unfoldable pub on_field : Rules → Kind → Bool → ℕ → List ℕ → List ℕ → Option Number → Line
on_field r k m n numbers s None = malformed
on_field r k m n numbers s (Some f) = line_from r k (m || f.minus) (n + 1) (set numbers n f.size) (behind 32 (rest_at s f.next))

-- a number that was read lies behind its place and in its line, and so does a field
number_past : (largest : ℕ) (minus : Bool) (s : List ℕ) (at : ℕ) {f : Number} → number_at largest minus at (rest_at s at) ≡ Some f
    → (at ≤ f.next) × (end_at s f.next ≡ end_at s at)
unfolding number_at
number_past largest minus s at {f} e =
    let w = front (rest_at s at) in
    split (is_number largest w && not (minus && eqb (worth 0 w) 0))
    (λ t.
    let q : Some (number minus (worth 0 w) (at + length w)) ≡ Some f = rw t at e in
    let l : at + length w ≡ f.next = cc in
    (omega arith, rw (sym l) (end-behind s at (length w) (front_long (rest_at s at)))))
    (λ t.
    let q : None ≡ Some f = rw t at e in
    let z : ◌≡◌ {A = ℕ} 0 1 = cc in
    absurd (omega arith))

pub field_past : (largest : ℕ) (signed : Bool) (s : List ℕ) (at : ℕ) {f : Number} → field_at largest signed at (rest_at s at) ≡ Some f
    → (at ≤ f.next) × (end_at s f.next ≡ end_at s at)
field_past largest signed s at {f} e =
    let b = get_or s at 10 in
    let g = rw (field_in largest signed s at refl) at e in
    split (eqb b 45)
    (λ sign.
    let h = rw sign at g in
    split signed
    (λ t. let far = number_past largest true s (at + 1) (rw t at h) in (omega (arith, far.0), far.1 ∙ end_on s at refl (λ n. omega (arith, eqb-true b 45 sign, n))))
    (λ t.
    let q : None ≡ Some f = rw t at h in
    let z : ◌≡◌ {A = ℕ} 0 1 = cc in
    absurd (omega arith)))
    (λ plain. number_past largest false s at (rw plain at g))

-- a line is malformed by its words, or by its length
pub found-malformed : (s : List ℕ) (at : ℕ) → words_say (words (rest_at s at)) ≡ malformed → found_at s at ≡ record { line = malformed; end = end_at s at }
unfolding found_at line_of
found-malformed s at e = split (leb (length (rest_at s at)) 200) (λ t. rw (t, e)) (λ t. rw t)

found-long : (s : List ℕ) (at : ℕ) → 200 < length (rest_at s at) → found_at s at ≡ record { line = malformed; end = end_at s at }
unfolding found_at line_of
found-long s at h = rw (lt-leb _ _ h)

-- an empty word is left, which is no field
wrong-line : (r : Rules) (k : Kind) (m : Bool) (n : ℕ) (numbers : List ℕ) → line_from r k m n numbers ([] ∷ []) ≡ malformed
unfolding line_from all_fields
wrong-line r k m n numbers = rw (no_field r.largest (is_shunt r n), and-false, and-false)

module _ (r : Rules) (k : Kind) (m : Bool) (n : ℕ) (numbers : List ℕ) where
  -- the next word is one too many, no field, or a field
  from-full : (w : List ℕ) (ws : List (List ℕ)) → r.most ≤ n → line_from r k m n numbers (w ∷ ws) ≡ malformed
  unfolding line_from
  from-full w ws h =
      let over : r.most < n + suc (length ws) = omega arith in
      rw (lt-leb _ _ over, and-false)

  from_wrong : (w : List ℕ) (ws : List (List ℕ)) → is_field r.largest (is_shunt r n) w ≡ false → line_from r k m n numbers (w ∷ ws) ≡ malformed
  unfolding line_from all_fields
  from_wrong w ws e = rw (e, and-false, and-false)

  from_field : (w : List ℕ) (ws : List (List ℕ)) → is_field r.largest (is_shunt r n) w ≡ true
      → line_from r k m n numbers (w ∷ ws) ≡ line_from r k (m || negative w) (n + 1) (set numbers n (size_of w)) ws
  unfolding line_from all_fields any_negative
  from_field w ws e =
      let one : n + suc (length ws) ≡ n + 1 + length ws = omega arith in
      rw (e, one, or_assoc, add-one n)

  -- so by the next word
  from-word : (w : List ℕ) (ws : List (List ℕ))
      → line_from r k m n numbers (w ∷ ws) ≡ cond (is_field r.largest (is_shunt r n) w) (line_from r k (m || negative w) (n + 1) (set numbers n (size_of w)) ws) malformed
  from-word w ws = split (is_field r.largest (is_shunt r n) w) (λ t. rw t (from_field w ws t)) (λ t. rw t (from_wrong w ws t))

  -- the number in front is read on from, if and only if it is the word
  number-line : (sign : Bool) (s : List ℕ) (at : ℕ)
      → cond (is_number r.largest (word_at s at) && not (sign && eqb (worth 0 (word_at s at)) 0))
      (line_from r k (m || sign) (n + 1) (set numbers n (worth 0 (word_at s at))) (behind 32 (rest_at s (at + length (word_at s at))))) malformed
      ≡ on_field r k m n numbers s (number_at r.largest sign at (rest_at s at))
  unfolding number_at on_field
  number-line sign s at =
      let t = rest_at s at in
      let w = front t in
      split (is_number r.largest (word_at s at))
      (λ yes. rw (number_word r.largest t yes, yes) (split (sign && eqb (worth 0 (word_at s at)) 0) (λ z. rw z) (λ z. rw z)))
      (λ no.
      let stuck : is_number r.largest w ≡ true → malformed ≡ line_from r k (m || sign) (n + 1) (set numbers n (worth 0 w)) (behind 32 (rest_at s (at + length w))) =
      λ yes. ⊎_elim (λ e. absurd (true≢false (sym yes ∙ rw e at no)))
      (λ e.
      let none : behind 32 (rest_at s (at + length w)) ≡ [] ∷ [] = ap (behind 32) (sym (rest-drop s at (length w) (front_long t))) ∙ e in
      sym (ap (line_from r k (m || sign) (n + 1) (set numbers n (worth 0 w))) none ∙ wrong-line r k (m || sign) (n + 1) (set numbers n (worth 0 w))))
      (front-or t) in
      rw no (split (is_number r.largest w) (λ yes. rw yes (split (sign && eqb (worth 0 w) 0) (λ z. rw z) (λ z. rw z (stuck yes)))) (λ none. rw none)))

  -- behind a minus sign it is the word's rest
  signed-line : (s : List ℕ) (at : ℕ) → eqb (get_or s at 10) 45 ≡ true
      → cond (is_field r.largest (is_shunt r n) (word_at s at)) (line_from r k (m || negative (word_at s at)) (n + 1) (set numbers n (size_of (word_at s at))) (behind 32 (rest_at s (at + length (word_at s at))))) malformed
      ≡ on_field r k m n numbers s (cond (is_shunt r n) (number_at r.largest true (at + 1) (rest_at s (at + 1))) None)
  unfolding is_field negative unsigned on_field before
  signed-line s at sign =
      let b = get_or s at 10 in
      let is = eqb-true b 45 sign in
      let one : at + suc (length (word_at s (at + 1))) ≡ at + 1 + length (word_at s (at + 1)) = omega arith in
      rw (rest-on s at refl (λ e. omega (arith, is, e)), is, one)
      (split (is_shunt r n) (λ t. rw t (number-line true s (at + 1))) (λ t. rw (t, and-false)))

  -- and a field
  field-line : (s : List ℕ) (at : ℕ)
      → line_from r k m n numbers (word_at s at ∷ behind 32 (rest_at s (at + length (word_at s at)))) ≡ on_field r k m n numbers s (field_at r.largest (is_shunt r n) at (rest_at s at))
  unfolding is_field
  field-line s at =
      let b = get_or s at 10 in
      let w = word_at s at in
      from-word w _ ∙ rw (field_in r.largest (is_shunt r n) s at refl)
      (split (eqb b 45)
      (λ sign. rw sign (signed-line s at sign))
      (λ plain.
      let bare = word-plain s at plain in
      rw (plain, bare.0, bare.1, and-true) (rw and-true at (number-line false s at))))

  -- at a place with the byte b
  module _ (s : List ℕ) (at : ℕ) {b : ℕ} (here : b ≡ get_or s at 10) where
    -- at the end of the line
    after-end : b ≡ 10 → n ≤ r.most
        → line_from r k m n numbers (behind 32 (rest_at s at)) ≡ cond (leb r.head n) (record { kind = k; minus = m; count = n; numbers = numbers }) malformed
    unfolding behind line_from all_fields any_negative
    after-end e l = rw (rest_end s at here e, add-zero n, le-leb n r.most l, or-false m, and-true)

    -- at a byte that is neither that nor a space
    after-other : (b ≡ 10 → ⊥) → (b ≡ 32 → ⊥) → line_from r k m n numbers (behind 32 (rest_at s at)) ≡ malformed
    unfolding behind
    after-other p q = rw (rest-on s at here p, ne_eqb b 32 q) (from_wrong [] [] (no_field _ _))

    -- where no space is, the line is at its end with all its fields and is not too long, or malformed
    module _ (start : ℕ) (inside : b ≡ 32 → ⊥) (few : n ≤ r.most) (from : start ≤ at) (stays : end_at s at ≡ end_at s start)
        (says : words_say (words (rest_at s start)) ≡ line_from r k m n numbers (behind 32 (rest_at s at))) where
      -- at a newline the line has as many bytes as were passed, and ends here
      ends-here : b ≡ 10 → end_at s start ≡ at
      ends-here e = let here-ends : end_at s at ≡ at = rw (rest_end s at here e) (omega arith) in omega (arith, here-ends, stays)

      pub found-wrong : ((not (eqb b 10) || ltb n r.head) || ltb 200 (at - start)) ≡ true → found_at s start ≡ record { line = malformed; end = end_at s start }
      found-wrong h =
          split (eqb b 10)
          (λ t.
          let e = eqb-true b 10 t in
          let g : (ltb n r.head || ltb 200 (at - start)) ≡ true = rw t at h in
          split (ltb n r.head)
          (λ u. found-malformed s start (says ∙ after-end e few ∙ rw (lt-leb r.head n (ltb-true n r.head u))))
          (λ u. found-long s start (omega (arith, ends-here e, ltb-true 200 (at - start) (rw u at g)))))
          (λ t. found-malformed s start (says ∙ after-other (eqb-false b 10 t) inside))

      pub found_right : ((not (eqb b 10) || ltb n r.head) || ltb 200 (at - start)) ≡ false
          → found_at s start ≡ record { line = record { kind = k; minus = m; count = n; numbers = numbers }; end = at }
      unfolding found_at line_of
      found_right h =
          split (eqb b 10)
          (λ t.
          let e = eqb-true b 10 t in
          let g : (ltb n r.head || ltb 200 (at - start)) ≡ false = rw t at h in
          split (ltb n r.head)
          (λ u. absurd (true≢false (rw u at g)))
          (λ u.
          let short : length (rest_at s start) ≤ 200 = omega (arith, ends-here e, from, ltb-false 200 (at - start) (rw u at g)) in
          let line : words_say (words (rest_at s start)) ≡ record { kind = k; minus = m; count = n; numbers = numbers } =
          says ∙ after-end e few ∙ rw (le-leb r.head n (ltb-false n r.head u)) in
          rw (le-leb _ _ short, line, ends-here e)))
          (λ t. absurd (true≢false (rw t at h)))

    -- at a space
    module _ (space : b ≡ 32) where
      space-inside : b ≡ 10 → ⊥
      space-inside e = omega arith

      after-words : behind 32 (rest_at s at) ≡ words (rest_at s (at + 1))
      unfolding behind
      after-words = rw (rest-on s at here space-inside, eq-eqb b 32 space)

      pub after-full : r.most ≤ n → line_from r k m n numbers (behind 32 (rest_at s at)) ≡ malformed
      after-full l = rw (after-words, words-at s (at + 1)) (from-full _ _ l)

      pub after-space : line_from r k m n numbers (behind 32 (rest_at s at)) ≡ on_field r k m n numbers s (field_at r.largest (is_shunt r n) (at + 1) (rest_at s (at + 1)))
      after-space = rw (after-words, words-at s (at + 1)) (field-line s (at + 1))

      -- a field was read and stored
      pub after-field : {f : Option Number} {v : Number} {new : List ℕ} → f ≡ field_at r.largest (is_shunt r n) (at + 1) (rest_at s (at + 1)) → f ≡ Some v → new ≡ set numbers n v.size
          → line_from r k m n numbers (behind 32 (rest_at s at)) ≡ line_from r k (m || v.minus) (n + 1) new (behind 32 (rest_at s v.next))
      unfolding on_field
      after-field is good stored = rw (after-space, ← is, good, stored)

-- a number past the places is not stored
pub set_past : (xs : List ℕ) (n v : ℕ) → length xs ≤ n → set xs n v ≡ xs
set_past [] n v h = refl
set_past (x ∷ xs) zero v h = absurd (omega arith)
set_past (x ∷ xs) (suc n) v h = ap (λ (ys : List ℕ). x ∷ ys) (set_past xs n v (omega arith))

-- before the first field
from_start : (k : Kind) (ws : List (List ℕ)) → said k ws ≡ line_from (rules_of k) k false 0 blank ws
unfolding said obeys line_from
from_start k ws = rw zero-add

-- no fields follow what is no letter
pub from-malformed : (ws : List (List ℕ)) → said Malformed ws ≡ malformed
unfolding said obeys malformed all_fields
from-malformed [] = refl
from-malformed (w ∷ ws) = rw (lt-leb (suc (length ws)) 0 (omega arith), and-false)

start-on : (b : ℕ) (t : List ℕ) → words_say (words (b ∷ t)) ≡ line_from (rules_of (letter b)) (letter b) false 0 blank (behind 32 t)
unfolding words_say pieces behind letter kind_of
start-on b t =
    split (eqb b 32)
    (λ e. rw (e, eqb-true b 32 e, from-malformed, ← (from_start Malformed (behind 32 t)), from-malformed))
    (λ e. rw e (next t))
  where
    next : (t : List ℕ) → words_say (onto (b ∷ []) (words t)) ≡ line_from (rules_of (letter b)) (letter b) false 0 blank (behind 32 t)
    next [] = from_start (letter b) []
    next (c ∷ t) =
        split (eqb c 32)
        (λ e. rw e (from_start (letter b) (words t)))
        (λ e. rw (e, first_piece 32 t, from-malformed) (sym (from_wrong (rules_of (letter b)) (letter b) false 0 blank [] [] (no_field _ _))))

module _ (s : List ℕ) (at : ℕ) {b : ℕ} (here : b ≡ get_or s at 10) where
  -- an empty line is malformed
  pub words-none : b ≡ 10 → words_say (words (rest_at s at)) ≡ malformed
  unfolding pieces words_say kind_of
  words-none e = rw (rest_end s at here e) (from-malformed [])

  -- the first word is the first byte, if a space or the end is next
  pub words-start : (b ≡ 10 → ⊥) → words_say (words (rest_at s at)) ≡ line_from (rules_of (letter b)) (letter b) false 0 blank (behind 32 (rest_at s (at + 1)))
  words-start p = rw (rest-on s at here p) (start-on b (rest_at s (at + 1)))

-- no kind takes larger numbers than the paper's largest, and each takes all of one digit
pub row-limits : (k : Kind) → ((rules_of k).most ≤ 100) × (9 ≤ (rules_of k).largest) × ((rules_of k).largest ≤ 2147483647)
row-limits Open = omega arith
row-limits Sample = omega arith
row-limits Frame = omega arith
row-limits Read = omega arith
row-limits Malformed = omega arith
