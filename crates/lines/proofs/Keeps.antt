-- What a line has: every line keeps its row of the table.
-- Assumes nothing.
use Prim.Native.Nat.{ℕ, zero, suc, ◌+◌, ◌≤◌}
use native.Mathlib.Omega.{arith}
use mathlib.Core.Path.{◌≡◌, refl, sym}
use mathlib.Core.Bool.{Bool, true, true≢false, ◌&&◌}
use mathlib.Core.List.{List, [], ◌∷◌, map}
use lib.Dec.{leb}
use lib.ListN.{length, get_or, set, replicate}
use lib.Seq.{sets, length-sets}
use borrow.Author.Tests.{eqb-true, leb-true}
use Rattle.lists.specs.Every.{every}
use Rattle.lists.proofs.Split.{split, both}
use Rattle.lines.specs.declared.Kind.{Kind}
use Rattle.lines.specs.declared.Kind.TheVariants.{Open, Sample, Frame, Read, Malformed}
use Rattle.lines.specs.declared.Rules.{Rules}
use Rattle.lines.specs.declared.Line.{Line}
use Rattle.lines.specs.Line.{words, is_digit, starts_well, is_number, negative, unsigned, size_of, is_field, kind_of, rules_of, is_shunt, all_fields, obeys, any_negative, blank, line_with, malformed, said, words_say, line_of}
use Rattle.lines.proofs.Fields.{row-limits}

-- ---- no number is over the largest of its kind

field-small : (largest : ℕ) (signed : Bool) (w : List ℕ) → is_field largest signed w ≡ true → size_of w ≤ largest
unfolding is_field is_number
field-small largest signed w e =
    let number = (both (is_number largest (unsigned w)) _ e).0 in
    let few = (both (starts_well (unsigned w)) (every is_digit (unsigned w) && leb (size_of w) largest) number).1 in
    leb-true (size_of w) largest (both (every is_digit (unsigned w)) (leb (size_of w) largest) few).1

set-small : (most : ℕ) (xs : List ℕ) (n v : ℕ) → ((i : ℕ) → get_or xs i 0 ≤ most) → v ≤ most → (i : ℕ) → get_or (set xs n v) i 0 ≤ most
set-small most [] n v f h i = f i
set-small most (x ∷ xs) zero v f h zero = h
set-small most (x ∷ xs) zero v f h (suc i) = f (suc i)
set-small most (x ∷ xs) (suc n) v f h zero = f zero
set-small most (x ∷ xs) (suc n) v f h (suc i) = set-small most xs n v (λ j. f (suc j)) h i

fields-small : (r : Rules) (n at : ℕ) (ws : List (List ℕ)) (xs : List ℕ) → all_fields r n ws ≡ true → ((i : ℕ) → get_or xs i 0 ≤ r.largest)
    → (i : ℕ) → get_or (sets xs at (map size_of ws)) i 0 ≤ r.largest
unfolding all_fields
fields-small r n at [] xs e f = f
fields-small r n at (w ∷ ws) xs e f =
    let parts = both (is_field r.largest (is_shunt r n) w) (all_fields r (n + 1) ws) e in
    fields-small r (n + 1) (suc at) ws (set xs at (size_of w)) parts.1 (set-small r.largest xs at (size_of w) f (field-small _ _ w parts.0))

zeros-small : (n most i : ℕ) → get_or (replicate n 0) i 0 ≤ most
zeros-small zero most i = omega arith
zeros-small (suc n) most zero = omega arith
zeros-small (suc n) most (suc i) = zeros-small n most i

-- ---- a minus sign stands only in the signed place, which only a sample has

sign-head : (r : Rules) (n : ℕ) (ws : List (List ℕ)) → all_fields r n ws ≡ true → any_negative ws ≡ true → 1 ≤ r.head
unfolding all_fields any_negative is_field
sign-head r n [] e m = absurd (true≢false (sym m))
sign-head r n (w ∷ ws) e m =
    let parts = both (is_field r.largest (is_shunt r n) w) (all_fields r (n + 1) ws) e in
    split (negative w)
    (λ t. omega (arith, eqb-true (n + 1) r.head (both (is_shunt r n) _ (rw t at (both (is_number r.largest (unsigned w)) _ parts.0).1)).0))
    (λ t. sign-head r (n + 1) ws parts.1 (rw t at m))

sign-kind : (k : Kind) → 1 ≤ (rules_of k).head → k ≡ Sample
sign-kind Open h = absurd (omega arith)
sign-kind Sample h = refl
sign-kind Frame h = absurd (omega arith)
sign-kind Read h = absurd (omega arith)
sign-kind Malformed h = absurd (omega arith)

-- ---- every line

pub record Keeps (l : Line) : Type 0 where
  pub fewest : (rules_of l.kind).head ≤ l.count
  pub most : l.count ≤ (rules_of l.kind).most
  pub largest : (i : ℕ) → get_or l.numbers i 0 ≤ (rules_of l.kind).largest
  pub places : length l.numbers ≡ 21
  pub signed : l.minus ≡ true → l.kind ≡ Sample

kept : (k : Kind) (ws : List (List ℕ)) → obeys (rules_of k) ws ≡ true → Keeps (line_with k ws)
unfolding obeys blank
kept k ws e =
    let r = rules_of k in
    let parts = both (leb r.head (length ws)) (leb (length ws) r.most && all_fields r 0 ws) e in
    let rest = both (leb (length ws) r.most) (all_fields r 0 ws) parts.1 in
    record {
      fewest = leb-true r.head (length ws) parts.0;
      most = leb-true (length ws) r.most rest.0;
      largest = fields-small r 0 0 ws (replicate 21 0) rest.1 (zeros-small 21 r.largest);
      places = length-sets (replicate 21 0) 0 (map size_of ws);
      signed = λ m. sign-kind k (sign-head r 0 ws rest.1 m);
    }

-- a malformed line keeps the last row
said-keeps : (k : Kind) (ws : List (List ℕ)) → Keeps (said k ws)
unfolding said malformed obeys all_fields
said-keeps k ws = split (obeys (rules_of k) ws) (λ t. rw t (kept k ws t)) (λ t. rw t (kept Malformed [] refl))

malformed-keeps : Keeps malformed
unfolding malformed obeys all_fields
malformed-keeps = kept Malformed [] refl

words-keep : (ws : List (List ℕ)) → Keeps (words_say ws)
unfolding words_say
words-keep [] = malformed-keeps
words-keep (w ∷ ws) = said-keeps (kind_of w) ws

pub keeps : (s : List ℕ) → Keeps (line_of s)
unfolding line_of
keeps s = split (leb (length s) 200) (λ t. rw t (words-keep (words s))) (λ t. rw t malformed-keeps)

module _ (s : List ℕ) where
  -- the five fields in front of the cells, and at most 16 of these
  pub sample-count : (line_of s).kind ≡ Sample → (5 ≤ (line_of s).count) × ((line_of s).count ≤ 21)
  sample-count e = (rw e at (keeps s).fewest, rw e at (keeps s).most)

  pub frame-count : (line_of s).kind ≡ Frame → (line_of s).count ≤ 16
  frame-count e = rw e at (keeps s).most

  pub frame_byte : (line_of s).kind ≡ Frame → (i : ℕ) → get_or (line_of s).numbers i 0 ≤ 255
  frame_byte e = rw e at (keeps s).largest

  pub read_count : (line_of s).kind ≡ Read → (line_of s).count ≡ 0
  read_count e = let none : (line_of s).count ≤ 0 = rw e at (keeps s).most in omega arith

  -- a minus sign only before the shunt
  pub minus-sample : (line_of s).minus ≡ true → (line_of s).kind ≡ Sample
  minus-sample = (keeps s).signed

  -- of every kind
  pub number_size : (i : ℕ) → get_or (line_of s).numbers i 0 ≤ 2147483647
  number_size i = omega (arith, (keeps s).largest i, row-limits (line_of s).kind)
