-- What is kept of a line is enough: whoever reads all lines over 200 bytes alike reads the same from it.
-- Assumes nothing.
use Prim.Native.Nat.{ℕ, zero, suc, ◌<◌, ◌≤◌}
use native.Mathlib.Omega.{arith}
use mathlib.Core.Path.{◌≡◌, refl, sym, ap, ◌∙◌}
use mathlib.Core.List.{List, [], ◌∷◌, ◌++◌, map, map-append, flatten}
use lib.Dec.{eqb, ltb}
use lib.ListN.{length, take, length-take}
use lib.Seq.{take_all, take-take}
use borrow.Author.Tests.{ltb-true, ltb-false}
use borrow.Table.Steps.{cases}
use Rattle.lines.specs.Lines.{ended, left, last_line, lines_of}
use Rattle.lines.proofs.Pieces.{ended-none, left-none, ended-byte, left-byte}
use Rattle.lines.specs.Way.{most, clip, ended_in, left_in}
use Rattle.lines.proofs.Blocks.{ended-append, left-append}

pub clip-append : (p s : List ℕ) → clip (clip p ++ s) ≡ clip (p ++ s)
unfolding clip
clip-append p s = by most p s
  where
    by : (n : ℕ) (p s : List ℕ) → take n (take n p ++ s) ≡ take n (p ++ s)
    by zero p s = refl
    by (suc n) [] s = refl
    by (suc n) (x ∷ p) s = ap (λ (l : List ℕ). x ∷ l) (by n p s)

pub clip-clip : (p : List ℕ) → clip (clip p) ≡ clip p
unfolding clip
clip-clip p = take-take most most p (omega arith)

-- a line of 200 bytes is kept whole, and a longer one stays too long
pub clip-short : (p : List ℕ) → length p ≤ 200 → clip p ≡ p
unfolding clip
clip-short p h = take_all most p (omega arith)

pub clip-long : (p : List ℕ) → 200 < length p → 200 < length (clip p)
unfolding clip
clip-long p h = rw (length-take most p) (omega arith)

-- ---- two lines that are kept alike stay so

more-alike : (p q s : List ℕ) → clip p ≡ clip q → clip (p ++ s) ≡ clip (q ++ s)
more-alike p q s e = sym (clip-append p s) ∙ ap (λ (l : List ℕ). clip (l ++ s)) e ∙ clip-append q s

pub left-alike : (p q s : List ℕ) → clip p ≡ clip q → clip (left p s) ≡ clip (left q s)
left-alike p q [] e = rw (left-none p, left-none q) e
left-alike p q (b ∷ s) e =
    rw (left-byte p b s, left-byte q b s)
    (cases (eqb b 10) (λ t. rw t) λ t. rw t (left-alike (p ++ (b ∷ [])) (q ++ (b ∷ [])) s (more-alike p q (b ∷ []) e)))

pub left-flatten : (p q : List ℕ) (parts : List (List ℕ)) → clip p ≡ clip q → clip (left_in p parts) ≡ clip (left q (flatten parts))
unfolding left_in flatten
left-flatten p q [] e = rw (left-none q) e
left-flatten p q (s ∷ parts) e =
    left-flatten (clip (left p s)) (left q s) parts (clip-clip (left p s) ∙ left-alike p q s e) ∙ ap clip (sym (left-append q s (flatten parts)))

module _ {A : Type 0} (read : List ℕ → A) (over : (p q : List ℕ) → 200 < length p → 200 < length q → read p ≡ read q) where
  pub read-clip : (p : List ℕ) → read (clip p) ≡ read p
  read-clip p =
      cases (ltb 200 (length p))
      (λ e. let long = ltb-true 200 (length p) e in over (clip p) p (clip-long p long) long)
      λ e. let short = ltb-false 200 (length p) e in rw (clip-short p short)

  pub read_alike : (p q : List ℕ) → clip p ≡ clip q → read p ≡ read q
  read_alike p q e = sym (read-clip p) ∙ ap read e ∙ read-clip q

  pub ended-alike : (p q s : List ℕ) → clip p ≡ clip q → map read (ended p s) ≡ map read (ended q s)
  ended-alike p q [] e = rw (ended-none p, ended-none q)
  ended-alike p q (b ∷ s) e =
      rw (ended-byte p b s, ended-byte q b s)
      (cases (eqb b 10) (λ t. rw (t, read_alike p q e))
      λ t. rw t (ended-alike (p ++ (b ∷ [])) (q ++ (b ∷ [])) s (more-alike p q (b ∷ []) e)))

  last-alike : (p q : List ℕ) → clip p ≡ clip q → map read (last_line p) ≡ map read (last_line q)
  unfolding clip last_line
  last-alike [] [] e = refl
  last-alike [] (b ∷ q) e = let z : ◌≡◌ {A = ℕ} 0 1 = cc in absurd (omega arith)
  last-alike (b ∷ p) [] e = let z : ◌≡◌ {A = ℕ} 0 1 = cc in absurd (omega arith)
  last-alike (b ∷ p) (d ∷ q) e = ap (λ (a : A). a ∷ []) (read_alike (b ∷ p) (d ∷ q) e)

  ended-flatten : (p q : List ℕ) (parts : List (List ℕ)) → clip p ≡ clip q → map read (ended_in p parts) ≡ map read (ended q (flatten parts))
  unfolding ended_in flatten
  ended-flatten p q [] e = rw (ended-none q)
  ended-flatten p q (s ∷ parts) e =
      rw (map-append read (ended p s) (ended_in (clip (left p s)) parts), ended-append q s (flatten parts), map-append read (ended q s) (ended (left q s) (flatten parts)), ended-alike p q s e, ended-flatten (clip (left p s)) (left q s) parts (clip-clip (left p s) ∙ left-alike p q s e))

  -- so an input in parts of any size reads as the lines of the whole
  pub lines-flatten : (parts : List (List ℕ)) → map read (ended_in [] parts ++ last_line (left_in [] parts)) ≡ map read (lines_of (flatten parts))
  unfolding lines_of
  lines-flatten parts =
      rw (map-append read (ended_in [] parts) (last_line (left_in [] parts)), map-append read (ended [] (flatten parts)) (last_line (left [] (flatten parts))), ended-flatten [] [] parts refl, last-alike (left_in [] parts) (left [] (flatten parts)) (left-flatten [] [] parts refl))
