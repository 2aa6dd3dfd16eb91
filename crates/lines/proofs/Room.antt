-- How many numbers a line has room for: fewer than the 100 that an opening may have, so its counts are limited by the line only.
-- Assumes nothing.
use Prim.Native.Nat.{ℕ, suc, ◌+◌, ◌*◌, ◌≤◌}
use native.Mathlib.Omega.{arith}
use Prim.Native.Char.{code}
use mathlib.Core.Path.{◌≡◌, sym, ◌∙◌}
use mathlib.Core.Bool.{true, true≢false}
use mathlib.Core.List.{List, [], ◌∷◌}
use lib.Dec.{eqb}
use lib.ListN.{length}
use borrow.Author.Tests.{le-leb}
use Rattle.lists.proofs.Split.{split, both}
use Rattle.lines.specs.declared.Kind.TheVariants.{Open}
use Rattle.lines.specs.declared.Rules.{Rules}
use Rattle.lines.specs.Line.{words, is_field, letter, kind_of, rules_of, is_shunt, all_fields, obeys, line_with, said, words_say, line_of}
use Rattle.lines.specs.Lines.{pieces}
use Rattle.lines.proofs.Pieces.{first_piece}
use Rattle.lines.proofs.Fields.{no_field}

-- the bytes of some words, with a space in front of each
unfoldable spread : List (List ℕ) → ℕ
spread [] = 0
spread (w ∷ ws) = suc (length w + spread ws)

-- a line has no space in front
words_spread : (s : List ℕ) → spread (words s) ≡ suc (length s)
unfolding spread pieces
words_spread [] = omega arith
words_spread (b ∷ s) =
    split (eqb b 32)
    (λ e. rw e (omega (arith, words_spread s)))
    (λ e. rw (e, first_piece 32 s) (omega (arith, rw (first_piece 32 s) at (words_spread s))))

-- a field is a byte or more
fields-spread : (r : Rules) (n : ℕ) (ws : List (List ℕ)) → all_fields r n ws ≡ true → 2 * length ws ≤ spread ws
unfolding spread all_fields
fields-spread r n [] e = omega arith
fields-spread r n (w ∷ ws) e =
    let parts = both (is_field r.largest (is_shunt r n) w) (all_fields r (n + 1) ws) e in
    omega (arith, fields-spread r (n + 1) ws parts.1, byte w parts.0)
  where
    byte : (w : List ℕ) → is_field r.largest (is_shunt r n) w ≡ true → 1 ≤ length w
    byte [] e = absurd (true≢false (sym e ∙ no_field r.largest (is_shunt r n)))
    byte (b ∷ w) e = omega arith

-- so behind a letter a line has at most 99 fields
pub few-numbers : (r : Rules) (s : List ℕ) (b : ℕ) (ws : List (List ℕ)) → length s ≤ 200 → words s ≡ (b ∷ []) ∷ ws → all_fields r 0 ws ≡ true → length ws ≤ 99
unfolding spread
few-numbers r s b ws short cut e = omega (arith, fields-spread r 0 ws e, rw cut at (words_spread s))

-- and an opening takes any counts, each a number, that a line holds
pub opening-any : (s : List ℕ) (ws : List (List ℕ)) → length s ≤ 200 → words s ≡ (code "O" ∷ []) ∷ ws → all_fields (rules_of Open) 0 ws ≡ true → line_of s ≡ line_with Open ws
unfolding line_of words_say said obeys kind_of letter
opening-any s ws short cut e =
    let few : length ws ≤ 100 = omega (arith, few-numbers (rules_of Open) s (code "O") ws short cut e) in
    rw (le-leb (length s) 200 short, cut, e, le-leb 0 (length ws) (omega arith), le-leb (length ws) 100 few)
