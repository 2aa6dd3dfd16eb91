-- Bytes with a newline among them are no line: no letter and no field has one.
-- Assumes nothing.
use Prim.Native.Nat.{ℕ, suc, ◌+◌, ◌<◌}
use native.Mathlib.Omega.{arith}
use mathlib.Core.Path.{◌≡◌, refl, sym, ◌∙◌}
use mathlib.Core.Bool.{Bool, true, false, true≢false, not, ◌&&◌, and-false, and_assoc}
use mathlib.Core.List.{List, [], ◌∷◌}
use lib.Dec.{eqb, leb}
use lib.ListN.{length}
use borrow.Author.Tests.{eqb-true, ne_eqb}
use Rattle.lists.specs.Every.{every}
use Rattle.lists.proofs.Split.{split, both}
use Rattle.lines.specs.Lines.{before, pieces}
use Rattle.lines.proofs.Pieces.{first_piece}
use Rattle.lines.specs.declared.Rules.{Rules}
use Rattle.lines.specs.declared.Kind.{Kind}
use Rattle.lines.specs.Line.{words, is_digit, starts_well, is_number, unsigned, is_field, letter, kind_of, rules_of, is_shunt, all_fields, obeys, malformed, said, words_say, line_of}
use Rattle.lines.proofs.Numbers.{digit-on}
use Rattle.lines.proofs.Fields.{from-malformed}

-- a byte that is no newline, and bytes with none among them
abbrev other : ℕ → Bool
other b = not (eqb b 10)

abbrev free : List ℕ → Bool
free s = every other s

free-not : (s : List ℕ) → length (before 10 s) < length s → free s ≡ false
unfolding before every
free-not [] h = absurd (omega arith)
free-not (b ∷ s) h =
    split (eqb b 10) (λ e. rw e)
    (λ e. let less : suc (length (before 10 s)) < suc (length s) = rw e at h in rw e (free-not s (omega arith)))

-- the words have the line's newlines
free-words : (s : List ℕ) → every free (words s) ≡ free s
unfolding pieces every
free-words [] = refl
free-words (b ∷ s) =
    split (eqb b 32)
    (λ e. rw (e, eqb-true b 32 e) (free-words s))
    (λ e. rw (e, first_piece 32 s, and_assoc) (rest (other b) (rw (first_piece 32 s) at (free-words s))))
  where
    rest : (t : Bool) {x y : Bool} → x ≡ y → (t && x) ≡ (t && y)
    rest t e = rw e

digits-free : (w : List ℕ) → every is_digit w ≡ true → free w ≡ true
unfolding every
digits-free [] e = refl
digits-free (b ∷ w) e =
    let parts = both (is_digit b) (every is_digit w) e in
    rw (ne_eqb b 10 (digit-on parts.0)) (digits-free w parts.1)

field-free : (largest : ℕ) (signed : Bool) (w : List ℕ) → is_field largest signed w ≡ true → free w ≡ true
unfolding is_field is_number unsigned every
field-free largest signed [] e = refl
field-free largest signed (b ∷ w) e =
    let number = (both (is_number largest (unsigned (b ∷ w))) _ e).0 in
    let digits = (both (every is_digit (unsigned (b ∷ w))) _ (both (starts_well (unsigned (b ∷ w))) _ number).1).0 in
    split (eqb b 45)
    (λ t. rw (eqb-true b 45 t) (digits-free w (rw t at digits)))
    (λ t. digits-free (b ∷ w) (rw t at digits))

fields_free : (r : Rules) (n : ℕ) (ws : List (List ℕ)) → all_fields r n ws ≡ true → every free ws ≡ true
unfolding all_fields every
fields_free r n [] e = refl
fields_free r n (w ∷ ws) e =
    let parts = both (is_field r.largest (is_shunt r n) w) (all_fields r (n + 1) ws) e in
    rw (field-free r.largest (is_shunt r n) w parts.0) (fields_free r (n + 1) ws parts.1)

said-wrong : (k : Kind) (ws : List (List ℕ)) → every free ws ≡ false → said k ws ≡ malformed
unfolding said obeys
said-wrong k ws f =
    split (all_fields (rules_of k) 0 ws)
    (λ t. absurd (true≢false (sym (fields_free (rules_of k) 0 ws t) ∙ f)))
    (λ t. rw (t, and-false, and-false))

said-free : (w : List ℕ) (ws : List (List ℕ)) → every free (w ∷ ws) ≡ false → said (kind_of w) ws ≡ malformed
unfolding every kind_of letter
said-free [] ws e = from-malformed ws
said-free (b ∷ c ∷ w) ws e = from-malformed ws
said-free (b ∷ []) ws e =
    split (eqb b 10)
    (λ t. rw (eqb-true b 10 t) (from-malformed ws))
    (λ t. said-wrong (letter b) ws (rw t at e))

pub newline-malformed : (s : List ℕ) → length (before 10 s) < length s → line_of s ≡ malformed
unfolding line_of words_say
newline-malformed s h =
    let cut = rw (first_piece 32 s) at (free-words s ∙ free-not s h) in
    split (leb (length s) 200) (λ t. rw (t, first_piece 32 s) (said-free _ _ cut)) (λ t. rw t)
