-- The number in front of a line, held against the line's first word.
-- Assumes nothing.
use Prim.Native.Nat.{ℕ, ◌≤◌}
use native.Mathlib.Omega.{arith}
use mathlib.Core.Path.{◌≡◌, refl, sym, ap, ◌∙◌}
use mathlib.Core.Logic.{◌⊎◌, inl, inr, ⊎_elim}
use mathlib.Core.Bool.{true, false, true≢false}
use mathlib.Core.List.{List, [], ◌∷◌}
use lib.Dec.{eqb, eqb-suc-zero}
use lib.ListN.{length, drop}
use borrow.Author.Tests.{eqb-true, ne_eqb}
use Rattle.lists.specs.Every.{every}
use Rattle.lists.proofs.Split.{split, both}
use Rattle.lines.specs.Lines.{before}
use Rattle.lines.proofs.Pieces.{behind}
use Rattle.lines.specs.Line.{is_digit, starts_well, is_number, negative, unsigned}
use Rattle.lines.specs.Way.{digits, front}
use Rattle.lines.proofs.Numbers.{digit-range}

digits_long : (t : List ℕ) → length (digits t) ≤ length t
unfolding digits
digits_long [] = omega arith
digits_long (b ∷ t) = split (is_digit b) (λ d. rw d (omega (arith, digits_long t))) (λ d. rw d (omega arith))

pub front_long : (t : List ℕ) → length (front t) ≤ length t
unfolding front
front_long [] = omega arith
front_long (b ∷ t) = split (eqb b 48) (λ e. rw e (omega arith)) (λ e. rw e (digits_long (b ∷ t)))

-- a word of digits is the digits in front
digits-word : (t : List ℕ) → every is_digit (before 32 t) ≡ true → digits t ≡ before 32 t
unfolding before digits every
digits-word [] e = refl
digits-word (b ∷ t) e =
    split (eqb b 32)
    (λ space. rw (space, eqb-true b 32 space))
    (λ other.
    let parts = both (is_digit b) (every is_digit (before 32 t)) (rw other at e) in
    rw (other, parts.0) (ap (λ (w : List ℕ). b ∷ w) (digits-word t parts.1)))

none_left : (w : List ℕ) → eqb (length w) 0 ≡ true → w ≡ []
none_left [] e = refl
none_left (x ∷ w) e = absurd (true≢false (sym e ∙ eqb-suc-zero (length w)))

-- so a word that is a number is the number in front
pub number_word : (largest : ℕ) (t : List ℕ) → is_number largest (before 32 t) ≡ true → front t ≡ before 32 t
unfolding before front is_number starts_well
number_word largest [] e = refl
number_word largest (b ∷ t) e =
    let parts = both (starts_well (before 32 (b ∷ t))) _ e in
    split (eqb b 48)
    (λ zero.
    let alone : eqb (length (before 32 t)) 0 ≡ true = rw (eqb-true b 48 zero) at parts.0 in
    rw (zero, eqb-true b 48 zero, none_left (before 32 t) alone))
    (λ other. rw other (digits-word (b ∷ t) (both (every is_digit (before 32 (b ∷ t))) _ parts.1).0))

-- where the number in front is not the word, no field is behind it
digits-or : (t : List ℕ) → (before 32 t ≡ digits t) ⊎ (behind 32 (drop (length (digits t)) t) ≡ [] ∷ [])
unfolding before digits behind
digits-or [] = inl refl
digits-or (b ∷ t) =
    split (is_digit b)
    (λ d. rw (d, ne_eqb b 32 (λ e. omega (arith, digit-range b d))) (⊎_elim (λ e. inl (ap (λ (w : List ℕ). b ∷ w) e)) inr (digits-or t)))
    (λ d. rw d (split (eqb b 32) (λ e. rw e (inl refl)) (λ e. rw e (inr refl))))

zero_or : (t : List ℕ) → (before 32 (48 ∷ t) ≡ 48 ∷ []) ⊎ (behind 32 t ≡ [] ∷ [])
unfolding before behind
zero_or [] = inl refl
zero_or (b ∷ t) = split (eqb b 32) (λ e. rw e (inl refl)) (λ e. rw e (inr refl))

pub front-or : (t : List ℕ) → (before 32 t ≡ front t) ⊎ (behind 32 (drop (length (front t)) t) ≡ [] ∷ [])
unfolding before front
front-or [] = inl refl
front-or (b ∷ t) = split (eqb b 48) (λ z. rw (z, eqb-true b 48 z) (zero_or t)) (λ z. rw z (digits-or (b ∷ t)))

-- a word that does not begin with a minus sign has none
pub plain-negative : (b : ℕ) (t : List ℕ) → eqb b 45 ≡ false → negative (before 32 (b ∷ t)) ≡ false
unfolding before negative
plain-negative b t e = split (eqb b 32) (λ s. rw s) (λ s. rw (s, e))

pub plain-unsigned : (b : ℕ) (t : List ℕ) → eqb b 45 ≡ false → unsigned (before 32 (b ∷ t)) ≡ before 32 (b ∷ t)
unfolding before unsigned
plain-unsigned b t e = split (eqb b 32) (λ s. rw s) (λ s. rw (s, e))
