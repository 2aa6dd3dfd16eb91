-- The end of a line: the search for it, and the lines of a block up to it.
-- Assumes nothing.
use Prim.Native.Nat.{ℕ, suc, ◌+◌, ◌<◌, ◌≤◌}
use native.Mathlib.Omega.{arith}
use native.Mathlib.Numerals.{add-one}
use mathlib.Core.Path.{◌≡◌, refl, sym, ap, ◌∙◌}
use mathlib.Core.List.{List, [], ◌∷◌, ◌++◌, append_assoc, append-nil}
use lib.Dec.{eqb, ltb}
use lib.ListN.{length, take, drop, length-drop}
use lib.Seq.{take_all, take-add}
use borrow.Author.Tests.{eqb-true, ltb-false}
use borrow.Table.Steps.{cases}
use Rattle.std.specs.List.{position, position_or_len}
use Rattle.std.specs.Option.{unwrap_or}
use Rattle.std.proofs.lemmas.List.Recursion.{is_position_or_len}
use Rattle.lines.specs.Lines.{before, ended, left, up_to}
use Rattle.lines.proofs.Pieces.{ended-none, left-none, ended-byte, left-byte}

-- ---- the bytes before the first newline

pub line-take : (t : List ℕ) → take (length (up_to t)) t ≡ up_to t
unfolding before
line-take [] = refl
line-take (b ∷ t) = cases (eqb b 10) (λ e. rw e) λ e. rw e (ap (λ (l : List ℕ). b ∷ l) (line-take t))

line-le : (t : List ℕ) → length (up_to t) ≤ length t
unfolding before
line-le [] = omega arith
line-le (b ∷ t) = cases (eqb b 10) (λ e. rw e (omega arith)) λ e. rw e (omega (arith, line-le t))

-- ---- the search for it

newline_or : (t : List ℕ) → length (up_to t) ≡ position_or_len (λ b. eqb b 10) t
unfolding before
newline_or t = is_position_or_len (λ s. length (up_to s)) (λ b. eqb b 10) refl (λ b s. cases (eqb b 10) (λ e. rw e) (λ e. rw e (omega arith))) t

pub newline-at : (t : List ℕ) → unwrap_or (position (λ b. eqb b 10) t) (length t) ≡ length (up_to t)
newline-at t =
    rw newline_or
    (cases (ltb (position_or_len (λ b. eqb b 10) t) (length t))
    (λ e. rw e)
    (λ e. let all = ltb-false _ _ e in let few : position_or_len (λ b. eqb b 10) t ≤ length t = rw (← newline_or t) (line-le t) in rw e (omega arith)))

-- no line ends in them
pub ended-free : (p t : List ℕ) → ended p (up_to t) ≡ []
unfolding before
ended-free p [] = ended-none p
ended-free p (b ∷ t) =
    cases (eqb b 10) (λ e. rw (e, ended-none p)) λ e. rw (e, ended-byte p b (up_to t), e) (ended-free (p ++ (b ∷ [])) t)

pub left-free : (p t : List ℕ) → left p (up_to t) ≡ p ++ up_to t
unfolding before
left-free p [] = left-none p ∙ sym (append-nil p)
left-free p (b ∷ t) =
    cases (eqb b 10) (λ e. rw (e, left-none p, append-nil p))
    λ e. rw (e, left-byte p b (up_to t), e) (left-free (p ++ (b ∷ [])) t ∙ append_assoc p (b ∷ []) (up_to t))

-- and what follows them is a newline
newline-next : (t : List ℕ) → length (up_to t) < length t → take (length (up_to t) + 1) t ≡ up_to t ++ (10 ∷ [])
unfolding before
newline-next [] h = absurd (omega arith)
newline-next (b ∷ t) h =
    cases (eqb b 10) (λ e. rw (e, eqb-true b 10 e))
    λ e. let less : suc (length (up_to t)) < suc (length t) = rw e at h in
    let next : take (suc (length (up_to t))) t ≡ up_to t ++ (10 ∷ []) = rw (add-one (length (up_to t))) at (newline-next t (omega arith)) in
    rw (e, add-one (suc (length (up_to t)))) (ap (λ (l : List ℕ). b ∷ l) next)

-- ---- a block s is used up to at

module _ (s : List ℕ) (at : ℕ) where
  -- the next line ends in it, with its newline
  pub to-newline : at + length (up_to (drop at s)) < length s → take (at + length (up_to (drop at s)) + 1) s ≡ take at s ++ (up_to (drop at s) ++ (10 ∷ []))
  to-newline l =
      let sum : at + length (up_to (drop at s)) + 1 ≡ at + (length (up_to (drop at s)) + 1) = omega arith in
      rw (sum, take-add at (length (up_to (drop at s)) + 1) s, newline-next (drop at s) (rw (length-drop at s) (omega arith)))

  -- or none does
  pub rest-free : at ≤ length s → length s ≤ at + length (up_to (drop at s)) → up_to (drop at s) ≡ drop at s
  rest-free h l = sym (line-take (drop at s)) ∙ take_all (length (up_to (drop at s))) (drop at s) (rw (length-drop at s) (omega arith))
