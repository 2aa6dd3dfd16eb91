-- A test and the proposition that it asks: each holds exactly where the other does. Once for each way to put tests together.
-- Assumes nothing.
use Prim.Native.Nat.{ℕ, suc, ◌<◌, ◌≤◌}
use native.Mathlib.Omega.{arith}
use mathlib.Core.Path.{◌≡◌, refl, sym, ap, ◌∙◌, subst}
use mathlib.Core.Logic.{◌⊎◌, inl, inr, ◌↔◌}
use mathlib.Core.Bool.{Bool, true, false, true≢false, not, ◌&&◌, ◌||◌, or_assoc}
use mathlib.Core.List.{List, [], ◌∷◌, map}
use lib.Dec.{leb, ltb, eqb}
use lib.ListN.{get_or}
use borrow.Author.Tests.{leb-true, leb-false, le-leb, lt-leb, ltb-true, lt-ltb, eqb-true, eq-eqb}
use Rattle.lists.specs.Every.{every}
use Rattle.lists.proofs.Every.{every-at}
use Rattle.lists.proofs.Split.{split, not_yes}
use Rattle.demands.specs.Refused.{Some, Outside}

abbrev pub Asks : Bool → Type 0 → Type 0
Asks b P = (b ≡ true) ↔ P

-- where it fails, so does the proposition
pub asks-no : {P : Type 0} (b : Bool) → Asks b P → (b ≡ false) ↔ (¬ P)
asks-no true a = (λ e. absurd (true≢false e), λ no. absurd (no (a.0 refl)))
asks-no false a = (λ e p. true≢false (sym (a.1 p)), λ no. refl)

-- the same proposition in other words, and the same test
pub asks-so : {P Q : Type 0} (b : Bool) → Asks b P → (P → Q) → (Q → P) → Asks b Q
asks-so b a f g = (λ e. f (a.0 e), λ q. a.1 (g q))

pub asks-same : {P : Type 0} (b c : Bool) → b ≡ c → Asks c P → Asks b P
asks-same {P} b c e a = subst (λ (t : Bool). Asks t P) (sym e) a

-- numbers
pub asks-lt : (m n : ℕ) → Asks (ltb m n) (m < n)
asks-lt m n = (ltb-true m n, lt-ltb m n)

pub asks-le : (m n : ℕ) → Asks (leb m n) (m ≤ n)
asks-le m n = (leb-true m n, le-leb m n)

pub asks-eq : (m n : ℕ) → Asks (eqb m n) (m ≡ n)
asks-eq m n = (eqb-true m n, eq-eqb m n)

pub asks-above : (m n : ℕ) → Asks (not (leb m n)) (n < m)
asks-above m n = (λ e. leb-false m n (not_yes (leb m n) e), λ p. ap not (lt-leb m n p))

-- or, and, not
pub asks-or : {P Q : Type 0} (b c : Bool) → Asks b P → Asks c Q → Asks (b || c) (P ⊎ Q)
asks-or true c p q = (λ e. inl (p.0 refl), λ s. refl)
asks-or {P} {Q} false c p q = (λ e. inr (q.0 e), back)
  where
    back : P ⊎ Q → c ≡ true
    back (inl x) = absurd (true≢false (sym (p.1 x)))
    back (inr y) = q.1 y

pub asks-and : {P Q : Type 0} (b c : Bool) → Asks b P → Asks c Q → Asks (b && c) (P × Q)
asks-and true c p q = (λ e. (p.0 refl, q.0 e), λ s. q.1 s.1)
asks-and false c p q = (λ e. absurd (true≢false (sym e)), λ s. p.1 s.0)

pub asks-not : {P : Type 0} (b : Bool) → Asks b P → Asks (not b) (¬ P)
asks-not true a = (λ e. absurd (true≢false (sym e)), λ no. absurd (no (a.0 refl)))
asks-not false a = (λ e p. true≢false (sym (a.1 p)), λ no. refl)

pub asks-twice : {P : Type 0} (b : Bool) → Asks b P → Asks (not (not b)) P
asks-twice true a = a
asks-twice false a = a

-- three joined by or, from the left
pub asks-or3 : {P : Type 0} (a b c : Bool) → Asks (a || (b || c)) P → Asks ((a || b) || c) P
asks-or3 a b c = asks-same ((a || b) || c) (a || (b || c)) (or_assoc a b c)

-- outside two bounds
pub asks-outside : (low high n : ℕ) → Asks (ltb n low || ltb high n) (Outside low high n)
asks-outside low high n = asks-or (ltb n low) (ltb high n) (asks-lt n low) (asks-lt high n)

-- some entry of a list, where every entry is tested
module _ {A : Type 0} (none : A) (P : A → Type 0) (fine : A → Bool) (asks : (v : A) → Asks (not (fine v)) (P v)) where
  some-not : (l : List A) → every fine l ≡ false → Some none P l
  unfolding every
  some-not [] e = absurd (true≢false e)
  some-not (v ∷ l) e =
      split (fine v)
      (λ f. let later = some-not l (rw f at e) in (suc later.0, omega (arith, later.1), later.2))
      (λ f. (0, omega arith, (asks v).0 (ap not f)))

  pub asks-some : (l : List A) → Asks (not (every fine l)) (Some none P l)
  asks-some l = (
    λ e. some-not l (not_yes (every fine l) e),
    λ (i, p, bad). split (every fine l) (λ e. absurd (true≢false (sym ((asks (get_or l i none)).1 bad) ∙ ap not (every-at fine l i none e p)))) (λ e. ap not e),
  )

-- a test of what stands for each entry
pub every_of : {A B : Type 0} (fine : B → Bool) (f : A → B) (l : List A) → every (λ x. fine (f x)) l ≡ every fine (map f l)
unfolding every
every_of fine f [] = refl
every_of fine f (x ∷ l) = rw (every_of fine f l)
