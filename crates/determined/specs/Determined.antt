-- A contract determines its outcome: any two outcomes that it allows agree in the result and in all that was lent to be changed (01, What the acceptance reads).
-- A contract is cited as a whole: it is the one that the toolchain makes of the clauses in src, and it says what the form says and nothing else.
-- Assumes nothing.
use Rattle.std.specs.Prelude.{ℕ, ◌≡◌, List, [], ◌∷◌}
use seplogic.Ra.Ura.{Ura}
use base.Logic.{SProp}
use prog.Memory.{Memory}
use prog.Routine.{Routine}
use types.Logic.{Logic}
use contract.Monad.{Fun}
use contract.Lifetimes.{Lfts}
use Rattle.std.specs.Borrow.{RattleType}
use denote.Exit.{yes}
use denote.Signature.{Signature}
use denote.Triple.End.{Outs, all}
use denote.Triple.Clauses.{closing}
use denote.Triple.Spec.{Spec}
use Rattle.walks.proofs.Form.{Kind, value, shown, handed, behind, slots, Passed, Form, ended_of, clauses-of, clauses-if}

module _ {n : ℕ} where
  -- what is lent to be changed: a value for each `&mut`
  abbrev pub Lent : List (Kind n) → Type 0
  Lent [] = Unit {0}
  Lent (value R ∷ ks) = Lent ks
  Lent (shown j ok R ∷ ks) = Lent ks
  Lent (handed j ok R ∷ ks) = List R.Denot × Lent ks
  Lent (behind j ok R ∷ ks) = R.Denot × Lent ks

  abbrev pub AtExit : Lfts n → List (Kind n) → Type 0
  AtExit κs ks = Outs κs (slots ks) (all yes (slots ks))

  abbrev pub lent_at : (κs : Lfts n) (ks : List (Kind n)) → AtExit κs ks → Lent ks
  lent_at κs [] e = tt
  lent_at κs (value R ∷ ks) e = lent_at κs ks e.1
  lent_at κs (shown j ok R ∷ ks) e = lent_at κs ks e.1
  lent_at κs (handed j ok R ∷ ks) e = (e.0.now, lent_at κs ks e.1)
  lent_at κs (behind j ok R ∷ ks) e = (e.0.now, lent_at κs ks e.1)

-- the contract of a function, in every model
abbrev pub Contract : Signature → Type 2
Contract S = (M : Type 1) (𝓤 : Ura M) (𝓛 : Logic 𝓤) → (Memory → SProp 𝓤) → (Routine → Fun 𝓤) → Spec 𝓤 S

-- any two outcomes that a form allows agree
abbrev pub One : Form → Type 0
One f = (κs : Lfts f.lifetimes) (a : Passed κs f.params) (r t : f.result.Denot) (e u : AtExit κs f.params) → f.says_of κs a r e → f.says_of κs a t u
    → (r ≡ t) × (lent_at κs f.params e ≡ lent_at κs f.params u)

pub record Determined (f : Form) (contract : Contract (ended_of f).signature) : Type 2 where
  pub cited : (M : Type 1) (𝓤 : Ura M) (𝓛 : Logic 𝓤) (mem : Memory → SProp 𝓤) (run : Routine → Fun 𝓤)
      → contract M 𝓤 𝓛 mem run ≡ closing 𝓛 (ended_of f) (clauses-of f 𝓤)
  pub one : One f

-- the same of a contract with a `requires`
pub record DeterminedIf (f : Form) (φ : (κs : Lfts f.lifetimes) → Passed κs f.params → Type 0) (contract : Contract (ended_of f).signature) : Type 2 where
  pub cited : (M : Type 1) (𝓤 : Ura M) (𝓛 : Logic 𝓤) (mem : Memory → SProp 𝓤) (run : Routine → Fun 𝓤)
      → contract M 𝓤 𝓛 mem run ≡ closing 𝓛 (ended_of f) (clauses-if f 𝓤 φ)
  pub one : One f

-- ---- the form that nearly every contract has: the result and all that was lent to be changed are each one function of the arguments

module _ {n : ℕ} where
  -- a function of the arguments, of the values that stand behind what is lent
  abbrev pub Takes : List (Kind n) → Type 0 → Type 0
  Takes [] Z = Z
  Takes (value R ∷ ks) Z = R.Denot → Takes ks Z
  Takes (shown j ok R ∷ ks) Z = List R.Denot → Takes ks Z
  Takes (handed j ok R ∷ ks) Z = List R.Denot → Takes ks Z
  Takes (behind j ok R ∷ ks) Z = R.Denot → Takes ks Z

  abbrev pub of : {Z : Type 0} (κs : Lfts n) (ks : List (Kind n)) → Takes ks Z → Passed κs ks → Z
  of κs [] f a = f
  of κs (value R ∷ ks) f a = of κs ks (f a.0) a.1
  of κs (shown j ok R ∷ ks) f a = of κs ks (f a.0.now) a.1
  of κs (handed j ok R ∷ ks) f a = of κs ks (f a.0.now) a.1
  of κs (behind j ok R ∷ ks) f a = of κs ks (f a.0.now) a.1

  -- P, and each at exit is the one that is given
  abbrev pub Also : (κs : Lfts n) (ks : List (Kind n)) → Type 0 → Lent ks → AtExit κs ks → Type 0
  Also κs [] P w e = P
  Also κs (value R ∷ ks) P w e = Also κs ks P w e.1
  Also κs (shown j ok R ∷ ks) P w e = Also κs ks P w e.1
  Also κs (handed j ok R ∷ ks) P w e = P × Also κs ks (e.0.now ≡ w.0) w.1 e.1
  Also κs (behind j ok R ∷ ks) P w e = P × Also κs ks (e.0.now ≡ w.0) w.1 e.1

  abbrev pub gives : (ks : List (Kind n)) (O : RattleType) → Takes ks O.Denot → Takes ks (Lent ks) → Form
  gives ks O result lent = record { lifetimes = n; params = ks; result = O; says_of = λ κs a r e. Also κs ks (r ≡ of κs ks result a) (of κs ks lent a) e }
