-- What an answer says in the paper's terms: the number of a refusal, or 0 and the values of an accepted act.
-- Assumes nothing.
use Rattle.std.specs.Prelude.{ℕ, Bool, cond, List, [], ◌∷◌, eqb, get_or, Result, Ok, Err}
use Rattle.refusal.specs.declared.Refusal.{Refusal}
use Rattle.refusal.specs.Refusals.{number_of, numbered}

pub record Said : Type 0 where
  pub number : ℕ
  pub values : List ℕ

abbrev pub refuses : ℕ → Said
refuses n = record { number = n; values = [] }

abbrev pub accepts : List ℕ → Said
accepts vs = record { number = 0; values = vs }

-- value i of an accepted act, from 0
abbrev pub value : ℕ → Said → ℕ
value i s = get_or s.values i 0

-- what an answer says, by the numbers that stand for the value of an accepted act
abbrev pub said_by : {A : Type 0} → (A → List ℕ) → Result A Refusal → Said
said_by put (Ok a) = accepts (put a)
said_by put (Err why) = refuses (number_of why)

-- and the answer that says it, by the value that those numbers stand for
abbrev pub saying_by : {A : Type 0} → (Said → A) → Said → Result A Refusal
saying_by taken s = cond (eqb s.number 0) (Ok (taken s)) (Err (numbered s.number))

-- a row of the table: a refusal's number, and its condition
pub record Bar : Type 0 where
  pub number : ℕ
  pub when : Bool

abbrev pub bar : ℕ → Bool → Bar
bar n c = record { number = n; when = c }

-- the first in order is the one given; 0 where none is
abbrev pub first : List Bar → ℕ
first [] = 0
first (b ∷ bars) = cond b.when b.number (first bars)

-- otherwise the act is accepted
abbrev pub judged : List Bar → List ℕ → Said
judged bars vs = cond (eqb (first bars) 0) (accepts vs) (refuses (first bars))

-- what a refused act leaves as it was, and an accepted one makes new
abbrev pub unless_refused : {A : Type 0} → List Bar → A → A → A
unless_refused bars old new = cond (eqb (first bars) 0) new old
