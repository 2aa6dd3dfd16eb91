-- A refusal is the one of its number, and none has number 0; the number of an answer by a table.
-- Assumes nothing.
use native.Mathlib.Omega.{arith}
use Prim.Native.Nat.{ℕ}
use mathlib.Core.Path.{◌≡◌, refl, sym, ap}
use mathlib.Core.Bool.{Bool, true, false, true≢false, cond, ◌&&◌}
use mathlib.Core.List.{List, [], ◌∷◌}
use Rattle.std.specs.Prelude.{Result, Ok, Err}
use lib.Dec.{T, eqb, eqb→eq}
use borrow.Author.Tests.{eqb-true}
use Rattle.lists.proofs.Split.{split}
use Rattle.refusal.specs.declared.Refusal.{Refusal}
use Rattle.refusal.specs.declared.Refusal.TheVariants.{BadRow, NoBoard, CellList, Elapsed, OutOfRange, FrameLength, ReplyRoom, CheckByte, NoRegister, BadValue, NoCycle, Malformed, LevelsCrossed, ListRoom}
use Rattle.refusal.specs.Refusals.{number_of, numbered, in_table}
use Rattle.refusal.specs.Said.{Said, accepts, said_by, saying_by, Bar, first, judged}

pub numbered-number : (r : Refusal) → numbered (number_of r) ≡ r
numbered-number BadRow = refl
numbered-number NoBoard = refl
numbered-number CellList = refl
numbered-number Elapsed = refl
numbered-number OutOfRange = refl
numbered-number FrameLength = refl
numbered-number ReplyRoom = refl
numbered-number CheckByte = refl
numbered-number NoRegister = refl
numbered-number BadValue = refl
numbered-number NoCycle = refl
numbered-number Malformed = refl
numbered-number LevelsCrossed = refl
numbered-number ListRoom = refl

-- number 0 would be that of BadRow, which is 1
pub number-not-zero : (r : Refusal) → eqb (number_of r) 0 ≡ false
number-not-zero r = by (eqb (number_of r) 0) refl
  where
    by : (t : Bool) → eqb (number_of r) 0 ≡ t → t ≡ false
    by false e = refl
    by true e = let none = eqb-true (number_of r) 0 e in let one = ap number_of (rw none at (numbered-number r)) in absurd (omega arith)

-- an answer that goes by the number of a refusal is the one that holds it
pub said-refused : {A : Type 0} (r : Refusal) (accepted : A) (refused : Refusal → A) → cond (eqb (number_of r) 0) accepted (refused (numbered (number_of r))) ≡ refused r
said-refused r accepted refused = rw (number-not-zero r, numbered-number r)

-- an answer is determined by what it says, where its value is by the numbers that stand for it
pub said-back : {A : Type 0} (put : A → List ℕ) (taken : Said → A) → ((a : A) → taken (accepts (put a)) ≡ a) → (r : Result A Refusal) → saying_by taken (said_by put r) ≡ r
said-back put taken back (Ok a) = ap Ok (back a)
said-back put taken back (Err why) = said-refused why (Ok (taken (said_by put (Err why)))) Err

-- bars whose numbers are all of the table: the first that holds has a refusal of its number
abbrev pub all_in_table : List Bar → Bool
all_in_table [] = true
all_in_table (b ∷ bars) = in_table b.number && all_in_table bars

left : (a b : Bool) → T (a && b) → T a
left true b t = tt
left false b t = t

right : (a b : Bool) → T (a && b) → T b
right true b t = t
right false b t = absurd t

pub number-back : (bars : List Bar) → T (all_in_table bars) → eqb (first bars) 0 ≡ false → number_of (numbered (first bars)) ≡ first bars
number-back [] t e = absurd (true≢false e)
number-back (b ∷ bars) t e =
    split b.when
    (λ h. rw h (eqb→eq (number_of (numbered b.number)) b.number (left (in_table b.number) (all_in_table bars) t)))
    (λ h. rw h (number-back bars (right (in_table b.number) (all_in_table bars) t) (rw h at e)))

-- the number of an answer by a table is that of the first bar that holds, and 0 where none does
pub judged-number : (bars : List Bar) (vs : List ℕ) → (judged bars vs).number ≡ first bars
judged-number bars vs = split (eqb (first bars) 0) (λ e. rw e (sym (eqb-true (first bars) 0 e))) (λ e. rw e)
