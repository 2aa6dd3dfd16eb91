-- What a frame does to a board: programming, staging, and a refusal, which says its number and leaves the board.
-- Assumes nothing.
use Prim.Native.Nat.{ℕ, ◌+◌}
use mathlib.Core.Path.{◌≡◌, refl}
use mathlib.Core.Bool.{Bool, true, false, cond, not, ◌&&◌}
use mathlib.Core.List.{List, [], ◌∷◌}
use lib.Dec.{leb, eqb}
use Rattle.refusal.specs.declared.Refusal.{Refusal}
use Rattle.refusal.specs.declared.Refusal.TheVariants.{LevelsCrossed}
use Rattle.refusal.specs.Said.{Bar, bar, accepts, refuses, first, judged, unless_refused}
use Rattle.settings.specs.Bytes.{same}
use Rattle.settings.specs.Levels.{crossed}
use Rattle.board.specs.declared.Board.{Board}
use Rattle.board.specs.Plan.{is_garden}
use Rattle.frame.specs.declared.Request.{Request}
use Rattle.std.specs.Prelude.{Err}
use Rattle.frame.specs.Frame.{writes}
use Rattle.frame.specs.Way.{outcome_said, outcome_saying}
use Rattle.registers.specs.Map.{no_register, fits, read_value}
use Rattle.registers.specs.Registers.{shown_of, programs, staging, spent, lacks_cycle, access_bars, board_after, reply_value, obeyed_of}
use Rattle.registers.specs.Way.{gives, denies}

-- a write to register 11 of the value that programs, on a board that has settings
module _ (b : Board) (settled : is_garden b.kind ≡ false) (address : ℕ) (write : writes address ≡ true) where
  abbrev programming : Request
  programming = record { address = address; register = 11; value = 0x41 }

  -- crossed levels are refused, whatever the cycles, and the board stays
  pub crossed-refused : crossed b.staged ≡ true → obeyed_of b programming ≡ record { board = b; outcome = denies LevelsCrossed }
  unfolding obeyed_of board_after
  crossed-refused cross = rw (write, settled, cross)

  -- with equal settings it gives the very board back and is accepted, whatever the cycles
  pub equal-programming : crossed b.staged ≡ false → same b.staged b.working ≡ true → obeyed_of b programming ≡ record { board = b; outcome = gives b.cycles }
  unfolding obeyed_of board_after
  equal-programming fine equal = rw (write, settled, fine, equal)

  -- with unlike settings and a free cycle it spends one
  pub spending : crossed b.staged ≡ false → same b.staged b.working ≡ false → leb 3 b.cycles ≡ false → obeyed_of b programming ≡ record { board = spent b; outcome = gives (b.cycles + 1) }
  unfolding obeyed_of board_after spent
  spending fine unlike free = rw (write, settled, fine, unlike, free)

-- a spent cycle counts one, and what was staged works
pub spent-counts : (b : Board) → (spent b).cycles ≡ b.cycles + 1
unfolding spent
spent-counts b = refl

pub spent-works : (b : Board) → (spent b).working ≡ b.staged
unfolding spent
spent-works b = refl

-- a staged byte changes no read
pub staging-unread : (b : Board) (register v k : ℕ) → read_value (shown_of (staging b register v)) k ≡ read_value (shown_of b) k
staging-unread b register v k = refl

-- where the outcome is a refusal, what was there is kept
refused-kept : {A : Type 0} (bars : List Bar) (vs : List ℕ) (old new : A) (why : Refusal) → outcome_saying (judged bars vs) ≡ Err why → unless_refused bars old new ≡ old
refused-kept bars vs old new why = by (eqb (first bars) 0)
  where
    by : (t : Bool) → outcome_saying (cond t (accepts vs) (refuses (first bars))) ≡ Err why → cond t new old ≡ old
    by true e = cc
    by false e = refl

pub refused-leaves : (b : Board) (asked : Request) (why : Refusal) → (obeyed_of b asked).outcome ≡ Err why → (obeyed_of b asked).board ≡ b
unfolding obeyed_of
refused-leaves b asked why e = refused-kept (access_bars b (writes asked.address) asked.register asked.value) _ b _ why e

-- whatever the conditions of 9, 10, 13 and 11 come to, the outcome says the number or the value
said : (x y c z : Bool) (v : ℕ) → let s = judged (bar 9 x ∷ bar 10 y ∷ bar 13 c ∷ bar 11 z ∷ []) (v ∷ []) in outcome_said (outcome_saying s) ≡ s
said true y c z v = refl
said false true c z v = refl
said false false true z v = refl
said false false false true v = refl
said false false false false v = refl

pub obeyed-said : (b : Board) (asked : Request)
    → let write = writes asked.address in outcome_said (obeyed_of b asked).outcome ≡ judged (access_bars b write asked.register asked.value) (reply_value (board_after b write asked.register asked.value) write asked.register asked.value ∷ [])
unfolding obeyed_of
obeyed-said b asked =
    let write = writes asked.address in
    said (no_register b.kind write asked.register) (not (fits write asked.register asked.value)) (programs write asked.register && crossed b.staged) (programs write asked.register && lacks_cycle b) _
