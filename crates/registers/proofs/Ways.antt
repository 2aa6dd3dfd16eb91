-- The ways of a frame come to what the paper's table gives.
-- Assumes nothing.
use Prim.Native.Nat.{ℕ}
use mathlib.Core.Path.{◌≡◌, ◌∙◌, refl, ap, sym}
use mathlib.Core.Bool.{Bool, true, false, true≢false, not}
use lib.Dec.{leb, eqb, T as Holds}
use borrow.Author.Tests.{leb-false, lt-ltb, eqb-true}
use Rattle.std.proofs.Common.{Ok, Err}
use Rattle.lists.proofs.Split.{is_true, is_false}
use Rattle.settings.specs.Bytes.{same}
use Rattle.settings.specs.Levels.{crossed}
use Rattle.board.specs.declared.Board.{Board}
use Rattle.board.specs.Plan.{is_host}
use Rattle.refusal.specs.declared.Refusal.{Refusal}
use Rattle.frame.specs.declared.Request.{Request}
use Rattle.frame.specs.Frame.{writes}
use Rattle.registers.specs.Map.{no_register, fits}
use Rattle.registers.specs.Registers.{Obeyed, spent, board_after, obeyed_of}
use Rattle.registers.specs.Way.{denies, allowed, asks_programming, asks_steering, asks_staging, steered_by, staged_by, spent_by, leaves, programmed_by, read_by, carried_out, way_of, ways_of}

module _ (b : Board) (address register v : ℕ) where
  abbrev asks : Request
  asks = record { address = address; register = register; value = v }

  -- by what each condition of the table comes to
  parts-ways : obeyed_of b asks ≡ ways_of b asks
  unfolding obeyed_of board_after steered_by staged_by spent_by spent programmed_by carried_out
  parts-ways = by (writes address) (no_register b.kind (writes address) register) (fits (writes address) register v) (eqb register 11) (eqb register 1) (is_host b.kind) (crossed b.staged) (same b.staged b.working) (leb 3 b.cycles) refl refl refl refl refl refl refl refl refl
    where
      by : (w x y p q k c s f : Bool) → writes address ≡ w → no_register b.kind (writes address) register ≡ x → fits (writes address) register v ≡ y → eqb register 11 ≡ p → eqb register 1 ≡ q → is_host b.kind ≡ k → crossed b.staged ≡ c → same b.staged b.working ≡ s → leb 3 b.cycles ≡ f
          → obeyed_of b asks ≡ ways_of b asks
      by w true y p q k c s f ew ex ey ep eq ek ec es ef = rw ex
      by w false false p q k c s f ew ex ey ep eq ek ec es ef = rw (ex, ey)
      by false false true p q k c s f ew ex ey ep eq ek ec es ef = rw (ex, ey, ew)
      by true false true false true true c s f ew ex ey ep eq ek ec es ef = rw (ex, ey, ew, ep, eq, ek)
      by true false true false true false c s f ew ex ey ep eq ek ec es ef = absurd (true≢false (rw (ew, eqb-true register 1 eq, ek) at ex))
      by true false true false false true c s f ew ex ey ep eq ek ec es ef = rw (ex, ey, ew, ep, eq, ek)
      by true false true false false false c s f ew ex ey ep eq ek ec es ef = rw (ex, ey, ew, ep, eq, ek)
      by true false true true q k true s f ew ex ey ep eq ek ec es ef = rw (ex, ey, ew, ep, ec)
      by true false true true q k false true f ew ex ey ep eq ek ec es ef = rw (ex, ey, ew, ep, ec, es)
      by true false true true q k false false true ew ex ey ep eq ek ec es ef = rw (ex, ey, ew, ep, ec, es, ef)
      by true false true true q k false false false ew ex ey ep eq ek ec es ef = rw (ex, ey, ew, ep, ec, es, ef, lt-ltb b.cycles 3 (leb-false 3 b.cycles ef))

pub ways-are : (b : Board) (asked : Request) → obeyed_of b asked ≡ ways_of b asked
ways-are b asked = parts-ways b asked.address asked.register asked.value

-- that one access says of outcome and board what the other does
abbrev Says : Obeyed → Obeyed → Type 0
Says o p = (o.outcome ≡ p.outcome) × (o.board ≡ p.board)

said : (o p : Obeyed) → p ≡ o → Says o p
said o p e = (sym (ap (λ (z : Obeyed). z.outcome) e), sym (ap (λ (z : Obeyed). z.board) e))

module _ (b : Board) (asked : Request) where
  pub way-refused : (why : Refusal) → allowed b asked ≡ Err why → Says (leaves b (denies why)) (obeyed_of b asked)
  way-refused why e = said _ _ (ways-are b asked ∙ ap (way_of b asked) e)

  pub way-through : (done : Unit {0}) → allowed b asked ≡ Ok done → Says (carried_out b asked) (obeyed_of b asked)
  way-through done e = said _ _ (ways-are b asked ∙ ap (way_of b asked) e)

  -- what is asked, in the table's order: a write to register 11 programs, one to register 1 steers, any other stages, and a read leaves the board
  pub way-programs : Holds (asks_programming asked) → Says (programmed_by b) (carried_out b asked)
  unfolding carried_out
  way-programs p = said _ _ (rw (is_true (asks_programming asked) p))

  pub way-steers : Holds (not (asks_programming asked)) → Holds (asks_steering asked) → Says (steered_by b asked.value) (carried_out b asked)
  unfolding carried_out
  way-steers p q = said _ _ (rw (is_false (asks_programming asked) p, is_true (asks_steering asked) q))

  pub way-stages : Holds (not (asks_programming asked)) → Holds (not (asks_steering asked)) → Holds (asks_staging asked) → Says (staged_by b asked.register asked.value) (carried_out b asked)
  unfolding carried_out
  way-stages p q w = said _ _ (rw (is_false (asks_programming asked) p, is_false (asks_steering asked) q, is_true (asks_staging asked) w))

  pub way-reads : Holds (not (asks_programming asked)) → Holds (not (asks_steering asked)) → Holds (not (asks_staging asked)) → Says (leaves b (read_by b asked)) (carried_out b asked)
  unfolding carried_out
  way-reads p q w = said _ _ (rw (is_false (asks_programming asked) p, is_false (asks_steering asked) q, is_false (asks_staging asked) w))
