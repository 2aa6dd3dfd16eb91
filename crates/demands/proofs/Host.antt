-- When a host board's latches go and its register 1 changes; and a stand-alone board is as document 01 has it.
-- Assumes nothing.
use Prim.Native.Nat.{ℕ}
use mathlib.Core.Path.{◌≡◌, refl, sym, ap, ◌∙◌}
use mathlib.Core.Logic.{◌↔◌}
use mathlib.Core.Bool.{Bool, true, false, true≢false, cond, not, ◌&&◌, ◌||◌}
use mathlib.Core.List.{List, ◌∷◌}
use borrow.Author.Tests.{eqb-true}
use Rattle.lists.proofs.Split.{both}
use Rattle.settings.specs.Faults.{Fault, SCD, OCD, OV, UV, OT}
use Rattle.latches.specs.Latches.{latch_next}
use Rattle.latches.specs.Control.{clear_bit, dsg_bit, chg_bit}
use Rattle.board.specs.declared.Readings.{Readings}
use Rattle.board.specs.declared.Plan.{Plan}
use Rattle.board.specs.Plan.{is_garden}
use Rattle.board.specs.Host.{holds_on}
use Rattle.demands.specs.Paper.{Entry, sampled, framed, History, working, sample_of, stands, lets_go, clear_set, takes_down, last_sample, over_by, clears, latched, rises, dsg_set, chg_set}
use Rattle.demands.specs.Host.{Hosted, Written, alone, AsBefore}

-- a bit that is kept unless something forbids it
kept : (b c : Bool) → (b && not c) ≡ true → b ≡ true
kept b c e = (both b (not c) e).0

stays : (b c : Bool) → c ≡ false → (b && not c) ≡ b
stays true c e = ap not e
stays false c e = refl

goes-off : (b c : Bool) → c ≡ true → (b && not c) ≡ false
goes-off true c e = ap not e
goes-off false c e = refl

-- no frame makes a fault rise
none-rises : (p : Plan) (f : Fault) (address register v : ℕ) (h : History) → rises p f (framed address register v) h ≡ false
none-rises p f address register v h = by (clears p f (framed address register v) h) (latched p f h)
  where
    by : (c was : Bool) → ((not c && was) && not was) ≡ false
    by true was = refl
    by false true = refl
    by false false = refl

-- a latch that is held goes exactly at what clears it
cleared : (down over was : Bool) → was ≡ true → ((not (down && over) && was) ≡ false) ↔ ((down ≡ true) × (over ≡ true))
cleared true true was on = (λ e. (refl, refl), λ so. refl)
cleared true false was on = (λ e. absurd (true≢false (sym on ∙ e)), λ (d, o). absurd (true≢false (sym o)))
cleared false over was on = (λ e. absurd (true≢false (sym on ∙ e)), λ (d, o). absurd (true≢false (sym d)))

-- only a host board's latch is held, and it is no garden board
no-garden : (f : Fault) (kind : ℕ) → holds_on kind f ≡ true → is_garden kind ≡ false
no-garden SCD kind e = rw (eqb-true kind 1 e)
no-garden OCD kind e = rw (eqb-true kind 1 e)
no-garden OV kind e = rw (eqb-true kind 1 e)
no-garden UV kind e = rw (eqb-true kind 1 e)
no-garden OT kind e = absurd (true≢false (sym e))

held : (p : Plan) (f : Fault) (x : Readings) (mv : List ℕ) (h : History) → holds_on p.kind f ≡ true → latched p f h ≡ true → latched p f (sampled x mv ∷ h) ≡ true
held p f x mv h holds on = rw (on, holds, no-garden f p.kind holds)

pub hosted : (p : Plan) (e : Entry) (h : History) → Hosted p e h
hosted p (sampled x mv) h =
    record {
      goes = λ f holds on. (λ off. absurd (true≢false (sym (held p f x mv h holds on) ∙ off)), λ (down, over). absurd (true≢false (sym down)));
      clear_stays = λ n. refl;
      dsg-set = λ n e. kept (dsg_set p h) (forbids UV) e;
      chg-set = λ n e. kept (chg_set p h) (forbids OV) e;
      dsg-stays = λ n none. stays (dsg_set p h) (forbids UV) none;
      chg-stays = λ n none. stays (chg_set p h) (forbids OV) none;
      dsg-cleared = λ n some. goes-off (dsg_set p h) (forbids UV) some;
      chg-cleared = λ n some. goes-off (chg_set p h) (forbids OV) some;
    }
  where
    forbids : Fault → Bool
    forbids f = rises p f (sampled x mv) h || rises p OCD (sampled x mv) h || rises p SCD (sampled x mv) h || rises p OT (sampled x mv) h
hosted p (framed address register v) h =
    record {
      goes = λ f holds on. cleared (takes_down p (framed address register v) h) (over_by f (working h) (last_sample h)) (latched p f h) on;
      clear_stays = λ n. ap (λ (t : Bool). cond t (clear_bit v) (clear_set p h)) n;
      dsg-set = λ n e. sym (ap (λ (t : Bool). cond t (dsg_bit v) (dsg_set p h)) n) ∙ e;
      chg-set = λ n e. sym (ap (λ (t : Bool). cond t (chg_bit v) (chg_set p h)) n) ∙ e;
      dsg-stays = λ n none. ap (λ (t : Bool). cond t (dsg_bit v) (dsg_set p h)) n;
      chg-stays = λ n none. ap (λ (t : Bool). cond t (chg_bit v) (chg_set p h)) n;
      dsg-cleared = λ n some. absurd (true≢false (sym some ∙ quiet UV));
      chg-cleared = λ n some. absurd (true≢false (sym some ∙ quiet OV));
    }
  where
    quiet : (f : Fault) → (rises p f (framed address register v) h || rises p OCD (framed address register v) h || rises p SCD (framed address register v) h || rises p OT (framed address register v) h) ≡ false
    quiet f = rw (none-rises p f address register v h, none-rises p OCD address register v h, none-rises p SCD address register v h, none-rises p OT address register v h)

pub written : (p : Plan) (address register v : ℕ) (h : History) → Written p address register v h
written p address register v h =
    record {
      clear = λ s. ap (λ (t : Bool). cond t (clear_bit v) (clear_set p h)) s;
      dsg = λ s. ap (λ (t : Bool). cond t (dsg_bit v) (dsg_set p h)) s;
      chg = λ s. ap (λ (t : Bool). cond t (chg_bit v) (chg_set p h)) s;
    }

pub as_before : (n : ℕ) (h : History) → AsBefore n h
as_before n h = record { samples = once; frames = λ f address register v. refl; dsg = refl; chg = refl }
  where
    once : (f : Fault) (x : Readings) (mv : List ℕ)
        → latched (alone n) f (sampled x mv ∷ h) ≡ latch_next (latched (alone n) f h) (stands n f (sampled x mv ∷ h)) (lets_go n f (working h) (sample_of x mv))
    once SCD x mv = refl
    once OCD x mv = refl
    once OV x mv = refl
    once UV x mv = refl
    once OT x mv = refl
