-- What a host board has over a stand-alone one, act by act: when its latches go and its register 1 changes; and that a stand-alone board is as document 01 has it (02, ticket 3).
-- Assumes nothing.
use Rattle.std.specs.Prelude.{ℕ, ◌≡◌, ◌↔◌, true, false, ◌||◌, List, ◌∷◌}
use Rattle.settings.specs.Faults.{Fault, SCD, OCD, OV, UV, OT}
use Rattle.latches.specs.Latches.{latch_next}
use Rattle.latches.specs.Control.{clear_bit, dsg_bit, chg_bit}
use Rattle.board.specs.declared.Readings.{Readings}
use Rattle.board.specs.declared.Plan.{Plan}
use Rattle.board.specs.Host.{holds_on}
use Rattle.demands.specs.Paper.{Entry, sampled, framed, History, working, sample_of, stands, lets_go, steers, clear_set, takes_down, last_sample, over_by, latched, rises, dsg_set, chg_set, may_dsg, may_chg}

-- of a board by its plan, one more act and those before it; the four faults that hold on are OV, UV, OCD and SCD of a host board
pub record Hosted (p : Plan) (e : Entry) (h : History) : Type 0 where
  -- such a latch goes only at a write that takes b0 of register 1 from 1 to 0, and then exactly if its condition is over on the last accepted sample by the
  -- levels that work
  pub goes : (f : Fault) → holds_on p.kind f ≡ true → latched p f h ≡ true
      → (latched p f (e ∷ h) ≡ false) ↔ ((takes_down p e h ≡ true) × (over_by f (working h) (last_sample h) ≡ true))
  -- nothing but a write to register 1 changes b0
  pub clear_stays : steers p e ≡ false → clear_set p (e ∷ h) ≡ clear_set p h
  -- nothing but such a write sets b1 or b2
  pub dsg-set : steers p e ≡ false → dsg_set p (e ∷ h) ≡ true → dsg_set p h ≡ true
  pub chg-set : steers p e ≡ false → chg_set p (e ∷ h) ≡ true → chg_set p h ≡ true
  -- and where there is no such write, one is cleared exactly if a fault latches that forbids its switch, overtemperature too
  pub dsg-stays : steers p e ≡ false → (rises p UV e h || rises p OCD e h || rises p SCD e h || rises p OT e h) ≡ false → dsg_set p (e ∷ h) ≡ dsg_set p h
  pub dsg-cleared : steers p e ≡ false → (rises p UV e h || rises p OCD e h || rises p SCD e h || rises p OT e h) ≡ true → dsg_set p (e ∷ h) ≡ false
  pub chg-cleared : steers p e ≡ false → (rises p OV e h || rises p OCD e h || rises p SCD e h || rises p OT e h) ≡ true → chg_set p (e ∷ h) ≡ false
  pub chg-stays : steers p e ≡ false → (rises p OV e h || rises p OCD e h || rises p SCD e h || rises p OT e h) ≡ false → chg_set p (e ∷ h) ≡ chg_set p h

-- a write to register 1 stores its three bits, whatever is latched
pub record Written (p : Plan) (address register v : ℕ) (h : History) : Type 0 where
  pub clear : steers p (framed address register v) ≡ true → clear_set p (framed address register v ∷ h) ≡ clear_bit v
  pub dsg : steers p (framed address register v) ≡ true → dsg_set p (framed address register v ∷ h) ≡ dsg_bit v
  pub chg : steers p (framed address register v) ≡ true → chg_set p (framed address register v ∷ h) ≡ chg_bit v

-- a stand-alone board of n cells
abbrev pub alone : ℕ → Plan
alone n = record { kind = 0; cells = n; row = 0; trigger = 0 }

pub record AsBefore (n : ℕ) (h : History) : Type 0 where
  -- a latch lets go at a sample by the table's last column alone, and every frame leaves it
  pub samples : (f : Fault) (x : Readings) (mv : List ℕ)
      → latched (alone n) f (sampled x mv ∷ h) ≡ latch_next (latched (alone n) f h) (stands n f (sampled x mv ∷ h)) (lets_go n f (working h) (sample_of x mv))
  pub frames : (f : Fault) (address register v : ℕ) → latched (alone n) f (framed address register v ∷ h) ≡ latched (alone n) f h
  -- the switches wait for no bit
  pub dsg : may_dsg (alone n) h ≡ true
  pub chg : may_chg (alone n) h ≡ true
