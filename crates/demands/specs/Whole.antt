-- The whole-stack reading a second time, straight from the latches, flags and bits of each board's history: no summary, no number and no search (01, Whole-stack reading; When a fault latches and lets go; 02, ticket 3).
-- Assumes nothing.
use Rattle.std.specs.Prelude.{ℕ, ◌-◌, ◌<◌, ◌≤◌, ◌≡◌, ◌⊎◌, ◌↔◌, Bool, true, List, length, get_or}
use Rattle.refusal.specs.Said.{accepts}
use Rattle.settings.specs.Faults.{Fault, SCD, OCD, OV, UV, OT}
use Rattle.demands.specs.Paper.{latched, dsg_set, chg_set, flagged}
use Rattle.demands.specs.Acts.{Act, reading, outcome, next, opened_row, final}
use Rattle.demands.specs.Demands.{Log, begun, taken, reading_says}
use Rattle.demands.specs.Refused.{NoStack, plans_by, log_of}

-- a fault is latched on board b, and cell c of it is flagged, both numbered from 1; a board that is not there has neither
abbrev pub Latched : List Log → ℕ → Fault → Type 0
Latched logs b f = let l = log_of logs b in latched l.plan f l.acts ≡ true

abbrev pub Flagged : List Log → ℕ → ℕ → Type 0
Flagged logs b c = let l = log_of logs b in (1 ≤ c) × (c ≤ l.plan.cells) × (flagged l.plan (c - 1) l.acts ≡ true)

-- the line of board b is up: it has a latch, or a board north of it
abbrev pub LineUp : List Log → ℕ → Type 0
LineUp logs b = (a : ℕ) × (b ≤ a) × (f : Fault) × Latched logs a f

-- a switch may be on: on a host board its bit of register 1 is set
abbrev pub May : Log → Bool → Type 0
May l bit = l.plan.kind ≡ 1 → bit ≡ true

abbrev pub MayChg : List Log → ℕ → Type 0
MayChg logs b = let l = log_of logs b in May l (chg_set l.plan l.acts)

abbrev pub MayDsg : List Log → ℕ → Type 0
MayDsg logs b = let l = log_of logs b in May l (dsg_set l.plan l.acts)

-- the switches are on at every board: each may be, CHG without OV, OCD, SCD and overtemperature, DSG without UV in place of OV
abbrev pub PackChg : List Log → Type 0
PackChg logs = (b : ℕ) → MayChg logs b × (¬ Latched logs b OV) × (¬ Latched logs b OCD) × (¬ Latched logs b SCD) × (¬ Latched logs b OT)

abbrev pub PackDsg : List Log → Type 0
PackDsg logs = (b : ℕ) → MayDsg logs b × (¬ Latched logs b UV) × (¬ Latched logs b OCD) × (¬ Latched logs b SCD) × (¬ Latched logs b OT)

-- cell c of board b is flagged, no lower cell of b is, and no cell of a board further south
abbrev pub Southernmost : List Log → ℕ → ℕ → Type 0
Southernmost logs b c = Flagged logs b c × ((d : ℕ) → d < c → ¬ Flagged logs b d) × ((a d : ℕ) → a < b → ¬ Flagged logs a d)

abbrev pub NoneFlagged : List Log → Type 0
NoneFlagged logs = (b c : ℕ) → ¬ Flagged logs b c

-- ---- the five values of a reading

abbrev pub OneIf : Type 0 → ℕ → Type 0
OneIf P v = (P × (v ≡ 1)) ⊎ ((¬ P) × (v ≡ 0))

pub record Reading (logs : List Log) (says : List ℕ) : Type 0 where
  pub five : length says ≡ 5
  pub line : OneIf (LineUp logs 1) (get_or says 0 0)
  pub chg : OneIf (PackChg logs) (get_or says 1 0)
  pub dsg : OneIf (PackDsg logs) (get_or says 2 0)
  -- the place is that of the southernmost flagged cell, and 0 and 0 exactly if there is none
  pub somewhere : (b c : ℕ) → 0 < b → ((get_or says 3 0 ≡ b) × (get_or says 4 0 ≡ c)) ↔ Southernmost logs b c
  pub nowhere : ((get_or says 3 0 ≡ 0) × (get_or says 4 0 ≡ 0)) ↔ NoneFlagged logs

-- what is told of any logs; and what the library answers after any opening that is a stack, and any acts
pub record ReadByPaper : Type 0 where
  pub told : (logs : List Log) → Reading logs (reading_says logs)
  pub answered : (plans : List ℕ) → ¬ NoStack (plans_by plans) → (acts : List Act) → (says : List ℕ)
      × ((outcome (final next (opened_row plans) acts) reading).said ≡ accepts says)
      × Reading (final taken (begun plans) acts) says
