-- The five faults, and the delay of each (01, When a fault latches and lets go).
-- Assumes nothing.
use Rattle.std.specs.Prelude.{ℕ}
use Rattle.settings.specs.declared.Settings.{Settings}
use Rattle.settings.specs.Levels.{ov_delay, uv_delay, ocd_delay, scd_delay}

-- b0 to b4 of register 0
pub data Fault : Type 0 where
  SCD : Fault
  OCD : Fault
  OV : Fault
  UV : Fault
  OT : Fault

-- the delay that a fault's condition has to stand; overtemperature has none
abbrev pub delay : Fault → Settings → ℕ
delay SCD s = scd_delay s
delay OCD s = ocd_delay s
delay OV s = ov_delay s
delay UV s = uv_delay s
delay OT s = 0
