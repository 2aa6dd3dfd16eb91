-- The device table of the garden packs (02, ticket 5).
-- Assumes nothing.
use Rattle.std.specs.Prelude.{ℕ, ◌+◌, ◌-◌, Bool, true, false, List, [], ◌∷◌, get_or}
use Rattle.garden.specs.declared.Device.{Device}

-- a row: OV level and hysteresis, UV level and hysteresis in mV, load removal
abbrev pub device : ℕ → ℕ → ℕ → ℕ → Bool → Device
device ov ovH uv uvH load = record { ov = ov; ov_hysteresis = ovH; uv = uv; uv_hysteresis = uvH; load_removal = load }

-- BQ7791500, 01 and 04
abbrev pub devices : List Device
devices =
    device 4200 200 2900 400 true
    ∷ device 4250 200 2800 400 true
    ∷ device 4275 100 2000 200 false
    ∷ []

-- the row of a number; no good plan has another
unfoldable pub device_of : ℕ → Device
device_of row = get_or devices row (device 4200 200 2900 400 true)

-- OV lets go below its level less the hysteresis, UV above its level and the hysteresis
abbrev pub ov_inner : Device → ℕ
ov_inner d = d.ov - d.ov_hysteresis

abbrev pub uv_inner : Device → ℕ
uv_inner d = d.uv + d.uv_hysteresis
