-- What the five settings bytes mean (01, Frames and registers, registers 6 to 10): cells in mV, the shunt in µV, delays in µs.
-- Assumes nothing.
use Rattle.std.specs.Prelude.{ℕ, min, ◌+◌, ◌-◌, ◌*◌, ◌/◌, ◌%◌, Bool, cond, not, List, [], ◌∷◌, ltb, get_or}
use Rattle.settings.specs.declared.Settings.{Settings}

-- register 6, b2-b0
abbrev pub ov_level : Settings → ℕ
ov_level s = 4150 + 50 * (s.r6 % 8)

-- the OV hystereses by code; the last is 0, as the register page of 000 has it
abbrev pub ov_hystereses : List ℕ
ov_hystereses = 100 ∷ 200 ∷ 300 ∷ 0 ∷ []

-- register 6, b4-b3
abbrev pub ov_hysteresis : Settings → ℕ
ov_hysteresis s = get_or ov_hystereses (s.r6 / 8 % 4) 0

-- below this all cells let OV go: the level less the hysteresis
abbrev pub ov_release : Settings → ℕ
ov_release s = ov_level s - ov_hysteresis s

-- register 6, b7-b5
abbrev pub ov_delay : Settings → ℕ
ov_delay s = 500000 + 250000 * (s.r6 / 32 % 8)

-- register 7, b3-b0
abbrev pub uv_level : Settings → ℕ
uv_level s = 1400 + 100 * (s.r7 % 16)

-- the UV hystereses by code
abbrev pub uv_hystereses : List ℕ
uv_hystereses = 200 ∷ 400 ∷ 800 ∷ 1200 ∷ []

-- register 7, b5-b4
abbrev pub uv_hysteresis : Settings → ℕ
uv_hysteresis s = get_or uv_hystereses (s.r7 / 16 % 4) 0

-- above this all cells let UV go: the level plus the hysteresis, but never over 3,300 mV
abbrev pub uv_release : Settings → ℕ
uv_release s = min (uv_level s + uv_hysteresis s) 3300

-- the OCD delay by code: one rule below 16, another from there on
abbrev pub ocd_delay_of : ℕ → ℕ
ocd_delay_of code = cond (ltb code 16) (20000 * (code + 1)) (100000 * (code - 15))

-- register 8, b4-b0
abbrev pub ocd_delay : Settings → ℕ
ocd_delay s = ocd_delay_of (s.r8 % 32)

-- register 9, b3-b0
abbrev pub ocd_level : Settings → ℕ
ocd_level s = 10000 + 5000 * (s.r9 % 16)

-- the UV delays by code
abbrev pub uv_delays : List ℕ
uv_delays =
    0 ∷ 1250 ∷ 2500 ∷ 5000 ∷ 10000 ∷ 15000 ∷ 20000 ∷ 30000
    ∷ 1000000 ∷ 2000000 ∷ 3000000 ∷ 4000000 ∷ 5000000 ∷ 6000000 ∷ 7000000 ∷ 8000000
    ∷ []

-- register 9, b7-b4
abbrev pub uv_delay : Settings → ℕ
uv_delay s = get_or uv_delays (s.r9 / 16 % 16) 0

-- register 10, b3-b0
abbrev pub scd_level : Settings → ℕ
scd_level s = 60000 + 5000 * (s.r10 % 16)

-- crossed (02, ticket 1): the SCD level is not above the OCD level; equal levels are crossed
abbrev pub crossed : Settings → Bool
crossed s = not (ltb (ocd_level s) (scd_level s))

-- register 10, b7-b4
abbrev pub scd_delay : Settings → ℕ
scd_delay s = 60 * (s.r10 / 16 % 16)

-- the factory settings: all five bytes zero
abbrev pub factory : Settings
factory = record { r6 = 0; r7 = 0; r8 = 0; r9 = 0; r10 = 0 }
