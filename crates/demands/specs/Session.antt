-- The paper's session as acts, and what it prints (01, The bench program).
-- Assumes nothing.
use Rattle.std.specs.Prelude.{ℕ, List, [], ◌∷◌, ℤ, pos, replicate}
use Rattle.demands.specs.Acts.{Act, sample, frame, reading}

abbrev sampled : ℕ → ℕ → ℤ → Act
sampled elapsed load shunt =
    sample 1 (record { elapsed = elapsed; shunt = shunt; thermistor = 2000; load = load }) (4000 ∷ 4000 ∷ 4000 ∷ 4000 ∷ 4000 ∷ [])

-- a stand-alone board of five cells
abbrev pub plans : List ℕ
plans = 5 ∷ []

abbrev pub session : List Act
session =
    sampled 1000 0 (pos 0)
    ∷ frame (2 ∷ 0 ∷ 0 ∷ 214 ∷ []) (replicate 4 0)
    ∷ sampled 1000 1 (pos 60001)
    ∷ reading
    ∷ sampled 20000 0 (pos 0)
    ∷ []

abbrev pub printed : List (List ℕ)
printed = (192 ∷ 0 ∷ []) ∷ (2 ∷ 0 ∷ 192 ∷ 152 ∷ []) ∷ (1 ∷ 0 ∷ []) ∷ (1 ∷ 0 ∷ 0 ∷ 0 ∷ 0 ∷ []) ∷ (192 ∷ 0 ∷ []) ∷ []
