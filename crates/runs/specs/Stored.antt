-- What a board stores of a run: one number.
-- Assumes nothing.
use Rattle.std.specs.Prelude.{ℕ, ◌+◌, min, Bool, cond, ltb, eqb}
use Rattle.std.proofs.Math.Option.{Option, some, none}

abbrev pub run_cap : ℕ
run_cap = 10000000

-- no run is 0, and a run of t is t + 1, up to the cap
abbrev pub stored : Option ℕ → ℕ
stored none = 0
stored (some t) = min run_cap (t + 1)

-- the stored run after one more sample: a stretch that begins here has a run of 0
unfoldable pub run_next : ℕ → Bool → ℕ → ℕ
run_next run holds elapsed = cond holds (cond (eqb run 0) 1 (min run_cap (run + elapsed))) 0

-- the stored run is longer than the delay, or there is one and the delay is zero
unfoldable pub stood : ℕ → ℕ → Bool
stood delay run = ltb (cond (eqb delay 0) 0 (delay + 1)) run
