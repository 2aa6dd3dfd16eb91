-- The run of a condition, from the accepted samples alone, newest first, with no state (01, When a fault latches and lets go; 02, ticket 6).
-- Assumes nothing.
use Rattle.std.specs.Prelude.{ℕ, ◌+◌, Bool, false, cond, ◌||◌, eqb}
use mathlib.Core.List.{List, [], ◌∷◌, drop_last}
use Rattle.std.proofs.Math.Option.{Option, some, none}
use Rattle.lists.specs.Compare.{◌above◌}

-- the unbroken stretch of samples on which the condition holds, ending at the newest
abbrev pub stretch : {X : Type 0} → (X → Bool) → List X → List X
stretch holds [] = []
stretch holds (x ∷ older) = cond (holds x) (x ∷ stretch holds older) []

-- elapsed times added up
abbrev pub total : {X : Type 0} → (X → ℕ) → List X → ℕ
total elapsed [] = 0
total elapsed (x ∷ older) = elapsed x + total elapsed older

-- of a stretch: the elapsed times of all but its first sample, which is the last of the list; an empty stretch has no run
abbrev pub lasting : {X : Type 0} → (X → ℕ) → List X → Option ℕ
lasting elapsed [] = none
lasting elapsed (x ∷ older) = some (total elapsed (drop_last (x ∷ older)))

-- the run at the newest sample: none if the condition fails there
abbrev pub run : {X : Type 0} → (X → ℕ) → (X → Bool) → List X → Option ℕ
run elapsed holds samples = lasting elapsed (stretch holds samples)

-- the condition has stood its delay when its run is longer than the delay; a zero delay acts on the first sample (02, ticket 6)
abbrev pub past : ℕ → Option ℕ → Bool
past delay none = false
past delay (some t) = eqb delay 0 || t above delay
