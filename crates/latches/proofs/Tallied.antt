-- Where no fault latched the tallies stay.
-- Assumes nothing.
use mathlib.Core.Path.{◌≡◌, refl}
use mathlib.Core.Bool.{Bool, true, false, true≢false, ◌||◌}
use Rattle.latches.specs.declared.Latches.{Latches}
use Rattle.latches.specs.declared.Tallies.{Tallies}
use Rattle.latches.specs.Latches.{any_latch}
use Rattle.latches.specs.Tallies.{tally_next, tallies_next}

pub none_of : (a b c d e : Bool) → (a || b || c || d || e) ≡ false → (a ≡ false) × (b ≡ false) × (c ≡ false) × (d ≡ false) × (e ≡ false)
none_of false false false false false h = (refl, refl, refl, refl, refl)
none_of true b c d e h = absurd (true≢false h)
none_of false true c d e h = absurd (true≢false h)
none_of false false true d e h = absurd (true≢false h)
none_of false false false true e h = absurd (true≢false h)
none_of false false false false true h = absurd (true≢false h)

pub none-latched : (up : Latches) (t : Tallies) → any_latch up ≡ false → t ≡ tallies_next up t
unfolding tally_next tallies_next
none-latched up t h =
    let none = none_of up.scd up.ocd up.ov up.uv up.ot h in
    rw (none.0, none.1, none.2, none.3, none.4)
