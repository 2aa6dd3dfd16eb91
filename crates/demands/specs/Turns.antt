-- Faults that must not latch: no cell stands the delay, the condition never holds, the pack charges, or two cells take turns above the OV level (01, Errors a good mechanic would make; The stack and its readings).
-- Assumes nothing.
use Rattle.std.specs.Prelude.{ℕ, zero, suc, ◌<◌, ◌≡◌, Bool, true, false, cond, not, List, [], ◌∷◌, pos}
use Rattle.std.specs.Int.Signed.{lt_z}
use Rattle.settings.specs.declared.Settings.{Settings}
use Rattle.settings.specs.Faults.{Fault}
use Rattle.board.specs.declared.Readings.{Readings}
use Rattle.demands.specs.Paper.{sampled, framed, History, sample_of, holds, places, stood_delay}

-- none for longer than its delay: after no act has the run of any one of n cells stood it
abbrev pub Under : ℕ → Fault → History → Type 0
Under n f [] = Unit {0}
Under n f (e ∷ h) = ((k : ℕ) → k < places f n → stood_delay f k (e ∷ h) ≡ false) × Under n f h

-- of every accepted sample it is so
abbrev pub EverySample : (Readings → List ℕ → Type 0) → History → Type 0
EverySample So [] = Unit {0}
EverySample So (sampled x mv ∷ h) = So x mv × EverySample So h
EverySample So (framed address register v ∷ h) = EverySample So h

-- the condition fails, whatever settings work
abbrev pub Calm : Fault → History → Type 0
Calm f h = EverySample (λ x mv. (s : Settings) (k : ℕ) → holds f s k (sample_of x mv) ≡ false) h

-- a charge current
abbrev pub Charging : History → Type 0
Charging h = EverySample (λ x mv. lt_z x.shunt (pos 0) ≡ true) h

-- two cells by turns: one reads v, and the other four read low
abbrev pub by_turns : Bool → ℕ → ℕ → List ℕ
by_turns first v low = cond first (v ∷ low ∷ low ∷ low ∷ low ∷ []) (low ∷ v ∷ low ∷ low ∷ low ∷ [])

-- so many samples in which they change at each
abbrev pub alternate : Readings → ℕ → ℕ → ℕ → Bool → History
alternate x v low zero first = []
alternate x v low (suc r) first = sampled x (by_turns first v low) ∷ alternate x v low r (not first)
