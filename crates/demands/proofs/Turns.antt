-- No timer is pooled: a fault that no one cell has stood is not latched. So neither is one whose condition never holds, nor OV where two cells take turns.
-- Assumes nothing.
use Prim.Native.Nat.{ℕ, zero, suc, ◌≤◌}
use native.Mathlib.Omega.{arith}
use mathlib.Core.Path.{◌≡◌, refl, sym, ap, ◌∙◌}
use mathlib.Core.Logic.{◌⊎◌, inl, inr}
use mathlib.Core.Bool.{Bool, true, false, cond, not, and-false}
use mathlib.Core.List.{List, [], ◌∷◌}
use mathlib.Core.Option.{none}
use lib.Dec.{ltb}
use borrow.Author.Tests.{le-ltb, ne_eqb}
use Rattle.settings.specs.declared.Settings.{Settings}
use Rattle.lists.proofs.Split.{split}
use Rattle.settings.specs.Levels.{ov_level, ocd_level, scd_level}
use Rattle.settings.specs.Faults.{Fault, SCD, OCD, OV, delay}
use Rattle.runs.specs.Run.{run, stretch, lasting, past}
use Rattle.lists.specs.Each.{each, some}
use Rattle.cells.specs.Cells.{reading_at}
use Rattle.board.specs.declared.Readings.{Readings}
use Rattle.board.specs.declared.Plan.{Plan}
use Rattle.board.specs.Plan.{is_garden}
use Rattle.board.proofs.Signed.{above-none}
use Rattle.demands.specs.Paper.{sampled, framed, History, working, spends, Sample, sample_of, since, holds, stood_delay, places, clears, latched}
use Rattle.demands.specs.Marked.{more, one}
use Rattle.demands.specs.Turns.{Under, EverySample, Calm, Charging, by_turns, alternate}
use Rattle.demands.proofs.Lists.{each_same}
use Rattle.demands.proofs.Filtered.{garden-latched}

none_of : (i n : ℕ) → some (each i n (λ k. false)) ≡ false
unfolding each
none_of i zero = refl
none_of i (suc n) = none_of (suc i) n

pub never-latched : (p : Plan) → is_garden p.kind ≡ false → (f : Fault) (h : History) → Under p.cells f h → latched p f h ≡ false
never-latched p g f [] u = rw g
never-latched p g f (sampled x mv ∷ h) u =
    let n = p.cells in
    rw (g, never-latched p g f h u.1) (ap some (each_same (places f n) (λ k. stood_delay f k (sampled x mv ∷ h)) (λ k. false) u.0) ∙ none_of 0 (places f n))
never-latched p g f (framed address register v ∷ h) u = rw (never-latched p g f h u.1) (and-false (not (clears p f (framed address register v) h)))

-- ---- a condition that never holds has no run, so its fault is not latched

calm_run : (f : Fault) (k : ℕ) (s : Settings) (h : History) → Calm f h → run (λ x. x.readings.elapsed) (holds f s k) (since h) ≡ none
calm_run f k s [] c = refl
calm_run f k s (sampled x mv ∷ h) c = rw (c.0 s k)
calm_run f k s (framed address register v ∷ h) c = split (spends (framed address register v) h) (λ e. rw e) (λ e. rw e (calm_run f k s h c))

calm-under : (n : ℕ) (f : Fault) (h : History) → Calm f h → Under n f h
calm-under n f [] c = tt
calm-under n f (sampled x mv ∷ h) c =
    (λ k p. ap (past (delay f (working h))) (calm_run f k (working h) (sampled x mv ∷ h) c), calm-under n f h c.1)
calm-under n f (framed address register v ∷ h) c =
    let then = framed address register v ∷ h in
    (λ k p. ap (past (delay f (working then))) (calm_run f k (working then) then c), calm-under n f h c)

pub calm-never : (p : Plan) → is_garden p.kind ≡ false → (f : Fault) (h : History) → Calm f h → latched p f h ≡ false
calm-never p g f h c = never-latched p g f h (calm-under p.cells f h c)

-- no charge current trips a discharge fault; a garden board has none
every-so : (So To : Readings → List ℕ → Type 0) → ((x : Readings) (mv : List ℕ) → So x mv → To x mv) → (h : History) → EverySample So h → EverySample To h
every-so So To so [] c = tt
every-so So To so (sampled x mv ∷ h) c = (so x mv c.0, every-so So To so h c.1)
every-so So To so (framed address register v ∷ h) c = every-so So To so h c

pub charge-never-trips : (p : Plan) (h : History) → Charging h → (latched p SCD h ≡ false) × (latched p OCD h ≡ false)
charge-never-trips p h c =
    split (is_garden p.kind)
    (λ g. (garden-latched p g SCD h, garden-latched p g OCD h))
    (λ g. (
      calm-never p g SCD h (every-so _ _ (λ x mv charge s k. sym (above-none (scd_level s) x.shunt charge)) h c),
      calm-never p g OCD h (every-so _ _ (λ x mv charge s k. sym (above-none (ocd_level s) x.shunt charge)) h c),
    ))

-- M2, of any number of samples: a cell at 4,150 never latches OV
not-above : (s : Settings) (reading : ℕ) → reading ≤ 4150 → ltb (ov_level s) reading ≡ false
not-above s reading h = le-ltb (ov_level s) reading (omega arith)

at_level : (k : ℕ) → reading_at (4150 ∷ 4000 ∷ 4000 ∷ 4000 ∷ 4000 ∷ []) k ≤ 4150
at_level zero = omega arith
at_level (suc zero) = omega arith
at_level (suc (suc zero)) = omega arith
at_level (suc (suc (suc zero))) = omega arith
at_level (suc (suc (suc (suc zero)))) = omega arith
at_level (suc (suc (suc (suc (suc k))))) = omega arith

level-calm : (r : ℕ) → Calm OV (more r (one 4150) [])
level-calm zero = tt
level-calm (suc r) = (λ s k. not-above s (reading_at (4150 ∷ 4000 ∷ 4000 ∷ 4000 ∷ 4000 ∷ []) k) (at_level k), level-calm r)

pub level-never-latches : (p : Plan) → is_garden p.kind ≡ false → (r : ℕ) → latched p OV (more r (one 4150) []) ≡ false
level-never-latches p g r = calm-never p g OV (more r (one 4150) []) (level-calm r)

-- ---- two cells by turns

module _ (x : Readings) (v low : ℕ) (below : low ≤ 4150) where
  -- a cell is low at one of any two samples that follow each other
  low-at : (first : Bool) (k : ℕ) → (reading_at (by_turns first v low) k ≤ 4150) ⊎ (reading_at (by_turns (not first) v low) k ≤ 4150)
  low-at true zero = inr below
  low-at false zero = inl below
  low-at true (suc zero) = inl below
  low-at false (suc zero) = inr below
  low-at first (suc (suc k)) = inl (others first k)
    where
      others : (first : Bool) (k : ℕ) → reading_at (by_turns first v low) (suc (suc k)) ≤ 4150
      others true zero = below
      others false zero = below
      others true (suc zero) = below
      others false (suc zero) = below
      others true (suc (suc zero)) = below
      others false (suc (suc zero)) = below
      others true (suc (suc (suc k))) = omega arith
      others false (suc (suc (suc k))) = omega arith

  -- a stretch ends at a low sample
  ended : (s : Settings) (r : ℕ) (first : Bool) (k : ℕ) → reading_at (by_turns first v low) k ≤ 4150 → stretch (holds OV s k) (since (alternate x v low r first)) ≡ []
  ended s zero first k h = refl
  ended s (suc r) first k h = rw (not-above s (reading_at (by_turns first v low) k) h)

  -- a stretch of one sample at most has not stood the OV delay
  short : (s : Settings) (y : Sample) (t : Bool) → past (delay OV s) (lasting (λ z. z.readings.elapsed) (cond t (y ∷ []) [])) ≡ false
  short s y true = rw (ne_eqb (delay OV s) 0 (λ z. omega arith), le-ltb (delay OV s) 0 (omega arith))
  short s y false = refl

  under_at : (r : ℕ) (first : Bool) (k : ℕ) → stood_delay OV k (alternate x v low (suc r) first) ≡ false
  under_at r first k = by (low-at first k)
    where
      by : (reading_at (by_turns first v low) k ≤ 4150) ⊎ (reading_at (by_turns (not first) v low) k ≤ 4150) → stood_delay OV k (alternate x v low (suc r) first) ≡ false
      by (inl h) = rw (not-above (working (alternate x v low r (not first))) (reading_at (by_turns first v low) k) h)
      by (inr h) =
          let s = working (alternate x v low r (not first)) in
          rw (ended s r (not first) k h) (short s (sample_of x (by_turns first v low)) (ltb (ov_level s) (reading_at (by_turns first v low) k)))

  under : (n r : ℕ) (first : Bool) → Under n OV (alternate x v low r first)
  under n zero first = tt
  under n (suc r) first = (λ k p. under_at r first k, under n r (not first))

  pub turns-never-latch : (p : Plan) → is_garden p.kind ≡ false → (r : ℕ) (first : Bool) → latched p OV (alternate x v low r first) ≡ false
  turns-never-latch p g r first = never-latched p g OV (alternate x v low r first) (under p.cells r first)
