-- The laws of a garden board's counts in a history, once over the fault: they stay below the trigger; a step of the library is a step of the filter; a cell sees no
-- other; and latched or not is as before the sample.
-- Assumes nothing.
use Prim.Native.Nat.{ℕ, ◌-◌, ◌<◌, ◌≤◌}
use native.Mathlib.Omega.{arith}
use mathlib.Core.Path.{◌≡◌, refl, sym, ap, ◌∙◌}
use mathlib.Core.Bool.{Bool, true, false, true≢false, cond, not, ◌&&◌}
use mathlib.Core.List.{List, [], ◌∷◌}
use lib.Dec.{ltb, leb, eqb}
use borrow.Author.Tests.{eqb-true, leb-true, leb-false, ltb-true, le-ltb, not-false}
use Rattle.lists.specs.Each.{each, some}
use Rattle.lists.proofs.Split.{split, both}
use Rattle.settings.specs.Faults.{Fault, SCD, OCD, OV, UV, OT}
use Rattle.runs.proofs.Laws.{kept_run}
use Rattle.runs.specs.Stored.{stored, run_next}
use Rattle.cells.specs.Cells.{reading_at}
use Rattle.garden.specs.declared.Device.{Device}
use Rattle.garden.specs.Device.{ov_inner, uv_inner}
use Rattle.garden.specs.Filter.{count_next, latch_after, back_after, zeroed}
use Rattle.board.specs.declared.Readings.{Readings}
use Rattle.board.specs.declared.Plan.{Plan}
use Rattle.board.specs.Plan.{is_host, is_garden}
use Rattle.demands.specs.Paper.{sampled, framed, History, working, spends, Sample, sample_of, since, holds, run_of, counted, past_level, inside, counts, Filter, device, count_at, trips, counting, back_at, recovers, recovering, filter, latched, kept}
use Rattle.demands.specs.Garden.{reads_past, own_next, Locality, AsBefore}
use Rattle.demands.proofs.Lists.{all-at, some_at, some-yes}
use Rattle.demands.proofs.Runs.{runs}

some-none : (n : ℕ) (f : ℕ → Bool) → some (each 0 n f) ≡ false → (k : ℕ) → k < n → f k ≡ false
some-none n f e k p = split (f k) (λ yes. absurd (true≢false (sym (some-yes n f k p yes) ∙ e))) (λ none. none)

-- ---- a garden board's latches are the filter's, at frames too

pub not-host : (kind : ℕ) → is_garden kind ≡ true → is_host kind ≡ false
not-host kind g = rw (eqb-true kind 2 g)

pub garden-latched : (p : Plan) → is_garden p.kind ≡ true → (f : Fault) (h : History) → latched p f h ≡ (counted f && (filter p f h).latched)
garden-latched p g f (sampled x mv ∷ h) = rw g
garden-latched p g f (framed address register v ∷ h) = rw (not-host p.kind g) (garden-latched p g f h)
garden-latched p g SCD [] = rw g
garden-latched p g OCD [] = rw g
garden-latched p g OV [] = rw g
garden-latched p g UV [] = rw g
garden-latched p g OT [] = rw g

-- ---- by a trigger that there is, counts stay below it

module _ (p : Plan) (f : Fault) (one : 1 ≤ p.trigger) where
  abbrev Below : Filter → Type 0
  Below was = ((k : ℕ) → k < p.cells → was.count k < p.trigger) × (was.back < p.trigger)

  below-counting : (was : Filter) (x : Sample) → Below (counting p f was x)
  below-counting was x = (
    λ k q. split (trips p f was x)
        (λ e. rw e one)
        (λ e. rw e (leb-false p.trigger (count_at p f was x k) (some-none p.cells (λ k. leb p.trigger (count_at p f was x k)) e k q))),
    one,
  )

  below-recovering : (was : Filter) (x : Sample) → Below (recovering p f was x)
  below-recovering was x = (λ k q. one, split (recovers p f was x) (λ e. rw e one) (λ e. rw e (leb-false p.trigger (back_at p f was x) e)))

  pub below : (h : History) → Below (filter p f h)
  below [] = (λ k q. one, one)
  below (sampled x mv ∷ h) =
      split (filter p f h).latched
      (λ e. rw e (below-recovering (filter p f h) (sample_of x mv)))
      (λ e. rw e (below-counting (filter p f h) (sample_of x mv)))
  below (framed address register v ∷ h) = below h

-- ---- a step of the library's is a step of the filter, where the trigger fits a byte

small_count : (up : Bool) (count : ℕ) → count ≤ 254 → count_next up count ≡ counts up count
unfolding count_next
small_count true count few = omega arith
small_count false count few = refl

module _ (p : Plan) (f : Fault) (one : 1 ≤ p.trigger) (few : p.trigger ≤ 255) (h : History) (x : Readings) (mv : List ℕ) where
  abbrev was : Filter
  was = filter p f h

  abbrev now : Sample
  now = sample_of x mv

  abbrev after : Filter
  after = filter p f (sampled x mv ∷ h)

  abbrev within : Bool
  within = inside p.cells (device p f) f now

  pub count_fits : (k : ℕ) → k < p.cells → count_next (past_level (device p f) f (reading_at mv k)) (was.count k) ≡ count_at p f was now k
  count_fits k q = small_count (past_level (device p f) f (reading_at mv k)) (was.count k) (omega (arith, few, (below p f one h).0 k q))

  back_fits : count_next within was.back ≡ back_at p f was now
  back_fits = small_count within was.back (omega (arith, few, (below p f one h).1))

  pub latched-is : (reached : ℕ) → not (eqb reached 0) ≡ trips p f was now → latch_after p.trigger was.latched was.back within reached ≡ after.latched
  latched-is reached e = split was.latched (λ l. rw (l, back_fits)) (λ l. rw (l, e))

  pub back_is : back_after p.trigger was.latched was.back within ≡ after.back
  back_is = split was.latched (λ l. rw (l, back_fits) (other (recovers p f was now))) (λ l. rw l)
    where
      other : (t : Bool) → cond (not t) (back_at p f was now) 0 ≡ cond t 0 (back_at p f was now)
      other true = refl
      other false = refl

  pub count-is : (k : ℕ) → k < p.cells → (reached : ℕ) → not (eqb reached 0) ≡ trips p f was now
      → cond (zeroed was.latched reached) 0 (count_next (past_level (device p f) f (reading_at mv k)) (was.count k)) ≡ after.count k
  count-is k q reached e = split was.latched (λ l. rw l) (λ l. rw (l, e, count_fits k q))

-- ---- a cell's run or count sees no other cell

holds-own : (f : Fault) → counted f ≡ true → (p : Plan) (h : History) (k : ℕ) (x : Readings) (mv : List ℕ) → holds f (working h) k (sample_of x mv) ≡ reads_past f (working h) (reading_at mv k)
holds-own SCD c p h k x mv = absurd (true≢false (sym c))
holds-own OCD c p h k x mv = absurd (true≢false (sym c))
holds-own OV c p h k x mv = refl
holds-own UV c p h k x mv = refl
holds-own OT c p h k x mv = absurd (true≢false (sym c))

module _ (p : Plan) (f : Fault) (c : counted f ≡ true) (k : ℕ) (h : History) where
  module _ (x : Readings) (mv : List ℕ) (off : latched p f h ≡ false) (still : latched p f (sampled x mv ∷ h) ≡ false) where
    of-filter : (g : is_garden p.kind ≡ true) (h : History) → latched p f h ≡ false → (filter p f h).latched ≡ false
    of-filter g h e = sym (ap (λ (t : Bool). t && (filter p f h).latched) c) ∙ sym (garden-latched p g f h) ∙ e

    counts-own : is_garden p.kind ≡ true → (filter p f (sampled x mv ∷ h)).count k ≡ counts (past_level (device p f) f (reading_at mv k)) ((filter p f h).count k)
    counts-own g =
        let before = of-filter g h off in
        let unlatched : trips p f (filter p f h) (sample_of x mv) ≡ false = rw before at (of-filter g (sampled x mv ∷ h) still) in
        rw (before, unlatched)

    runs_own : stored (run_of f k (sampled x mv ∷ h)) ≡ run_next (stored (run_of f k h)) (reads_past f (working h) (reading_at mv k)) x.elapsed
    runs_own =
        sym (kept_run (λ y. y.readings.elapsed) (holds f (working h) k) (sample_of x mv) (since h))
        ∙ ap (λ (t : Bool). run_next (stored (run_of f k h)) t x.elapsed) (holds-own f c p h k x mv)

    own : kept p f k (sampled x mv ∷ h) ≡ own_next p f (working h) x.elapsed (reading_at mv k) (kept p f k h)
    own = split (is_garden p.kind) (λ g. rw g (counts-own g)) (λ g. rw g runs_own)

  framed-own : (address register v : ℕ) → let e = framed address register v in kept p f k (e ∷ h) ≡ cond (not (is_garden p.kind) && spends e h) 0 (kept p f k h)
  framed-own address register v =
      let e = framed address register v in
      split (is_garden p.kind)
      (λ g. rw g)
      (λ g.
      let run : kept p f k (e ∷ h) ≡ stored (run_of f k (e ∷ h)) = ap (λ (t : Bool). cond t ((filter p f h).count k) (stored (run_of f k (e ∷ h)))) g in
      split (spends e h)
      (λ s. run ∙ ap stored ((runs f k h).starts-over e s) ∙ rw (g, s))
      (λ s. run ∙ ap stored ((runs f k h).else-stays address register v s) ∙ rw (g, s)))

pub locality : Locality
locality p f k h c = record { samples = own p f c k h; frames = framed-own p f c k h }

-- ---- latched or not is as before the sample

-- a cell that is inside is not past the level
apart : (f : Fault) (n : ℕ) (d : Device) (x : Sample) → inside n d f x ≡ true → (k : ℕ) → k < n → past_level d f (reading_at x.cells k) ≡ false
apart SCD n d x e k q = refl
apart OCD n d x e k q = refl
apart OT n d x e k q = refl
apart OV n d x e k q =
    let low = ltb-true (reading_at x.cells k) (ov_inner d) (all-at n (λ k. ltb (reading_at x.cells k) (ov_inner d)) e k q) in
    le-ltb d.ov (reading_at x.cells k) (omega (arith, low))
apart UV n d x e k q =
    let every = (both _ _ e).0 in
    let high = ltb-true (uv_inner d) (reading_at x.cells k) (all-at n (λ k. ltb (uv_inner d) (reading_at x.cells k)) every k q) in
    le-ltb (reading_at x.cells k) d.uv (omega (arith, high))

-- what brings a count to the trigger took it up
went_up : (up : Bool) (count trigger : ℕ) → count < trigger → leb trigger (counts up count) ≡ true → up ≡ true
went_up true count trigger low e = refl
went_up false count trigger low e = let high = leb-true trigger (count - 1) e in absurd (omega (arith, low, high))

module _ (p : Plan) (f : Fault) (one : 1 ≤ p.trigger) (h : History) (x : Readings) (mv : List ℕ) where
  outside : (filter p f h).latched ≡ false → (filter p f (sampled x mv ∷ h)).latched ≡ true → inside p.cells (device p f) f (sample_of x mv) ≡ false
  outside off on =
      let was = filter p f h in
      let tripped : trips p f was (sample_of x mv) ≡ true = rw off at on in
      let there = some_at p.cells (λ k. leb p.trigger (count_at p f was (sample_of x mv) k)) tripped in
      let k = there.0 in
      let past = went_up (past_level (device p f) f (reading_at mv k)) (was.count k) p.trigger ((below p f one h).0 k there.1) there.2 in
      split (inside p.cells (device p f) f (sample_of x mv))
      (λ e. absurd (true≢false (sym past ∙ apart f p.cells (device p f) (sample_of x mv) e k there.1)))
      (λ e. e)

  nothing-past : (filter p f h).latched ≡ true → (filter p f (sampled x mv ∷ h)).latched ≡ false → (k : ℕ) → k < p.cells → past_level (device p f) f (reading_at mv k) ≡ false
  nothing-past on off =
      let was = filter p f h in
      let freed : not (recovers p f was (sample_of x mv)) ≡ false = rw on at off in
      let reached = not-false (recovers p f was (sample_of x mv)) freed in
      apart f p.cells (device p f) (sample_of x mv) (went_up (inside p.cells (device p f) f (sample_of x mv)) was.back p.trigger (below p f one h).1 reached)

pub as_before : AsBefore
as_before p f h one = record { latches-outside = outside p f one h; lets-go-within = nothing-past p f one h }
