-- The lowest and the highest of some readings: every reading is below a level exactly if the highest is, and above one exactly if the lowest is. And the loop that finds them.
-- Assumes nothing.
use Prim.Native.Nat.{ℕ, suc, ◌+◌, min, max, ◌<◌, ◌≤◌}
use native.Mathlib.Numerals.{add-one}
use native.Mathlib.Omega.{arith}
use mathlib.Core.Path.{◌≡◌, sym, ap, ◌∙◌}
use mathlib.Core.Bool.{Bool, ◌&&◌}
use mathlib.Core.List.{List, [], ◌∷◌}
use lib.Dec.{ltb, leb, leb-suc-suc}
use lib.ListN.{length, get_or, drop, drop_of_length-le}
use lib.Seq.{drop-cons}
use borrow.Author.Tests.{lt-ltb, le-ltb, ltb-true, ltb-false}
use Rattle.lists.specs.Every.{every}
use Rattle.lists.proofs.Split.{split}
use Rattle.settings.specs.declared.Settings.{Settings}
use Rattle.settings.specs.Levels.{ov_level, ov_release, uv_level, uv_release}
use Rattle.settings.proofs.Laws.{ov-hysteresis-within}
use Rattle.cells.specs.Cells.{low_of, high_of, span_of}

-- ---- of two
both_below : (n a b : ℕ) → (ltb a n && ltb b n) ≡ ltb (max a b) n
both_below n a b =
    split (ltb a n)
    (λ e. split (ltb b n)
    (λ f. let p = ltb-true a n e in let q = ltb-true b n f in rw (e, f, lt-ltb (max a b) n (omega (arith, p, q))))
    (λ f. let q = ltb-false b n f in rw (e, f, le-ltb (max a b) n (omega (arith, q)))))
    (λ e. let p = ltb-false a n e in rw (e, le-ltb (max a b) n (omega (arith, p))))

both-above : (n a b : ℕ) → (ltb n a && ltb n b) ≡ ltb n (min a b)
both-above n a b =
    split (ltb n a)
    (λ e. split (ltb n b)
    (λ f. let p = ltb-true n a e in let q = ltb-true n b f in rw (e, f, lt-ltb n (min a b) (omega (arith, p, q))))
    (λ f. let q = ltb-false n b f in rw (e, f, le-ltb n (min a b) (omega (arith, q)))))
    (λ e. let p = ltb-false n a e in rw (e, le-ltb n (min a b) (omega (arith, p))))

-- ---- of all
pub every-below : (level : ℕ) → 0 < level → (mv : List ℕ) → every (λ v. ltb v level) mv ≡ ltb (high_of mv) level
unfolding every high_of
every-below level p [] = rw (lt-ltb 0 level p)
every-below level p (v ∷ mv) = rw (every-below level p mv) (both_below level v (high_of mv))

pub every-above : (level : ℕ) → level < 4294967295 → (mv : List ℕ) → every (λ v. ltb level v) mv ≡ ltb level (low_of mv)
unfolding every low_of
every-above level p [] = rw (lt-ltb level 4294967295 p)
every-above level p (v ∷ mv) = rw (every-above level p mv) (both-above level v (low_of mv))

-- at or below a number is below the next one
pub every-within : (most : ℕ) (mv : List ℕ) → every (λ v. leb v most) mv ≡ leb (high_of mv) most
every-within most mv = ap (λ (test : ℕ → Bool). every test mv) (λ i v. sym (leb-suc-suc v most) i) ∙ every-below (suc most) (omega arith) mv ∙ leb-suc-suc (high_of mv) most

-- ---- the levels of OV and UV, and where they let go
module _ (s : Settings) (mv : List ℕ) where
  pub all-below-level : every (λ v. ltb v (ov_level s)) mv ≡ ltb (high_of mv) (ov_level s)
  all-below-level = every-below (ov_level s) (omega arith) mv

  pub all-above-level : every (λ v. ltb (uv_level s) v) mv ≡ ltb (uv_level s) (low_of mv)
  all-above-level = every-above (uv_level s) (omega arith) mv

  pub all-below-release : every (λ v. ltb v (ov_release s)) mv ≡ ltb (high_of mv) (ov_release s)
  all-below-release = let within = ov-hysteresis-within s in every-below (ov_release s) (omega (arith, within)) mv

  pub all-above-release : every (λ v. ltb (uv_release s) v) mv ≡ ltb (uv_release s) (low_of mv)
  all-above-release = every-above (uv_release s) (omega arith) mv

-- ---- the loop
low_fits : (mv : List ℕ) → low_of mv ≤ 4294967295
unfolding low_of
low_fits [] = omega arith
low_fits (v ∷ mv) = let rest = low_fits mv in omega (arith, rest)

module _ (mv : List ℕ) where
  -- what it holds with i readings behind it
  pub record Seen (i low high : ℕ) : Type 0 where
    pub in-low : low_of mv ≡ min low (low_of (drop i mv))
    pub in-high : high_of mv ≡ max high (high_of (drop i mv))
    pub low-is : low ≤ 4294967295
    pub high_is : high ≤ 4294967295

  pub none_seen : Seen 0 4294967295 0
  none_seen = let most = low_fits mv in record { in-low = omega (arith, most); in-high = omega arith; low-is = omega arith; high_is = omega arith }

  pub one_more : {i low high : ℕ} (v : ℕ) → v ≡ get_or mv i 0 → v ≤ 4294967295 → Seen i low high → i < length mv → Seen (i + 1) (min v low) (max v high)
  unfolding low_of high_of
  one_more {i} {low} {high} v e fits g p =
      let here = drop-cons mv i 0 p in
      let low-on : low_of mv ≡ min low (min v (low_of (drop (suc i) mv))) = g.in-low ∙ rw (here, e) in
      let high-on : high_of mv ≡ max high (max v (high_of (drop (suc i) mv))) = g.in-high ∙ rw (here, e) in
      let a = g.low-is in
      let b = g.high_is in
      record { in-low = rw (add-one i) (omega (arith, low-on)); in-high = rw (add-one i) (omega (arith, high-on)); low-is = omega (arith, a); high_is = omega (arith, fits, b) }

  pub all_seen : {i low high : ℕ} → Seen i low high → length mv ≤ i → record { low = low; high = high } ≡ span_of mv
  unfolding low_of high_of
  all_seen {i} {low} {high} g p =
      let past = drop_of_length-le mv p in
      let low-on : low_of mv ≡ min low 4294967295 = g.in-low ∙ rw past in
      let high-on : high_of mv ≡ max high 0 = g.in-high ∙ rw past in
      let a = g.low-is in
      let low_end : low ≡ low_of mv = omega (arith, low-on, a) in
      let high_end : high ≡ high_of mv = omega (arith, high-on) in
      λ j. record { low = low_end j; high = high_end j }
