-- The header: where it is refused, and what stands in memory where it is written.
-- Assumes nothing.
use Prim.Native.Nat.{ℕ, ◌+◌, ◌*◌, ◌<◌, ◌≤◌}
use native.Mathlib.Omega.{arith}
use mathlib.Core.Path.{◌≡◌, refl, ap, ◌∙◌}
use mathlib.Core.Bool.{Bool, true, false, true≢false, not, ◌||◌}
use mathlib.Core.List.{List, [], ◌++◌, append-nil}
use lib.ListN.{length, length-map}
use lib.Dec.{ltb}
use borrow.Author.Tests.{ne_eqb, lt-ltb, le-ltb, ltb-false}
use Rattle.refusal.specs.Said.{first}
use Rattle.puts.specs.Put.{Put}
use Rattle.puts.proofs.Puts.{put_then}
use Rattle.format.specs.Format.{header, board_bytes, all_bytes, recording}
use Rattle.format.proofs.Sizes.{all_map, recording-length}
use Rattle.stack.specs.Open.{good_plans, bad_plans}
use Rattle.recorder.specs.declared.Recorder.{Recorder}
use Rattle.recorder.specs.Recorder.{recorder, end, listed_of, boards_of, opening, has_garden, begin_bars, unbegun, begin_recorder, begin_memory}

pub opening-length : (plans : List ℕ) → length (opening plans) ≡ 8 + 2 * length plans
unfolding opening
opening-length plans = recording-length (boards_of plans) [] ∙ rw (length-map plans listed_of) (omega arith)

-- plans that open a stack are 16 at most
few-by : (low high good : Bool) → (low || high || not good) ≡ false → high ≡ false
few-by false false good e = refl
few-by false true good e = absurd (true≢false e)
few-by true high good e = absurd (true≢false e)

pub few : (plans : List ℕ) → bad_plans plans ≡ false → length plans ≤ 16
few plans e = ltb-false 16 (length plans) (few-by (ltb (length plans) 1) (ltb 16 (length plans)) (good_plans plans) e)

-- ---- the verdict on it
module _ (plans : List ℕ) (lent : ℕ) where
  pub begin-bad : bad_plans plans ≡ true → first (begin_bars plans lent) ≡ 1
  begin-bad e = rw e

  pub begin-garden : bad_plans plans ≡ false → has_garden plans ≡ true → first (begin_bars plans lent) ≡ 15
  begin-garden e f = rw (e, f)

  pub begin-full : bad_plans plans ≡ false → has_garden plans ≡ false → end lent < 8 + 2 * length plans → first (begin_bars plans lent) ≡ 16
  begin-full e f p = rw (e, f, opening-length plans, lt-ltb (end lent) (8 + 2 * length plans) p)

  pub begin-room : bad_plans plans ≡ false → has_garden plans ≡ false → 8 + 2 * length plans ≤ end lent → first (begin_bars plans lent) ≡ 0
  begin-room e f p = rw (e, f, opening-length plans, le-ltb (end lent) (8 + 2 * length plans) p)

-- ---- what a beginning leaves
abbrev pub Begins : List ℕ → List ℕ → Recorder → List ℕ → Type 0
Begins plans memory next new = (next ≡ begin_recorder plans (length memory)) × (new ≡ begin_memory plans memory)

pub begin-left : (plans memory : List ℕ) (next : Recorder) (v : ℕ) → first (begin_bars plans (length memory)) ≡ v → (v ≡ 0 → ⊥) → next ≡ unbegun v → Begins plans memory next memory
unfolding begin_recorder begin_memory
begin-left plans memory next v e some is = (is ∙ rw (e, ne_eqb v 0 some), rw (e, ne_eqb v 0 some))

pub begin-written : (plans memory : List ℕ) {mid new : List ℕ} {at used : ℕ} → first (begin_bars plans (length memory)) ≡ 0
    → Put 0 (header (length plans) 0) memory mid at → Put at (all_bytes (λ plan. board_bytes (listed_of plan)) plans) mid new used → Begins plans memory (recorder used 0 0 0) new
unfolding begin_recorder begin_memory opening recording
begin-written plans memory e heads boards =
    let all : header (length (boards_of plans)) 0 ++ (all_bytes board_bytes (boards_of plans) ++ []) ≡ header (length plans) 0 ++ all_bytes (λ plan. board_bytes (listed_of plan)) plans
    = rw (length-map plans listed_of, append-nil (all_bytes board_bytes (boards_of plans)), all_map board_bytes listed_of plans) in
    let whole = put_then heads boards in
    (rw (e, all) (ap (λ (n : ℕ). recorder n 0 0 0) (omega (arith, whole.after))), rw (e, all) whole.whole)
