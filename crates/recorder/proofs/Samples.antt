-- What of a sample fits its fields.
-- Assumes nothing.
use Prim.Native.Nat.{ℕ, ◌+◌, ◌*◌, ◌^◌, ◌<◌, ◌≤◌}
use native.Mathlib.Omega.{arith}
use mathlib.Core.Path.{◌≡◌, refl, sym}
use mathlib.Core.Bool.{Bool, true, false, true≢false, cond, ◌&&◌, and-true, and-false}
use mathlib.Core.List.{List, [], ◌∷◌}
use lib.Dec.{ltb}
use lib.IntN.{ℤ}
use lib.ListN.{length}
use borrow.Author.Tests.{lt-ltb, lt-leb, le-leb, ltb-true, ltb-false}
use mir.Syntax.{w16, w32}
use mir.Val.{SFits}
use Rattle.std.specs.Int.{to_le_bytes, cast_unsigned}
use Rattle.lists.specs.Every.{every}
use Rattle.lists.proofs.Split.{split}
use Rattle.puts.specs.Put.{Put}
use Rattle.puts.proofs.Puts.{put_then}
use Rattle.format.specs.Format.{little, all_bytes, fits, sample, body_of, recordable}
use Rattle.format.proofs.Sizes.{sample-length}
use Rattle.recorder.specs.Way.{sample_fits, sent_bytes}
use Rattle.recorder.proofs.Numbers.{little-one, little-two, little-four, little-twos, signed-fits}

-- up to 121 cells the fields decide that can be too large; from 122 on the body is too long
pub sample-can : (board elapsed load thermistor : ℕ) (shunt : ℤ) (cells : List ℕ) → elapsed < 4294967296 → SFits w32 shunt
    → sample_fits board load thermistor cells ≡ recordable (sample board elapsed load thermistor shunt cells)
unfolding recordable
sample-can board elapsed load thermistor shunt cells p s =
    let body = length (body_of (sample board elapsed load thermistor shunt cells)) in
    let long : body ≡ 12 + 2 * length cells = sample-length board elapsed load thermistor shunt cells in
    split
    (ltb 121 (length cells))
    (λ e. rw (e, lt-leb body 255 (omega (arith, long, ltb-true 121 (length cells) e)), and-false))
    (λ e. rw (e, le-leb body 255 (omega (arith, long, ltb-false 121 (length cells) e)), lt-ltb elapsed (256 ^ 4) (omega (arith, p)), signed-fits shunt s, and-true, and-true, and-true))

-- of a sample that fits each field does
pub record Fitting (board load thermistor : ℕ) (cells : List ℕ) : Type 0 where
  pub few : length cells ≤ 121
  pub at-board : board < 256
  pub at_load : load < 256
  pub at-thermistor : thermistor < 65536
  pub at_cells : every (fits 2) cells ≡ true

parts : (m a b c d : Bool) → cond m false (a && b && c && d) ≡ true → (m ≡ false) × (a ≡ true) × (b ≡ true) × (c ≡ true) × (d ≡ true)
parts false true true true true h = (refl, refl, refl, refl, refl)
parts false true true true false h = absurd (true≢false (sym h))
parts false true true false d h = absurd (true≢false (sym h))
parts false true false c d h = absurd (true≢false (sym h))
parts false false b c d h = absurd (true≢false (sym h))
parts true a b c d h = absurd (true≢false (sym h))

pub fitting : (board load thermistor : ℕ) (cells : List ℕ) → sample_fits board load thermistor cells ≡ true → Fitting board load thermistor cells
fitting board load thermistor cells h =
    let t = parts (ltb 121 (length cells)) (fits 1 board) (fits 1 load) (fits 2 thermistor) (every (fits 2) cells) h in
    record {
      few = ltb-false 121 (length cells) t.0;
      at-board = ltb-true board (256 ^ 1) t.1;
      at_load = ltb-true load (256 ^ 1) t.2;
      at-thermistor = ltb-true thermistor (256 ^ 2) t.3;
      at_cells = t.4;
    }

-- the pieces of a sample that fits, one after the other
module _ (board elapsed load thermistor : ℕ) (shunt : ℤ) (cells : List ℕ) where
  pub sample-put : {at a b c d e r : ℕ} {old m n o p q new : List ℕ}
      → Fitting board load thermistor cells
      → Put at (1 ∷ (12 + 2 * length cells) ∷ board ∷ []) old m a
      → Put a (to_le_bytes w32 elapsed) m n b
      → Put b (load ∷ []) n o c
      → Put c (to_le_bytes w16 thermistor) o p d
      → Put d (to_le_bytes w32 (cast_unsigned w32 shunt)) p q e
      → Put e (all_bytes (little 2) cells) q new r
      → Put at (sent_bytes (sample board elapsed load thermistor shunt cells)) old new r
  unfolding sent_bytes body_of
  sample-put f head four one two signed rest =
      let long : length (body_of (sample board elapsed load thermistor shunt cells)) ≡ 12 + 2 * length cells = sample-length board elapsed load thermistor shunt cells in
      let body = put_then (rw little-four at four) (put_then (rw (little-one load f.at_load) at one) (put_then (rw little-two at two) (put_then (rw (little-twos shunt) at signed) rest))) in
      rw (long, ← little-one 1 (omega arith), ← little-one (12 + 2 * length cells) (omega (arith, f.few)), ← little-one board f.at-board) (put_then head body)
