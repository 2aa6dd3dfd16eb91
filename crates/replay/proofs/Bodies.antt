-- A body by itself gives the numbers that it gives with what is behind it.
-- Assumes nothing.
use Prim.Native.Nat.{ℕ, zero, suc, ◌+◌, ◌*◌, ◌-◌, ◌/◌, ◌≤◌}
use native.Mathlib.Omega.{arith}
use mathlib.Core.Path.{◌≡◌, refl, sym, ap, ◌∙◌}
use mathlib.Core.List.{List, [], ◌∷◌}
use lib.ListN.{length, take, drop}
use lib.Seq.{take_all}
use Rattle.std.proofs.lemmas.List.{drop-take}
use Rattle.format.specs.Read.{number_in, pairs_in}
use Rattle.replay.specs.Way.{front, sample_in, frame_in}

number-within : (w n : ℕ) (l : List ℕ) → w ≤ n → number_in w (take n l) ≡ number_in w l
unfolding number_in
number-within zero n l h = refl
number-within (suc w) zero l h = absurd (omega (arith, h))
number-within (suc w) (suc n) [] h = refl
number-within (suc w) (suc n) (x ∷ l) h = rw (number-within w n l (omega (arith, h)))

-- from a place on
later : (i n : ℕ) (l : List ℕ) → i ≤ n → drop i (take n l) ≡ take (n - i) (drop i l)
later i n l h = let all : i + (n - i) ≡ n = omega (arith, h) in ap (λ (k : ℕ). drop i (take k l)) (sym all) ∙ drop-take i (n - i) l

number-there : (w i n : ℕ) (l : List ℕ) → i + w ≤ n → number_in w (drop i (take n l)) ≡ number_in w (drop i l)
number-there w i n l h = ap (number_in w) (later i n l (omega (arith, h))) ∙ number-within w (n - i) (drop i l) (omega (arith, h))

pairs-within : (k n : ℕ) (l : List ℕ) → 2 * k ≤ n → pairs_in k (take n l) ≡ pairs_in k l
unfolding pairs_in
pairs-within zero n l h = refl
pairs-within (suc k) n l h =
    rw (number-within 2 n l (omega (arith, h)), later 2 n l (omega (arith, h)), pairs-within k (n - 2) (drop 2 l) (omega (arith, h)))

pub sample-within : (long : ℕ) (l : List ℕ) → 12 ≤ long → sample_in long (take long l) ≡ sample_in long l
unfolding sample_in
sample-within long l h =
    let k = (long - 12) / 2 in
    let cells : pairs_in k (drop 12 (take long l)) ≡ pairs_in k (drop 12 l) = ap (pairs_in k) (later 12 long l h) ∙ pairs-within k (long - 12) (drop 12 l) (omega arith) in
    rw (number-within 1 long l (omega (arith, h)), number-there 4 1 long l (omega (arith, h)), number-there 4 8 long l (omega (arith, h)), number-there 2 6 long l (omega (arith, h)), number-there 1 5 long l (omega (arith, h)), cells)

-- as many bytes as it has
pub frame-whole : (body : List ℕ) → frame_in (length body) body ≡ record { bytes = front (length body) body; count = length body; room = 4 }
unfolding frame_in
frame-whole body = rw (take_all (length body) body (omega arith))

pub frame-within : (long : ℕ) (l : List ℕ) → length (take long l) ≤ long → frame_in long (take long l) ≡ frame_in long l
unfolding frame_in
frame-within long l h = rw (take_all long (take long l) h)
