-- Bounds of what the settings mean, and laws of the five bytes. Fields are cut out by remainders, so no law asks that a byte is one.
-- Assumes nothing.
use Prim.Native.Nat.{ℕ, zero, suc, ◌+◌, ◌-◌, ◌/◌, ◌%◌, ◌≤◌, ◌<◌, zero-le}
use native.Mathlib.Omega.{arith}
use mathlib.Core.Bool.{Bool, true, false, cond, ◌&&◌, and-eq-true_iff}
use mathlib.Core.List.{List, [], ◌∷◌}
use mathlib.Core.Path.{◌≡◌, refl, subst}
use lib.Dec.{leb, ltb, eqb}
use lib.ListN.{get_or}
use borrow.Author.Tests.{leb-true, eqb-true, eq-eqb}
use Rattle.settings.specs.declared.Settings.{Settings}
use Rattle.settings.specs.Levels.{ov_level, ov_hystereses, ov_hysteresis, ov_release, uv_level, uv_hystereses, uv_hysteresis, uv_delays, factory}
use Rattle.settings.specs.Bytes.{byte_of, with_byte, same}
use Rattle.settings.specs.Faults.{Fault, SCD, OCD, OV, UV, OT, delay}

-- every entry of a table is at most b: a test that computes
abbrev all_within : ℕ → List ℕ → Bool
all_within b [] = true
all_within b (x ∷ xs) = leb x b && all_within b xs

entry-within : (b : ℕ) (xs : List ℕ) → all_within b xs ≡ true → (i : ℕ) → get_or xs i 0 ≤ b
entry-within b [] t i = zero-le
entry-within b (x ∷ xs) t zero = leb-true x b ((and-eq-true_iff (leb x b) (all_within b xs)).0 t).0
entry-within b (x ∷ xs) t (suc i) = entry-within b xs ((and-eq-true_iff (leb x b) (all_within b xs)).0 t).1 i

pub ov-hysteresis-within : (s : Settings) → ov_hysteresis s ≤ 300
ov-hysteresis-within s = entry-within 300 ov_hystereses refl (s.r6 / 8 % 4)

pub uv-hysteresis-within : (s : Settings) → uv_hysteresis s ≤ 1200
uv-hysteresis-within s = entry-within 1200 uv_hystereses refl (s.r7 / 16 % 4)

pub ov-release-within : (s : Settings) → ov_release s ≤ ov_level s
ov-release-within s = omega arith

-- a cell below the UV level is below the OV release level too, so it is not above the OV level
pub uv-below-ov : (s : Settings) → uv_level s < ov_release s
uv-below-ov s = omega (arith, ov-hysteresis-within s)

-- both ways of a branch are within b
cond-within : (b : ℕ) (t : Bool) (x y : ℕ) → x ≤ b → y ≤ b → cond t x y ≤ b
cond-within b true x y hx hy = hx
cond-within b false x y hx hy = hy

-- the longest delay is UV's last
pub delay-within : (f : Fault) (s : Settings) → delay f s ≤ 8000000
delay-within SCD s = omega arith
delay-within OCD s = cond-within 8000000 (ltb (s.r8 % 32) 16) _ _ (omega arith) (omega arith)
delay-within OV s = omega arith
delay-within UV s = entry-within 8000000 uv_delays refl (s.r9 / 16 % 16)
delay-within OT s = zero-le

eqb-self : (n : ℕ) → eqb n n ≡ true
eqb-self n = eq-eqb n n refl

pub same_self : (s : Settings) → same s s ≡ true
same_self s = simp eqb-self

-- the last test of a conjunction taken off
last-equal : (t : Bool) (x y : ℕ) → (t && eqb x y) ≡ true → (t ≡ true) × (x ≡ y)
last-equal t x y e = let h = (and-eq-true_iff t (eqb x y)).0 e in (h.0, eqb-true x y h.1)

-- a settings value is its five bytes
abbrev bytewise : Settings → Settings
bytewise s = record { r6 = s.r6; r7 = s.r7; r8 = s.r8; r9 = s.r9; r10 = s.r10 }

pub same-yes : (s t : Settings) → same s t ≡ true → s ≡ t
same-yes s t e =
    let at6 = eqb s.r6 t.r6 in
    let at7 = eqb s.r7 t.r7 in
    let at8 = eqb s.r8 t.r8 in
    let at9 = eqb s.r9 t.r9 in
    let h10 = last-equal (at6 && at7 && at8 && at9) s.r10 t.r10 e in
    let h9 = last-equal (at6 && at7 && at8) s.r9 t.r9 h10.0 in
    let h8 = last-equal (at6 && at7) s.r8 t.r8 h9.0 in
    let h7 = last-equal at6 s.r7 t.r7 h8.0 in
    let bytes : bytewise s ≡ bytewise t = cc (eqb-true s.r6 t.r6 h7.0) in
    bytes

-- what is so of each of the five registers is so of a register from 6 to 10
pub five : (P : ℕ → Type 0) → P 6 → P 7 → P 8 → P 9 → P 10 → (register : ℕ) → 6 ≤ register → register ≤ 10 → P register
five P p6 p7 p8 p9 p10 register low high = subst P (omega arith) (from (register - 6) (omega arith))
  where
    from : (k : ℕ) → k ≤ 4 → P (6 + k)
    from zero h = p6
    from (suc zero) h = p7
    from (suc (suc zero)) h = p8
    from (suc (suc (suc zero))) h = p9
    from (suc (suc (suc (suc zero)))) h = p10
    from (suc (suc (suc (suc (suc k))))) h = absurd (omega arith)

pub byte-with : (s : Settings) (register v : ℕ) → 6 ≤ register → register ≤ 10 → byte_of (with_byte s register v) register ≡ v
byte-with s register v = five (λ r. byte_of (with_byte s r v) r ≡ v) refl refl refl refl refl register

pub factory-zero : (register : ℕ) → 6 ≤ register → register ≤ 10 → byte_of factory register ≡ 0
factory-zero = five (λ r. byte_of factory r ≡ 0) refl refl refl refl refl
