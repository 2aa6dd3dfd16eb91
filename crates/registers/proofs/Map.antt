-- The register map by ranges, as the code asks it: registers 6 to 11 are there to be read and written but on a garden board, and of them 6 to 10 are the settings'; register 1 is a host board's; 16 to 20 and 24 to 28 are the tallies', to be read on every board.
-- Assumes nothing.
use Prim.Native.Nat.{ℕ, ◌+◌, ◌<◌, ◌≤◌}
use native.Mathlib.Omega.{arith}
use mathlib.Core.Path.{◌≡◌, refl, sym, subst}
use mathlib.Core.Logic.{◌≢◌}
use mathlib.Core.Bool.{Bool, true, false, cond, not, ◌||◌, ◌&&◌}
use lib.Dec.{eqb}
use borrow.Author.Tests.{ne_eqb, eqb-true, eqb-false}
use Rattle.settings.specs.Bytes.{byte_of, allowed}
use Rattle.board.specs.Plan.{is_host, is_garden}
use Rattle.lists.proofs.Split.{split}
use Rattle.registers.specs.Map.{Shown, Register, tally_registers, register_map, in_map, no_register, read_value}

-- ---- one of five that follow each other
pub one-of-five : (n r : ℕ) (P : ℕ → Type 0) → n ≤ r → r ≤ n + 4 → P n → P (n + 1) → P (n + 2) → P (n + 3) → P (n + 4) → P r
one-of-five n r P low high p0 p1 p2 p3 p4 =
    split (eqb r n) (λ e. subst P (sym (eqb-true r n e)) p0)
    (λ e0. split (eqb r (n + 1)) (λ e. subst P (sym (eqb-true r (n + 1) e)) p1)
    (λ e1. split (eqb r (n + 2)) (λ e. subst P (sym (eqb-true r (n + 2) e)) p2)
    (λ e2. split (eqb r (n + 3)) (λ e. subst P (sym (eqb-true r (n + 3) e)) p3)
    (λ e3.
    let last : n + 4 ≡ r = omega (arith, low, high, eqb-false r n e0, eqb-false r (n + 1) e1, eqb-false r (n + 2) e2, eqb-false r (n + 3) e3) in
    subst P last p4))))

-- ---- the registers of the tallies: none but these ten
abbrev pub Away : ℕ → Type 0
Away r = ((n : ℕ) → 16 ≤ n → n ≤ 20 → r ≢ n) × ((n : ℕ) → 24 ≤ n → n ≤ 28 → r ≢ n)

pub no-tally : {A : Type 0} (r : ℕ) (none : A) (says : Register → A) → Away r → in_map tally_registers r none says ≡ none
no-tally r none says away =
    rw (ne_eqb r 16 (away.0 16 (omega arith) (omega arith)), ne_eqb r 17 (away.0 17 (omega arith) (omega arith)), ne_eqb r 18 (away.0 18 (omega arith) (omega arith)), ne_eqb r 19 (away.0 19 (omega arith) (omega arith)), ne_eqb r 20 (away.0 20 (omega arith) (omega arith)), ne_eqb r 24 (away.1 24 (omega arith) (omega arith)), ne_eqb r 25 (away.1 25 (omega arith) (omega arith)), ne_eqb r 26 (away.1 26 (omega arith) (omega arith)), ne_eqb r 27 (away.1 27 (omega arith) (omega arith)), ne_eqb r 28 (away.1 28 (omega arith) (omega arith)))

pub away-below : (r : ℕ) → r < 16 → Away r
away-below r p = (λ n low high e. omega (arith, p, low, e), λ n low high e. omega (arith, p, low, e))

-- they take nothing, and no write of them is taken
none_row : (t is : Bool) → is ≡ false → cond t false is ≡ false
none_row true is e = refl
none_row false is e = e

none-taken : (r v : ℕ) → in_map tally_registers r false (λ (x : Register). x.takes v) ≡ false
none-taken r v = none_row (eqb r 16) _ (none_row (eqb r 17) _ (none_row (eqb r 18) _ (none_row (eqb r 19) _ (none_row (eqb r 20) _ (none_row (eqb r 24) _ (none_row (eqb r 25) _ (none_row (eqb r 26) _ (none_row (eqb r 27) _ (none_row (eqb r 28) _ (refl))))))))))

-- ---- none but these
pub outside : (k : ℕ) (w : Bool) (r : ℕ) → r ≢ 0 → r ≢ 1 → ((n : ℕ) → 6 ≤ n → n ≤ 11 → r ≢ n) → Away r → no_register k w r ≡ true
outside k w r n0 n1 other away =
    rw (ne_eqb r 0 n0, ne_eqb r 1 n1, ne_eqb r 6 (other 6 (omega arith) (omega arith)), ne_eqb r 7 (other 7 (omega arith) (omega arith)), ne_eqb r 8 (other 8 (omega arith) (omega arith)), ne_eqb r 9 (other 9 (omega arith) (omega arith)), ne_eqb r 10 (other 10 (omega arith) (omega arith)), ne_eqb r 11 (other 11 (omega arith) (omega arith)))
    (no-tally r true (λ (x : Register). not (x.on k) || (not x.written && w)) away)

pub below : (k : ℕ) (w : Bool) (r : ℕ) → r ≢ 0 → r ≢ 1 → r < 6 → no_register k w r ≡ true
below k w r n0 n1 p = outside k w r n0 n1 (λ n low high e. omega (arith, p, low, e)) (away-below r (omega (arith, p)))

-- past 11, and away from the tallies
pub past-settings : (k : ℕ) (w : Bool) (r : ℕ) → 11 < r → Away r → no_register k w r ≡ true
past-settings k w r p away = outside k w r (λ e. omega (arith, p, e)) (λ e. omega (arith, p, e)) (λ n low high e. omega (arith, p, high, e)) away

pub between-tallies : (k : ℕ) (w : Bool) (r : ℕ) → 20 < r → r < 24 → no_register k w r ≡ true
between-tallies k w r p q = past-settings k w r (omega (arith, p)) (λ n low high e. omega (arith, p, high, e), λ n low high e. omega (arith, q, low, e))

pub above : (k : ℕ) (w : Bool) (r : ℕ) → 28 < r → no_register k w r ≡ true
above k w r p = past-settings k w r (omega (arith, p)) (λ n low high e. omega (arith, p, high, e), λ n low high e. omega (arith, p, high, e))

-- the ten are there on every board, to be read
pub low-there : (k : ℕ) (w : Bool) (r : ℕ) → 16 ≤ r → r ≤ 20 → no_register k w r ≡ w
low-there k w r low high = one-of-five 16 r (λ r. no_register k w r ≡ w) low high refl refl refl refl refl

pub high-there : (k : ℕ) (w : Bool) (r : ℕ) → 24 ≤ r → r ≤ 28 → no_register k w r ≡ w
high-there k w r low high = one-of-five 24 r (λ r. no_register k w r ≡ w) low high refl refl refl refl refl

-- register 1 is there on a host board
pub control-there : (k : ℕ) (w : Bool) → no_register k w 1 ≡ not (is_host k)
control-there k w = split (is_host k) (λ e. rw e) (λ e. rw e)

-- and the six that a garden board has not: where all but the last are ruled out, it is the last
has-not : (t : Bool) → (not (not t) || false) ≡ t
has-not true = refl
has-not false = refl

pub between : (k : ℕ) (w : Bool) (r : ℕ) → 6 ≤ r → r ≤ 11 → no_register k w r ≡ is_garden k
between k w r low high = by (eqb r 6) (eqb r 7) (eqb r 8) (eqb r 9) (eqb r 10) refl refl refl refl refl
  where
    by : (t6 t7 t8 t9 t10 : Bool) → eqb r 6 ≡ t6 → eqb r 7 ≡ t7 → eqb r 8 ≡ t8 → eqb r 9 ≡ t9 → eqb r 10 ≡ t10 → no_register k w r ≡ is_garden k
    by true t7 t8 t9 t10 e6 e7 e8 e9 e10 = rw (eqb-true r 6 e6) (has-not (is_garden k))
    by false true t8 t9 t10 e6 e7 e8 e9 e10 = rw (eqb-true r 7 e7) (has-not (is_garden k))
    by false false true t9 t10 e6 e7 e8 e9 e10 = rw (eqb-true r 8 e8) (has-not (is_garden k))
    by false false false true t10 e6 e7 e8 e9 e10 = rw (eqb-true r 9 e9) (has-not (is_garden k))
    by false false false false true e6 e7 e8 e9 e10 = rw (eqb-true r 10 e10) (has-not (is_garden k))
    by false false false false false e6 e7 e8 e9 e10 =
        let last : r ≡ 11 = omega (arith, low, high, eqb-false r 6 e6, eqb-false r 7 e7, eqb-false r 8 e8, eqb-false r 9 e9, eqb-false r 10 e10) in
        rw last (has-not (is_garden k))

-- and no write at all: whichever row it is
some-row : (t is : Bool) → is ≡ true → cond t true is ≡ true
some-row true is e = refl
some-row false is e = e

pub no_writes : (k r : ℕ) → is_garden k ≡ true → no_register k true r ≡ true
no_writes k r g =
    rw (eqb-true k 2 g)
    (some-row (eqb r 0) _ (some-row (eqb r 1) _ (some-row (eqb r 6) _ (some-row (eqb r 7) _ (some-row (eqb r 8) _ (some-row (eqb r 9) _ (some-row (eqb r 10) _ (some-row (eqb r 11) _
    (some-row (eqb r 16) _ (some-row (eqb r 17) _ (some-row (eqb r 18) _ (some-row (eqb r 19) _ (some-row (eqb r 20) _ (some-row (eqb r 24) _ (some-row (eqb r 25) _ (some-row (eqb r 26) _ (some-row (eqb r 27) _ (some-row (eqb r 28) _ (refl)))))))))))))))))))

-- what a register takes but for 1 and 11: the settings' own rule, which takes nothing for any other
pub takes-setting : (r v : ℕ) → eqb r 1 ≡ false → eqb r 11 ≡ false → in_map register_map r false (λ (x : Register). x.takes v) ≡ allowed r v
takes-setting r v e1 e11 = by (eqb r 0) (eqb r 6) (eqb r 7) (eqb r 8) (eqb r 9) (eqb r 10) refl refl refl refl refl refl
  where
    by : (t0 t6 t7 t8 t9 t10 : Bool) → eqb r 0 ≡ t0 → eqb r 6 ≡ t6 → eqb r 7 ≡ t7 → eqb r 8 ≡ t8 → eqb r 9 ≡ t9 → eqb r 10 ≡ t10 → in_map register_map r false (λ (x : Register). x.takes v) ≡ allowed r v
    by true t6 t7 t8 t9 t10 e0 e6 e7 e8 e9 e10 = rw (eqb-true r 0 e0)
    by false true t7 t8 t9 t10 e0 e6 e7 e8 e9 e10 = rw (eqb-true r 6 e6)
    by false false true t8 t9 t10 e0 e6 e7 e8 e9 e10 = rw (eqb-true r 7 e7)
    by false false false true t9 t10 e0 e6 e7 e8 e9 e10 = rw (eqb-true r 8 e8)
    by false false false false true t10 e0 e6 e7 e8 e9 e10 = rw (eqb-true r 9 e9)
    by false false false false false true e0 e6 e7 e8 e9 e10 = rw (eqb-true r 10 e10)
    by false false false false false false e0 e6 e7 e8 e9 e10 = rw (e0, e1, e6, e7, e8, e9, e10, e11) (none-taken r v)

-- a read below 16 but for 0, 1 and 11: a working byte, or 0
pub read-setting : (x : Shown) (r : ℕ) → r < 16 → eqb r 0 ≡ false → eqb r 1 ≡ false → eqb r 11 ≡ false → read_value x r ≡ byte_of x.working r
read-setting x r p e0 e1 e11 = rw (e0, e1, e11, no-tally r 0 (λ (row : Register). row.gives x) (away-below r p))

-- and from 16 up: a tally's
pub read-tally : (x : Shown) (r : ℕ) → 16 ≤ r → in_map tally_registers r 0 (λ (row : Register). row.gives x) ≡ read_value x r
read-tally x r p =
    rw (ne_eqb r 0 (λ e. omega (arith, p, e)), ne_eqb r 1 (λ e. omega (arith, p, e)), ne_eqb r 6 (λ e. omega (arith, p, e)), ne_eqb r 7 (λ e. omega (arith, p, e)), ne_eqb r 8 (λ e. omega (arith, p, e)), ne_eqb r 9 (λ e. omega (arith, p, e)), ne_eqb r 10 (λ e. omega (arith, p, e)), ne_eqb r 11 (λ e. omega (arith, p, e)))
