-- The latches and the switches by a mask of the byte, and the byte without its upper bits: a test that computes, over every byte.
-- Assumes nothing.
use Prim.Native.Nat.{ℕ, ◌%◌, ◌<◌}
use mathlib.Core.Path.{◌≡◌, refl, sym}
use mathlib.Core.Bool.{Bool, true, false, true≢false, not, ◌&&◌}
use lib.Bits.{bit_and}
use lib.Dec.{eqb}
use borrow.Author.Tests.{eqb-true}
use Rattle.lists.proofs.Split.{both}
use Rattle.lists.proofs.Below.{right-below, right-at}
use Rattle.lists.specs.Marks.{number}
use Rattle.latches.specs.Latches.{any_latch, chg_on, dsg_on, latches_of, latches_byte}

-- what the three masks say of a byte, and what its lower five bits do
abbrev Right : ℕ → Type 0
Right byte =
    (not (eqb (bit_and byte 31) 0) ≡ any_latch (latches_of byte))
    × (eqb (bit_and byte 23) 0 ≡ chg_on true (latches_of byte))
    × (eqb (bit_and byte 27) 0 ≡ dsg_on true (latches_of byte))
    × (byte % 32 ≡ latches_byte (latches_of byte))

-- the same as a test
abbrev same : Bool → Bool → Bool
same true b = b
same false b = not b

same-so : (a b : Bool) → same a b ≡ true → a ≡ b
same-so true b e = sym e
same-so false false e = refl
same-so false true e = absurd (true≢false (sym e))

abbrev any-right : ℕ → Bool
any-right byte = same (not (eqb (bit_and byte 31) 0)) (any_latch (latches_of byte))

abbrev chg-right : ℕ → Bool
chg-right byte = same (eqb (bit_and byte 23) 0) (chg_on true (latches_of byte))

abbrev dsg-right : ℕ → Bool
dsg-right byte = same (eqb (bit_and byte 27) 0) (dsg_on true (latches_of byte))

abbrev low-right : ℕ → Bool
low-right byte = eqb (byte % 32) (latches_byte (latches_of byte))

abbrev right : ℕ → Bool
right byte = any-right byte && (chg-right byte && (dsg-right byte && low-right byte))

right_so : (byte : ℕ) → right byte ≡ true → Right byte
right_so byte t =
    let h = both (any-right byte) (chg-right byte && (dsg-right byte && low-right byte)) t in
    let k = both (chg-right byte) (dsg-right byte && low-right byte) h.1 in
    let l = both (dsg-right byte) (low-right byte) k.1 in
    (same-so _ _ h.0, same-so _ _ k.0, same-so _ _ l.0, eqb-true (byte % 32) (latches_byte (latches_of byte)) l.1)

all_right : right-below right 256 ≡ true
unfolding right-below latches_byte number
all_right = refl

pub masks-right : (byte : ℕ) → byte < 256 → Right byte
masks-right byte p = right_so byte (right-at right 256 all_right byte p)
