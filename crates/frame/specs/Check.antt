-- The check byte: the CRC-8 of the SMBus packet error code, bit by bit (01, Frames and registers).
-- Assumes nothing.
use Rattle.std.specs.Prelude.{ℕ, zero, suc, ◌*◌, ◌-◌, cond, List, [], ◌∷◌, ltb}
use Rattle.std.specs.Int.Bits.{bit_xor}

-- the polynomial x^8 + x^2 + x + 1 below its x^8
abbrev pub polynomial : ℕ
polynomial = 7

-- high bit first: the register moves up by one, and where a 1 falls out at the top the polynomial is taken off
unfoldable pub shifted : ℕ → ℕ
shifted r = cond (ltb r 128) (2 * r) (bit_xor (2 * (r - 128)) polynomial)

abbrev pub times : ℕ → (ℕ → ℕ) → ℕ → ℕ
times zero f r = r
times (suc n) f r = times n f (f r)

-- a byte is eight bits
unfoldable pub checked : ℕ → ℕ → ℕ
checked r byte = times 8 shifted (bit_xor r byte)

abbrev pub check_from : ℕ → List ℕ → ℕ
check_from r [] = r
check_from r (byte ∷ bytes) = check_from (checked r byte) bytes

-- start 0
abbrev pub check_of : List ℕ → ℕ
check_of bytes = check_from 0 bytes
