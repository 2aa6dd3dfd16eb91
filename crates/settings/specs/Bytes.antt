-- The five settings bytes by their register's number (01, Frames and registers, registers 6 to 10).
-- Assumes nothing.
use Rattle.std.specs.Prelude.{ℕ, Bool, cond, ◌&&◌, ◌||◌, ltb, eqb}
use Rattle.settings.specs.declared.Settings.{Settings}

-- the byte that a read gives; 0 for a register that is none of the five
abbrev pub byte_of : Settings → ℕ → ℕ
byte_of s register =
    cond (eqb register 6) s.r6
    (cond (eqb register 7) s.r7
    (cond (eqb register 8) s.r8
    (cond (eqb register 9) s.r9
    (cond (eqb register 10) s.r10 0))))

-- a write changes the byte of its register and no other
abbrev pub with_byte : Settings → ℕ → ℕ → Settings
with_byte s register v =
    record {
      r6 = cond (eqb register 6) v s.r6;
      r7 = cond (eqb register 7) v s.r7;
      r8 = cond (eqb register 8) v s.r8;
      r9 = cond (eqb register 9) v s.r9;
      r10 = cond (eqb register 10) v s.r10;
    }

-- equal by bytes, not by meaning
abbrev pub same : Settings → Settings → Bool
same s t =
    eqb s.r6 t.r6 && eqb s.r7 t.r7 && eqb s.r8 t.r8 && eqb s.r9 t.r9 && eqb s.r10 t.r10

-- what may be written: b7 and b6 of register 7 and b7 to b5 of register 8 must be 0
abbrev pub allowed : ℕ → ℕ → Bool
allowed register v =
    eqb register 6
    || eqb register 7 && ltb v 64
    || eqb register 8 && ltb v 32
    || eqb register 9
    || eqb register 10
