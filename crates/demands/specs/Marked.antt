-- M1 to M12, shown of the definitions from histories: one table, one statement (01, Both sides of the line; 02, ticket 6).
-- Assumes nothing.
use Rattle.std.specs.Prelude.{ℕ, zero, suc, Bool, true, ◌&&◌, List, [], ◌∷◌, ◌≡◌, refl, eqb, ℤ, pos, negsuc}
use Rattle.settings.specs.declared.Settings.{Settings}
use Rattle.settings.specs.Levels.{uv_release, ocd_delay}
use Rattle.settings.specs.Faults.{Fault, SCD, OV}
use Rattle.lists.specs.Marks.{bit, number}
use Rattle.lists.specs.Each.{each}
use Rattle.cells.specs.Bleed.{bled}
use Rattle.latches.specs.Latches.{register0}
use Rattle.board.specs.declared.Plan.{Plan}
use Rattle.board.specs.Shunt.{shunt_above}
use Rattle.demands.specs.Paper.{Entry, sampled, framed, History, working, latched, status, flags_at}
use Rattle.demands.specs.Host.{alone}

-- ---- histories, newest act first

-- 100,000 µs after the last one, cool and without a load
abbrev pub reads : ℤ → List ℕ → Entry
reads shunt cells = sampled (record { elapsed = 100000; shunt = shunt; thermistor = 2000; load = 0 }) cells

-- so many acts of one kind
abbrev pub more : ℕ → Entry → History → History
more zero e h = h
more (suc k) e h = e ∷ more k e h

-- one cell of five at a level, and all five at it
abbrev pub one : ℕ → Entry
one v = reads (pos 0) (v ∷ 4000 ∷ 4000 ∷ 4000 ∷ 4000 ∷ [])

abbrev pub five : ℕ → Entry
five v = reads (pos 0) (v ∷ v ∷ v ∷ v ∷ v ∷ [])

-- the shunt alone
abbrev pub shunt : ℤ → Entry
shunt v = reads v (4000 ∷ 4000 ∷ 4000 ∷ 4000 ∷ 4000 ∷ [])

-- cells 8, 7 and 3 of eight above the OV level
abbrev pub three : Entry
three = reads (pos 0) (4000 ∷ 4000 ∷ 4151 ∷ 4000 ∷ 4000 ∷ 4000 ∷ 4151 ∷ 4151 ∷ [])

-- cells 8, 6 and 5 of eight above it (02, ticket 2)
abbrev pub apart : Entry
apart = reads (pos 0) (4000 ∷ 4000 ∷ 4000 ∷ 4000 ∷ 4151 ∷ 4151 ∷ 4000 ∷ 4151 ∷ [])

-- a byte that was written and programmed; address 3 is a write to board 1
abbrev pub with : ℕ → ℕ → Settings
with register v = working (framed 3 11 0x41 ∷ framed 3 register v ∷ [])

-- ---- the table

-- a case: its number, what the definitions give, and what the paper says
pub record Case : Type 0 where
  pub m : ℕ
  pub gives : ℕ
  pub says : ℕ

abbrev is : ℕ → ℕ → ℕ → Case
is m gives says = record { m = m; gives = gives; says = says }

-- a stand-alone board of five cells, and a fault of it: 1 if it is latched
abbrev pub board : Plan
board = alone 5

abbrev pub latch : Fault → History → ℕ
latch f h = bit (latched board f h)

abbrev pub marked : List Case
marked =
    is 1 (latch OV (more 6 (one 4151) [])) 0
    ∷ is 1 (latch OV (more 7 (one 4151) [])) 1
    ∷ is 2 (latch OV (more 40 (one 4150) [])) 0
    ∷ is 3 (latch OV (five 4050 ∷ more 7 (one 4151) [])) 1
    ∷ is 4 (latch OV (five 4049 ∷ more 7 (one 4151) [])) 0
    ∷ is 5 (uv_release (with 7 0x38)) 3300
    ∷ is 6 (uv_release (with 7 0)) 1600
    ∷ is 7 (ocd_delay (with 8 15)) 320000
    ∷ is 8 (ocd_delay (with 8 16)) 100000
    ∷ is 9 (ocd_delay (with 8 31)) 1600000
    ∷ is 10 (status board (more 20 (shunt (negsuc 60000)) [])) 192
    ∷ is 11 (latch SCD (more 20 (shunt (pos 60000)) [])) 0
    ∷ is 12 (number (bled (flags_at (alone 8) (more 7 three [])))) 132
    ∷ is 12 (number (bled (flags_at (alone 8) (more 7 apart [])))) 144
    ∷ []

abbrev pub right : List Case → Bool
right [] = true
right (c ∷ cases) = eqb c.gives c.says && right cases

pub marked-right : right marked ≡ true
unfolding each shunt_above register0 number bled
marked-right = refl
