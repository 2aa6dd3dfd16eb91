-- The register map of a board (01, Frames and registers; 02, tickets 3, 5 and 7): one row for each register that there is.
-- Assumes nothing.
use Rattle.std.specs.Prelude.{ℕ, ◌/◌, ◌%◌, Bool, true, false, cond, not, ◌&&◌, ◌||◌, List, [], ◌∷◌, eqb}
use Rattle.lists.specs.Compare.{◌below◌}
use Rattle.settings.specs.declared.Settings.{Settings}
use Rattle.settings.specs.Bytes.{byte_of, allowed}
use Rattle.settings.specs.Faults.{Fault, SCD, OCD, OV, UV, OT}
use Rattle.latches.specs.declared.Tallies.{Tallies}
use Rattle.latches.specs.Tallies.{tally}
use Rattle.board.specs.Plan.{is_host, is_garden}

-- what the registers of a board show: the status, register 1, the working settings, the cycles spent and the tallies
pub record Shown : Type 0 where
  pub status : ℕ
  pub control : ℕ
  pub working : Settings
  pub cycles : ℕ
  pub tallies : Tallies

-- a row: the register's number, the kinds of board that have it, whether it can be written, the values that a write may carry, and what a read gives
pub record Register : Type 0 where
  pub number : ℕ
  pub on : ℕ → Bool
  pub written : Bool
  pub takes : ℕ → Bool
  pub gives : Shown → ℕ

abbrev pub every_kind : ℕ → Bool
every_kind kind = true

-- a garden board has no settings
abbrev pub with_settings : ℕ → Bool
with_settings kind = not (is_garden kind)

-- a settings byte has its own rule of what may be written; a read gives the working one
abbrev pub setting : ℕ → Register
setting n = record { number = n; on = with_settings; written = true; takes = allowed n; gives = λ x. byte_of x.working n }

-- a tally is two registers that are only read: its low byte, and eight further up its high byte
abbrev pub low_byte : ℕ → Fault → Register
low_byte n f = record { number = n; on = every_kind; written = false; takes = λ v. false; gives = λ x. tally f x.tallies % 256 }

abbrev pub high_byte : ℕ → Fault → Register
high_byte n f = record { number = n; on = every_kind; written = false; takes = λ v. false; gives = λ x. tally f x.tallies / 256 }

abbrev pub tally_registers : List Register
tally_registers =
    low_byte 16 SCD
    ∷ low_byte 17 OCD
    ∷ low_byte 18 OV
    ∷ low_byte 19 UV
    ∷ low_byte 20 OT
    ∷ high_byte 24 SCD
    ∷ high_byte 25 OCD
    ∷ high_byte 26 OV
    ∷ high_byte 27 UV
    ∷ high_byte 28 OT
    ∷ []

abbrev pub register_map : List Register
register_map =
    record { number = 0; on = every_kind; written = false; takes = λ v. false; gives = λ x. x.status }
    ∷ record { number = 1; on = is_host; written = true; takes = λ v. v below 8; gives = λ x. x.control }
    ∷ setting 6
    ∷ setting 7
    ∷ setting 8
    ∷ setting 9
    ∷ setting 10
    ∷ record { number = 11; on = with_settings; written = true; takes = λ v. eqb v 0x41; gives = λ x. x.cycles }
    ∷ tally_registers

-- what the row of a register says of it, or what is said of a register that is in no row
abbrev pub in_map : {A : Type 0} → List Register → ℕ → A → (Register → A) → A
in_map [] register none says = none
in_map (r ∷ rows) register none says = cond (eqb register r.number) (says r) (in_map rows register none says)

-- refusal 9: a board of this kind has no such register, or it is not to be written
abbrev pub no_register : ℕ → Bool → ℕ → Bool
no_register kind writes register = in_map register_map register true (λ r. not (r.on kind) || (not r.written && writes))

-- refusal 10, where it has: a read carries 0, a write what its register takes
abbrev pub fits : Bool → ℕ → ℕ → Bool
fits writes register v = cond writes (in_map register_map register false (λ r. r.takes v)) (eqb v 0)

-- what a read of a register that it has gives
abbrev pub read_value : Shown → ℕ → ℕ
read_value x register = in_map register_map register 0 (λ r. r.gives x)
