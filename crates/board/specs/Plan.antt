-- What a board is to be: its kind and its cells, and of a garden board its row of the device table and its trigger
-- (01, Refusal number 1; 02, tickets 3 and 5).
-- Assumes nothing.
use Rattle.std.specs.Prelude.{ℕ, ◌+◌, ◌*◌, ◌/◌, ◌%◌, Bool, cond, ◌&&◌, ◌||◌, eqb}
use Rattle.lists.specs.Compare.{◌above◌, ◌below◌, outside}
use Rattle.board.specs.declared.Plan.{Plan}

-- kind 0 is stand-alone, 1 host, 2 garden
abbrev pub is_host : ℕ → Bool
is_host kind = eqb kind 1

abbrev pub is_garden : ℕ → Bool
is_garden kind = eqb kind 2

-- each kind has its own range of cells: a garden board 3 to 5, with a row that there is and a trigger of 1 to 255
abbrev pub bad_garden : Plan → Bool
bad_garden p = outside 3 5 p.cells || p.row above 2 || outside 1 255 p.trigger

-- and any other 5 to 10; there is no other kind
abbrev pub bad_plan : Plan → Bool
bad_plan p = p.kind above 2 || cond (is_garden p.kind) (bad_garden p) (outside 5 10 p.cells)

-- ---- a plan as one number: a byte each for cells, kind, row and trigger
abbrev pub plan_of : ℕ → Plan
plan_of n = record { kind = n / 256 % 256; cells = n % 256; row = n / 65536 % 256; trigger = n / 16777216 }

-- the number that stands for a plan; what does not fit its byte gives 0, which nothing can open
abbrev pub plan_number : ℕ → ℕ → ℕ → ℕ → ℕ
plan_number kind cells row trigger = cond (cells below 256 && row below 256 && trigger below 256) (cells + 256 * kind + 65536 * row + 16777216 * trigger) 0

abbrev pub stand_alone : ℕ → ℕ
stand_alone cells = plan_number 0 cells 0 0

abbrev pub host : ℕ → ℕ
host cells = plan_number 1 cells 0 0

abbrev pub garden_plan : ℕ → ℕ → ℕ → ℕ
garden_plan cells row trigger = plan_number 2 cells row trigger
