-- On the way to what a frame does: the ways that it can go, each by the board as it is. That they come to the paper's access is
-- shown in proofs/Ways.antt; nobody need believe it.
-- Assumes nothing.
use Rattle.std.specs.Prelude.{ℕ, ◌+◌, Bool, cond, ◌&&◌, ltb, eqb, Result, Ok, Err}
use Rattle.refusal.specs.declared.Refusal.{Refusal}
use Rattle.refusal.specs.declared.Refusal.TheVariants.{NoRegister, BadValue, NoCycle, LevelsCrossed}
use Rattle.settings.specs.Bytes.{same}
use Rattle.settings.specs.Levels.{crossed}
use Rattle.board.specs.declared.Board.{Board}
use Rattle.frame.specs.declared.Request.{Request}
use Rattle.frame.specs.Frame.{writes}
use Rattle.registers.specs.Map.{no_register, fits, read_value}
use Rattle.registers.specs.Registers.{Obeyed, shown_of, programs, steered, staging, spent_to, lacks_cycle}

-- the two kinds of outcome
abbrev pub gives : ℕ → Result ℕ Refusal
gives v = Ok v

abbrev pub denies : Refusal → Result ℕ Refusal
denies why = Err why

-- 9 and 10, which the frame and the board's kind decide, in the table's order
abbrev pub allowed : Board → Request → Result (Unit {0}) Refusal
allowed b asked =
    let write = writes asked.address in
    cond (no_register b.kind write asked.register) (Err NoRegister) (cond (fits write asked.register asked.value) (Ok tt) (Err BadValue))

-- of the others: one that programs, one that writes register 1, and one that stages
abbrev pub asks_programming : Request → Bool
asks_programming asked = programs (writes asked.address) asked.register

abbrev pub asks_steering : Request → Bool
asks_steering asked = writes asked.address && eqb asked.register 1

abbrev pub asks_staging : Request → Bool
asks_staging asked = writes asked.address

-- what a frame does to the board: a write to register 1 and one that stages give the byte back
unfoldable pub steered_by : Board → ℕ → Obeyed
steered_by b v = record { board = steered b v; outcome = gives v }

unfoldable pub staged_by : Board → ℕ → ℕ → Obeyed
staged_by b register v = record { board = staging b register v; outcome = gives v }

-- programming that spends gives the cycles then spent; a count with none left, which is never asked, stays, so that it fits its byte
abbrev pub cycles_after : ℕ → ℕ
cycles_after cycles = cond (ltb cycles 3) (cycles + 1) cycles

unfoldable pub spent_by : Board → Obeyed
spent_by b = record { board = spent_to (cycles_after b.cycles) b; outcome = gives (cycles_after b.cycles) }

-- a frame that leaves the board
abbrev pub leaves : Board → Result ℕ Refusal → Obeyed
leaves b o = record { board = b; outcome = o }

-- programming: 13, 11, or the cycles for equal settings, or a cycle is spent
unfoldable pub programmed_by : Board → Obeyed
programmed_by b =
    cond (crossed b.staged) (leaves b (denies LevelsCrossed))
    (cond (lacks_cycle b) (leaves b (denies NoCycle))
    (cond (same b.staged b.working) (leaves b (gives b.cycles)) (spent_by b)))

-- what is read
abbrev pub read_by : Board → Request → Result ℕ Refusal
read_by b asked = gives (read_value (shown_of b) asked.register)

-- the ways of a frame, in the table's order
unfoldable pub carried_out : Board → Request → Obeyed
carried_out b asked =
    cond (asks_programming asked) (programmed_by b)
    (cond (asks_steering asked) (steered_by b asked.value)
    (cond (asks_staging asked) (staged_by b asked.register asked.value) (leaves b (read_by b asked))))

abbrev pub way_of : Board → Request → Result (Unit {0}) Refusal → Obeyed
way_of b asked (Ok done) = carried_out b asked
way_of b asked (Err why) = leaves b (denies why)

abbrev pub ways_of : Board → Request → Obeyed
ways_of b asked = way_of b asked (allowed b asked)
