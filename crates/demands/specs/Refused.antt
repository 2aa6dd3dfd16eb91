-- The table of refusals a second time, from what is known of each board and the act alone: for each act its rows in order, each a number and a proposition (01, Refusal numbers; Frames and registers; 02, tickets 1, 3, 5 and 7 to 9).
-- None of the library's conditions is used: beside the history (Paper) it rests on what a record says that its board is (board, plan_in), the two current levels (settings, Levels) and the check byte, which is bit by bit (frame, Check).
-- Assumes nothing.
use Rattle.std.specs.Prelude.{ℕ, zero, suc, ◌+◌, ◌-◌, ◌*◌, ◌<◌, ◌≤◌, ◌/◌, ◌≡◌, ◌⊎◌, ◌≢◌, ◌↔◌, true, List, [], ◌∷◌, map, ℤ, pos, negsuc, length, get_or, set}
use Rattle.refusal.specs.Said.{Said, refuses, Bar}
use Rattle.board.specs.declared.Board.{Board}
use Rattle.board.specs.declared.Readings.{Readings}
use Rattle.board.specs.declared.Plan.{Plan}
use Rattle.board.specs.Plan.{plan_of}
use Rattle.board.specs.Sample.{plan_in}
use Rattle.settings.specs.Levels.{ocd_level, scd_level}
use Rattle.frame.specs.Check.{check_of}
use Rattle.stack.specs.Open.{open_bars, opening_said, open_answer}
use Rattle.stack.specs.Read.{read_bars}
use Rattle.demands.specs.Paper.{Entry, sampled, framed, History, staged, working, spent, listed}
use Rattle.demands.specs.Acts.{Act, sample, frame, listing, reading, up, bars, outcome, next, opened_row, final}
use Rattle.demands.specs.Demands.{Log, no_log, begun, log_at, joined, row_given, taken}

-- a row of the table: a refusal's number, and what has to hold
pub record Rule : Type 1 where
  pub number : ℕ
  pub holds : Type 0

abbrev pub rule : ℕ → Type 0 → Rule
rule n P = record { number = n; holds = P }

-- a number that is not from low to high, and an entry of a list that is so
abbrev pub Outside : ℕ → ℕ → ℕ → Type 0
Outside low high n = (n < low) ⊎ (high < n)

abbrev pub Some : {A : Type 0} → A → (A → Type 0) → List A → Type 0
Some none P l = (i : ℕ) × (i < length l) × P (get_or l i none)

-- ---- the stack and its boards

-- 1: a stack has 1 to 16 boards: stand-alone or host with 5 to 10 cells each, or garden with 3 to 5 and one of the three rows, by a trigger of 1 to 255;
-- by these plans there is none
abbrev pub NoGarden : Plan → Type 0
NoGarden p = Outside 3 5 p.cells ⊎ (2 < p.row) ⊎ Outside 1 255 p.trigger

abbrev pub NoPlan : Plan → Type 0
NoPlan p = (2 < p.kind) ⊎ ((p.kind ≡ 2) × NoGarden p) ⊎ ((p.kind ≢ 2) × Outside 5 10 p.cells)

abbrev pub NoStack : List Plan → Type 0
NoStack plans = Outside 1 16 (length plans) ⊎ Some (plan_of 0) NoPlan plans

-- the plans of an opening, of the boards of which something is known, and of a row of records
abbrev pub plans_by : List ℕ → List Plan
plans_by numbers = map plan_of numbers

abbrev pub plans_of : List Log → List Plan
plans_of logs = map (λ l. l.plan) logs

abbrev pub plans_in : List Board → List Plan
plans_in row = map plan_in row

-- boards are numbered from 1; of a number that no board has nothing is known
abbrev pub log_of : List Log → ℕ → Log
log_of logs zero = no_log
log_of logs (suc at) = log_at logs at

-- 2: none of the boards has the number
abbrev pub NoBoard : List Log → ℕ → Type 0
NoBoard logs n = Outside 1 (length logs) n

-- ---- a sample

-- 3: a reading for each cell, no more and no fewer
abbrev pub WrongCells : Log → List ℕ → Type 0
WrongCells l mv = length mv ≢ l.plan.cells

-- 4: 1 to 100,000 µs
abbrev pub WrongTime : Readings → Type 0
WrongTime x = Outside 1 100000 x.elapsed

-- 5, of the shunt: at most 500,000 µV either way, discharge being positive and charge negative (negsuc k is a charge of k + 1)
abbrev pub WrongShunt : ℤ → Type 0
WrongShunt (pos discharge) = 500000 < discharge
WrongShunt (negsuc k) = 500000 < k + 1

-- 5: cells and thermistor read at most 5,000 mV, and the load flag is 0 or 1
abbrev pub WrongReading : Readings → List ℕ → Type 0
WrongReading x mv =
    Some 0 (λ v. 5000 < v) mv
    ⊎ (5000 < x.thermistor)
    ⊎ WrongShunt x.shunt
    ⊎ ((x.load ≢ 0) × (x.load ≢ 1))

-- ---- a frame, by its address, register and value

-- a read of board n has the address 2n, a write to it 2n + 1
abbrev pub ReadOf : ℕ → ℕ → Type 0
ReadOf n address = address ≡ 2 * n

abbrev pub WriteOf : ℕ → ℕ → Type 0
WriteOf n address = address ≡ 2 * n + 1

abbrev pub Reads : ℕ → Type 0
Reads address = (n : ℕ) × ReadOf n address

abbrev pub Writes : ℕ → Type 0
Writes address = (n : ℕ) × WriteOf n address

-- 2: none of the boards has the number that the address names
abbrev pub NoBoardNamed : List Log → ℕ → Type 0
NoBoardNamed logs address = (n : ℕ) × (ReadOf n address ⊎ WriteOf n address) × NoBoard logs n

-- the board that it names is so
abbrev pub Named : (Log → Type 0) → List Log → ℕ → Type 0
Named So logs address = (n : ℕ) × (ReadOf n address ⊎ WriteOf n address) × So (log_of logs n)

-- 9: every board has register 0 and the tallies', 16 to 20 and 24 to 28; a host board has 1 too, and all but a garden board 6 to 11
abbrev pub OfTallies : ℕ → Type 0
OfTallies register = ((16 ≤ register) × (register ≤ 20)) ⊎ ((24 ≤ register) × (register ≤ 28))

abbrev pub Known : ℕ → Log → Type 0
Known register l =
    (register ≡ 0)
    ⊎ ((register ≡ 1) × (l.plan.kind ≡ 1))
    ⊎ ((6 ≤ register) × (register ≤ 11) × (l.plan.kind ≢ 2))
    ⊎ OfTallies register

-- register 0 and the tallies' are only read
abbrev pub OnlyRead : ℕ → Type 0
OnlyRead register = (register ≡ 0) ⊎ OfTallies register

abbrev pub WrongRegister : List Log → ℕ → ℕ → Type 0
WrongRegister logs address register = Named (λ l. ¬ Known register l) logs address ⊎ (Writes address × OnlyRead register)

-- 10: what a write may carry. Register 1 takes b0 to b2, registers 6, 9 and 10 any byte, 7 one whose two high bits are 0, 8 one whose three high bits are 0, 11 only 0x41
abbrev pub MayCarry : ℕ → ℕ → Type 0
MayCarry register v =
    ((register ≡ 1) × (v < 8))
    ⊎ (register ≡ 6)
    ⊎ ((register ≡ 7) × (v < 64))
    ⊎ ((register ≡ 8) × (v < 32))
    ⊎ (register ≡ 9)
    ⊎ (register ≡ 10)
    ⊎ ((register ≡ 11) × (v ≡ 0x41))

-- a read carries 0
abbrev pub WrongValue : ℕ → ℕ → ℕ → Type 0
WrongValue address register v = (Reads address × (v ≢ 0)) ⊎ (Writes address × (¬ MayCarry register v))

-- a write to register 11, which programs a board, where its history is so
abbrev pub Programs : (History → Type 0) → List Log → ℕ → ℕ → Type 0
Programs So logs address register = (n : ℕ) × WriteOf n address × (register ≡ 11) × So (log_of logs n).acts

-- 13: the staged short-circuit level is not above the staged overcurrent level (02, ticket 1)
abbrev pub Crossed : History → Type 0
Crossed h = scd_level (staged h) ≤ ocd_level (staged h)

-- 11: staged and working differ, and no cycle is left of the three
abbrev pub Worn : History → Type 0
Worn h = (staged h ≢ working h) × (3 ≤ spent h)

-- 14: the lent buffer has less room than there are latchings to list; an entry takes three words (02, ticket 8)
abbrev pub NoRoom : Log → List ℕ → Type 0
NoRoom l buffer = length buffer / 3 < length (listed l.plan l.acts)

-- ---- the table, for each act in the paper's order

-- an opening has a plan for each record of the row that it is given, and none beside
abbrev pub opening_rules : ℕ → List ℕ → List Rule
opening_rules records plans = rule 1 ((length plans ≢ records) ⊎ NoStack (plans_by plans)) ∷ []

abbrev pub stack_rules : List Plan → List Rule
stack_rules plans = rule 1 (NoStack plans) ∷ []

abbrev pub sample_rules : List Log → ℕ → Readings → List ℕ → List Rule
sample_rules logs n x mv =
    rule 1 (NoStack (plans_of logs))
    ∷ rule 2 (NoBoard logs n)
    ∷ rule 3 (WrongCells (log_of logs n) mv)
    ∷ rule 4 (WrongTime x)
    ∷ rule 5 (WrongReading x mv)
    ∷ []

-- a byte that a frame lacks stands as 0: 6 has refused it by then
abbrev pub frame_rules : List Log → List ℕ → List ℕ → List Rule
frame_rules logs bytes buffer =
    let address = get_or bytes 0 0 in
    let register = get_or bytes 1 0 in
    let v = get_or bytes 2 0 in
    let check = get_or bytes 3 0 in
    rule 1 (NoStack (plans_of logs))
    ∷ rule 6 (length bytes ≢ 4)
    ∷ rule 7 (length buffer < 4)
    ∷ rule 8 (check ≢ check_of (address ∷ register ∷ v ∷ []))
    ∷ rule 2 (NoBoardNamed logs address)
    ∷ rule 9 (WrongRegister logs address register)
    ∷ rule 10 (WrongValue address register v)
    ∷ rule 13 (Programs Crossed logs address register)
    ∷ rule 11 (Programs Worn logs address register)
    ∷ []

abbrev pub list_rules : List Log → ℕ → List ℕ → List Rule
list_rules logs n buffer = rule 1 (NoStack (plans_of logs)) ∷ rule 2 (NoBoard logs n) ∷ rule 14 (NoRoom (log_of logs n) buffer) ∷ []

abbrev pub rules : List Log → Act → List Rule
rules logs (sample n x mv) = sample_rules logs n x mv
rules logs (frame bytes buffer) = frame_rules logs bytes buffer
rules logs (listing n buffer) = list_rules logs n buffer
rules logs reading = stack_rules (plans_of logs)
rules logs up = stack_rules (plans_of logs)

-- ---- the library's table is this one, row by row in the same order: each condition holds exactly where the paper's does

abbrev pub SameRow : Bar → Rule → Type 0
SameRow b r = (b.number ≡ r.number) × ((b.when ≡ true) ↔ r.holds)

abbrev pub SameRows : List Bar → List Rule → Type 0
SameRows [] [] = Unit {0}
SameRows [] (r ∷ rs) = ⊥
SameRows (b ∷ bs) [] = ⊥
SameRows (b ∷ bs) (r ∷ rs) = SameRow b r × SameRows bs rs

pub record SameTable : Type 0 where
  -- for an opening; for a row of records handed in, good or damaged; and for every act on the records that the paper gives
  pub opening : (records : ℕ) (plans : List ℕ) → SameRows (open_bars records plans) (opening_rules records plans)
  pub handed-in : (row : List Board) → SameRows (read_bars row) (stack_rules (plans_in row))
  pub act : (logs : List Log) → ¬ NoStack (plans_of logs) → (a : Act) → SameRows (bars (row_given logs) a) (rules logs a)

-- ---- refused with n exactly if n is the first that holds, accepted exactly if none does

abbrev pub FirstOf : ℕ → List Rule → Type 0
FirstOf n [] = ⊥
FirstOf n (r ∷ rs) = (r.holds × (r.number ≡ n)) ⊎ ((¬ r.holds) × FirstOf n rs)

abbrev pub NoneOf : List Rule → Type 0
NoneOf [] = Unit {0}
NoneOf (r ∷ rs) = (¬ r.holds) × NoneOf rs

pub record ByRules (rs : List Rule) (said : Said) : Type 0 where
  pub refused : (n : ℕ) → 0 < n → (said ≡ refuses n) ↔ FirstOf n rs
  pub accepted : (said.number ≡ 0) ↔ NoneOf rs

-- an act of board n, as it stands in that board's log; a listing and a whole-stack act stand in none
abbrev pub ActOf : ℕ → Entry → Act → Type 0
ActOf n e (sample m x mv) = (m ≡ n) × (e ≡ sampled x mv)
ActOf n e (frame bytes buffer) =
    let address = get_or bytes 0 0 in
    (ReadOf n address ⊎ WriteOf n address) × (e ≡ framed address (get_or bytes 1 0) (get_or bytes 2 0))
ActOf n e (listing m buffer) = ⊥
ActOf n e reading = ⊥
ActOf n e up = ⊥

abbrev pub entered : List Log → ℕ → Entry → List Log
entered logs n e = set logs (n - 1) (joined (log_of logs n) e)

pub record RefusedByPaper : Type 0 where
  pub opening : (row : List Board) (plans : List ℕ) → ByRules (opening_rules (length row) plans) (opening_said (open_answer row plans))
  -- 1 comes before all else for a row handed in
  pub handed-in : (row : List Board) (a : Act) → ((outcome row a).said ≡ refuses 1) ↔ NoStack (plans_in row)
  -- after any opening that is a stack, and any acts
  pub act : (plans : List ℕ) → ¬ NoStack (plans_by plans) → (acts : List Act) (a : Act)
      → ByRules (rules (final taken (begun plans) acts) a) (outcome (final next (opened_row plans) acts) a).said
  -- an act that none refuses enters its board's log, and one that is refused enters none
  pub enters : (logs : List Log) → ¬ NoStack (plans_of logs) → (a : Act) (n : ℕ) (e : Entry) → ActOf n e a → NoneOf (rules logs a) → taken logs a ≡ entered logs n e
  pub leaves : (logs : List Log) → ¬ NoStack (plans_of logs) → (a : Act) (n : ℕ) → 0 < n → FirstOf n (rules logs a) → taken logs a ≡ logs
