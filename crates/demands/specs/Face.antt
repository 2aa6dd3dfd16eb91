-- The demands of the library for C, over what its acts return and leave (adomvik, Calls): each call is an act of the demands, with its number and its values in the lent place (01, Refusal numbers).
-- Assumes nothing.
use Rattle.std.specs.Prelude.{ℕ, suc, ◌-◌, ◌<◌, ◌≡◌, ◌⊎◌, ◌↔◌, true, cond, List, [], ◌∷◌, map, eqb, length, set}
use Rattle.refusal.specs.Said.{Bar, value}
use Rattle.board.specs.declared.Board.{Board}
use Rattle.board.specs.declared.Readings.{Readings}
use Rattle.board.specs.Sample.{sample_bars, sample_of}
use Rattle.stack.specs.Row.{good_row, board_at}
use Rattle.stack.specs.Open.{open_bars, open_row, count_plans, open_counts_row}
use Rattle.stack.specs.Sample.{sample_answer, sample_row}
use Rattle.stack.specs.Frame.{frame_row, frame_buffer}
use Rattle.stack.specs.List.{list_buffer}
use Rattle.board.specs.declared.Sampled.{Sampled}
use Rattle.adomvik.specs.declared.Reading.{Reading}
use Rattle.adomvik.specs.declared.Up.{Up}
use Rattle.adomvik.specs.Placed.{placed, sampled_of, reading_of, up_in}
use Rattle.adomvik.specs.Calls.{open_number, counts_number, sample_number, sample_out, board_number, board_out, frame_number, list_number, read_number, read_out, up_number, up_out}
use Rattle.demands.specs.Acts.{Act, sample, frame, listing, reading, up, Outcome, bars, outcome, next, opened_row, final, answers}
use Rattle.demands.specs.Shuffle.{picked, Shuffle}
use Rattle.demands.specs.Tied.{tied}
use Rattle.demands.specs.Table.{FirstIs, NoneHolds}
use Rattle.demands.specs.Demands.{Log, begun, row_given, taken, told, opens}

-- ---- a call, and what comes of it

-- adomvik_sample by the board's number, adomvik_sample_board on the record at a place of the row, counted from 0, adomvik_frame, adomvik_list with the place of the count that the header adds, adomvik_read, adomvik_up; each with what it is lent beside the row
pub data Call : Type 0 where
  sample_call : ℕ → Readings → List ℕ → Sampled → Call
  record_call : ℕ → Readings → List ℕ → Sampled → Call
  frame_call : List ℕ → List ℕ → Call
  list_call : ℕ → List ℕ → ℕ → Call
  read_call : Reading → Call
  up_call : Up → Call

-- what is lent beside the row
pub data Place : Type 0 where
  in_sample : Sampled → Place
  in_reply : List ℕ → Place
  in_list : List ℕ → ℕ → Place
  in_reading : Reading → Place
  in_up : Up → Place

abbrev pub lent : Call → Place
lent (sample_call n x mv out) = in_sample out
lent (record_call at x mv out) = in_sample out
lent (frame_call bytes buffer) = in_reply buffer
lent (list_call n words count) = in_list words count
lent (read_call out) = in_reading out
lent (up_call out) = in_up out

-- the number that a call returns, and what is lent after it
pub record Returned : Type 0 where
  pub number : ℕ
  pub place : Place

abbrev pub returned : ℕ → Place → Returned
returned n p = record { number = n; place = p }

-- what adomvik_list returns is 256 more than a refusal's number, or how many entries there are; the header takes it apart
abbrev pub returns : List Board → Call → Returned
returns row (sample_call n x mv out) = returned (sample_number row n x mv) (in_sample (sample_out row n x mv out))
returns row (record_call at x mv out) = returned (board_number (board_at row at) x mv) (in_sample (board_out (board_at row at) x mv out))
returns row (frame_call bytes buffer) = returned (frame_number row bytes buffer) (in_reply (frame_buffer row bytes buffer))
returns row (list_call n words count) = let r = list_number row n words in returned (r - 256) (in_list (list_buffer row n words) (cond (eqb (r - 256) 0) r count))
returns row (read_call out) = returned (read_number row) (in_reading (read_out row out))
returns row (up_call out) = returned (up_number row) (in_up (up_out row out))

-- the row after it
abbrev pub leaves : List Board → Call → List Board
leaves row (sample_call n x mv out) = sample_row row n x mv
leaves row (record_call at x mv out) = set row at (sample_of (board_at row at) x mv).board
leaves row (frame_call bytes buffer) = frame_row row bytes buffer
leaves row (list_call n words count) = row
leaves row (read_call out) = row
leaves row (up_call out) = row

-- ---- the act that a call is, and the outcome of that act as C gets it: its number, and its values in the place unless it is refused

abbrev pub act_of : Call → Act
act_of (sample_call n x mv out) = sample n x mv
act_of (record_call at x mv out) = sample (suc at) x mv
act_of (frame_call bytes buffer) = frame bytes buffer
act_of (list_call n words count) = listing n words
act_of (read_call out) = reading
act_of (up_call out) = up

abbrev pub in_c : Call → Outcome → Returned
in_c (sample_call n x mv out) o = returned o.said.number (in_sample (placed o.said out (sampled_of o.said)))
in_c (record_call at x mv out) o = returned o.said.number (in_sample (placed o.said out (sampled_of o.said)))
in_c (frame_call bytes buffer) o = returned o.said.number (in_reply o.buffer)
in_c (list_call n words count) o = returned o.said.number (in_list o.buffer (placed o.said count (value 0 o.said)))
in_c (read_call out) o = returned o.said.number (in_reading (placed o.said out (reading_of o.said)))
in_c (up_call out) o = returned o.said.number (in_up (placed o.said out (up_in o.said)))

-- a record that is lent by itself is one of the row
abbrev pub OfRow : ℕ → Call → Type 0
OfRow boards (sample_call n x mv out) = Unit {0}
OfRow boards (record_call at x mv out) = at < boards
OfRow boards (frame_call bytes buffer) = Unit {0}
OfRow boards (list_call n words count) = Unit {0}
OfRow boards (read_call out) = Unit {0}
OfRow boards (up_call out) = Unit {0}

abbrev pub AllOfRow : ℕ → List Call → Type 0
AllOfRow boards [] = Unit {0}
AllOfRow boards (c ∷ calls) = OfRow boards c × AllOfRow boards calls

pub record SameActs : Type 0 where
  -- an opening returns 0 exactly if there is a plan for each record and the plans open a stack, and then its row is the opened one, whatever stood in the records
  pub opening : (row : List Board) (plans : List ℕ) → (open_number row plans ≡ 0) ↔ ((length row ≡ length plans) × (opens plans ≡ true))
  pub opened : (row : List Board) (plans : List ℕ) → open_number row plans ≡ 0 → open_row row plans ≡ opened_row plans
  -- an opening from bare counts is one by the plans of stand-alone boards
  pub from-counts : (row : List Board) (counts : List ℕ) → (counts_number row counts ≡ open_number row (count_plans counts)) × (open_counts_row row counts ≡ open_row row (count_plans counts))
  -- a sample of the record at a place is the sample of that board of the row
  pub record-sampled : (row : List Board) → good_row row ≡ true → (at : ℕ) → at < length row → (x : Readings) (mv : List ℕ)
      → ((sample_of (board_at row at) x mv).answer ≡ sample_answer row (suc at) x mv) × (set row at (sample_of (board_at row at) x mv).board ≡ sample_row row (suc at) x mv)
  -- a call is its act
  pub call : (row : List Board) → good_row row ≡ true → (c : Call) → OfRow (length row) c
      → (returns row c ≡ in_c c (outcome row (act_of c))) × (leaves row c ≡ next row (act_of c))

-- ---- demand 1

-- the rows of the table that a call meets; that of one record by itself knows no row of boards and no number
abbrev pub bars_of : List Board → Call → List Bar
bars_of row (sample_call n x mv out) = bars row (sample n x mv)
bars_of row (record_call at x mv out) = sample_bars (board_at row at) x mv
bars_of row (frame_call bytes buffer) = bars row (frame bytes buffer)
bars_of row (list_call n words count) = bars row (listing n words)
bars_of row (read_call out) = bars row reading
bars_of row (up_call out) = bars row up

-- the numbers that a call may return beside 0
abbrev pub numbers : Call → List ℕ
numbers (sample_call n x mv out) = 1 ∷ 2 ∷ 3 ∷ 4 ∷ 5 ∷ []
numbers (record_call at x mv out) = 1 ∷ 3 ∷ 4 ∷ 5 ∷ []
numbers (frame_call bytes buffer) = 1 ∷ 6 ∷ 7 ∷ 8 ∷ 2 ∷ 9 ∷ 10 ∷ 13 ∷ 11 ∷ []
numbers (list_call n words count) = 1 ∷ 2 ∷ 14 ∷ []
numbers (read_call out) = 1 ∷ []
numbers (up_call out) = 1 ∷ []

abbrev pub OneOf : ℕ → List ℕ → Type 0
OneOf n [] = ⊥
OneOf n (m ∷ ms) = (n ≡ m) ⊎ OneOf n ms

-- n exactly if that is the number of the first row that holds, and 0 exactly if none does
pub record NumberBy (rows : List Bar) (number : ℕ) : Type 0 where
  pub refused : (n : ℕ) → 0 < n → (number ≡ n) ↔ FirstIs n rows
  pub accepted : (number ≡ 0) ↔ NoneHolds rows

-- on any row of records, good or damaged
pub record FaceDemand1 (row : List Board) : Type 0 where
  pub by-table : (c : Call) → NumberBy (bars_of row c) (returns row c).number
  pub own-numbers : (c : Call) → OneOf (returns row c).number (0 ∷ numbers c)
  pub unchanged : (c : Call) → 0 < (returns row c).number → (leaves row c ≡ row) × ((returns row c).place ≡ lent c)
  pub opening-by-table : (plans : List ℕ) → NumberBy (open_bars (length row) plans) (open_number row plans)
  pub opening-own-numbers : (plans : List ℕ) → OneOf (open_number row plans) (0 ∷ 1 ∷ [])
  pub opening-unchanged : (plans : List ℕ) → 0 < open_number row plans → open_row row plans ≡ row

-- ---- demand 2: after an opening that returned 0 and any calls, each call returns what the paper tells of its act, and the row is the one that it gives

abbrev pub taken_in : List Log → Call → List Log
taken_in logs c = taken logs (act_of c)

abbrev pub told_in : List Log → Call → Returned
told_in logs c = in_c c (told logs (act_of c))

abbrev pub FaceDemand2 : Type 0
FaceDemand2 = (row : List Board) (plans : List ℕ) → open_number row plans ≡ 0 → (calls : List Call) → AllOfRow (length plans) calls
    → (answers leaves returns (open_row row plans) calls ≡ answers taken_in told_in (begun plans) calls)
    × (final leaves (open_row row plans) calls ≡ row_given (final taken_in (begun plans) calls))

-- ---- demand 3: however the calls are shuffled by what their acts are tied to, each returns what was told of it in the first list

-- what stands past the end of a list of calls, and of what they return; no shuffle names such a place
abbrev pub no_call : Call
no_call = read_call (record { line = 0; chg = 0; dsg = 0; board = 0; cell = 0 })

abbrev pub no_return : Returned
no_return = returned 0 (lent no_call)

abbrev pub FaceDemand3 : Type 0
FaceDemand3 = (row : List Board) (plans : List ℕ) → open_number row plans ≡ 0 → (calls : List Call) → AllOfRow (length plans) calls
    → (order : List ℕ) → Shuffle (tied (length plans)) reading (map act_of calls) order
    → (answers leaves returns (open_row row plans) (picked no_call order calls) ≡ picked no_return order (answers taken_in told_in (begun plans) calls))
    × (final leaves (open_row row plans) (picked no_call order calls) ≡ final leaves (open_row row plans) calls)
