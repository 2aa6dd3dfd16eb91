-- A recording read back, field by field from the front (02, ticket 11).
-- Assumes nothing.
use Rattle.std.specs.Prelude.{ℕ, zero, suc, ◌+◌, ◌*◌, ◌-◌, ◌/◌, ◌%◌, ◌≡◌, Bool, true, false, cond, not, ◌&&◌, ◌||◌, List, [], ◌∷◌, ◌++◌, map, eqb, ℤ, pos, negsuc, length, get_or, take, drop}
use Rattle.lists.specs.Compare.{◌above◌, ◌below◌, outside}
use Rattle.lists.specs.Every.{every}
use Rattle.refusal.specs.Said.{Said, Bar, bar, first}
use Rattle.format.specs.Format.{fits, Listed, listed, Sent, sample, frame, reading, Noted, noted, recording, writable}

-- ---- numbers

-- the number in the first so many bytes, the lowest first
unfoldable pub number_in : ℕ → List ℕ → ℕ
number_in zero l = 0
number_in (suc width) l = get_or l 0 0 + 256 * number_in width (drop 1 l)

-- numbers of these widths, one behind the other
unfoldable pub numbers_in : List ℕ → List ℕ → List ℕ
numbers_in [] l = []
numbers_in (w ∷ ws) l = number_in w l ∷ numbers_in ws (drop w l)

-- so many numbers of two bytes
unfoldable pub pairs_in : ℕ → List ℕ → List ℕ
pairs_in zero l = []
pairs_in (suc n) l = number_in 2 l ∷ pairs_in n (drop 2 l)

-- a signed number by its two's complement
abbrev pub signed : ℕ → ℤ
signed n = cond (n below 2147483648) (pos n) (negsuc (4294967295 - n))

-- ---- what stands in the header and in the list of boards

abbrev pub board_count : List ℕ → ℕ
board_count bytes = number_in 2 (drop 2 bytes)

abbrev pub act_count : List ℕ → ℕ
act_count bytes = number_in 4 (drop 4 bytes)

unfoldable pub board_in : List ℕ → Listed
board_in rest = listed (number_in 1 rest) (number_in 1 (drop 1 rest))

unfoldable pub boards_from : ℕ → List ℕ → List Listed
boards_from zero rest = []
boards_from (suc n) rest = board_in rest ∷ boards_from n (drop 2 rest)

unfoldable pub boards_in : List ℕ → List Listed
boards_in bytes = boards_from (board_count bytes) (drop 8 bytes)

-- ---- an act, where `rest` are the bytes from its kind on

abbrev pub kind_in : List ℕ → ℕ
kind_in rest = number_in 1 rest

-- the length of its body, and the body and what is behind it
abbrev pub long_in : List ℕ → ℕ
long_in rest = number_in 1 (drop 1 rest)

abbrev pub sample_in : ℕ → List ℕ → Sent
sample_in long body =
    sample (number_in 1 body) (number_in 4 (drop 1 body)) (number_in 1 (drop 5 body)) (number_in 2 (drop 6 body)) (signed (number_in 4 (drop 8 body)))
    (pairs_in ((long - 12) / 2) (drop 12 body))

abbrev pub sent_by : ℕ → ℕ → List ℕ → Sent
sent_by kind long body = cond (eqb kind 1) (sample_in long body) (cond (eqb kind 2) (frame (take long body)) reading)

unfoldable pub sent_in : List ℕ → Sent
sent_in rest = sent_by (kind_in rest) (long_in rest) (drop 2 rest)

-- the bytes of the answer, and so on; the number of the refusal is the first
abbrev pub answer_from : List ℕ → List ℕ
answer_from rest = drop (2 + long_in rest) rest

abbrev pub number_of : List ℕ → ℕ
number_of rest = number_in 1 (answer_from rest)

-- values stand behind it where it is 0, those of this kind of act
abbrev pub widths_by : ℕ → List ℕ
widths_by kind = cond (eqb kind 1) (1 ∷ 2 ∷ []) (cond (eqb kind 2) (1 ∷ 1 ∷ 1 ∷ 1 ∷ []) (1 ∷ 1 ∷ 1 ∷ 1 ∷ 1 ∷ []))

abbrev pub values_long : ℕ → ℕ → ℕ
values_long kind number = cond (eqb number 0) (cond (eqb kind 1) 3 (cond (eqb kind 2) 4 5)) 0

unfoldable pub answer_in : List ℕ → Said
answer_in rest = record { number = number_of rest; values = numbers_in (cond (eqb (number_of rest) 0) (widths_by (kind_in rest)) []) (drop 1 (answer_from rest)) }

abbrev pub act_in : List ℕ → Noted
act_in rest = noted (sent_in rest) (answer_in rest)

unfoldable pub act_long : List ℕ → ℕ
act_long rest = 3 + long_in rest + values_long (kind_in rest) (number_of rest)

unfoldable pub acts_from : ℕ → List ℕ → List Noted
acts_from zero rest = []
acts_from (suc n) rest = act_in rest ∷ acts_from n (drop (act_long rest) rest)

abbrev pub acts_at : List ℕ → ℕ
acts_at bytes = 8 + 2 * board_count bytes

unfoldable pub acts_in : List ℕ → List Noted
acts_in bytes = acts_from (act_count bytes) (drop (acts_at bytes) bytes)

-- ---- the fields in their order, each tested for cut short, 17, and then for wrong, 18, before the next is looked at

-- a test: the number of a refusal, the byte that it is told at, and its condition
pub record Test : Type 0 where
  pub number : ℕ
  pub at : ℕ
  pub when : Bool

abbrev pub test : ℕ → ℕ → Bool → Test
test n at c = record { number = n; at = at; when = c }

-- a field of `long` bytes that begins `from` bytes behind the byte `at`, where `rest` are the bytes from there on
abbrev pub field : ℕ → List ℕ → ℕ → ℕ → Bool → List Test
field at rest from long wrong = test 17 (at + from) (length rest below from + long) ∷ test 18 (at + from) wrong ∷ []

-- edition 1, 1 to 16 boards, any number of acts
unfoldable pub head_tests : List ℕ → List Test
head_tests bytes =
    field 0 bytes 0 2 (not (eqb (number_in 2 bytes) 1))
    ++ (field 0 bytes 2 2 (outside 1 16 (board_count bytes))
    ++ field 0 bytes 4 4 false)

-- a board: kind 0 or 1, and 5 to 10 cells
unfoldable pub board_tests : ℕ → List ℕ → List Test
board_tests at rest = field at rest 0 1 ((board_in rest).kind above 1) ++ field at rest 1 1 (outside 5 10 (board_in rest).cells)

-- an act's body: of a sample 12 bytes and two for each of any number of cells, of a frame any number, of a reading none
abbrev pub wrong_long : ℕ → ℕ → Bool
wrong_long kind long = cond (eqb kind 1) (long below 12 || not (eqb (long % 2) 0)) (cond (eqb kind 2) false (not (eqb long 0)))

-- an act: its kind, the length of its body, the body, the number of its refusal, which may be any, and the values
unfoldable pub act_tests : ℕ → List ℕ → List Test
act_tests at rest =
    let long = long_in rest in
    field at rest 0 1 (outside 1 3 (kind_in rest))
    ++ (field at rest 1 1 (wrong_long (kind_in rest) long)
    ++ (field at rest 2 long false
    ++ (field at rest (2 + long) 1 false
    ++ field at rest (3 + long) (values_long (kind_in rest) (number_of rest)) false)))

unfoldable pub boards_tests : ℕ → ℕ → List ℕ → List Test
boards_tests zero at rest = []
boards_tests (suc n) at rest = board_tests at rest ++ boards_tests n (at + 2) (drop 2 rest)

-- and after the last act nothing is left, 19
unfoldable pub acts_tests : ℕ → ℕ → List ℕ → List Test
acts_tests zero at rest = test 19 at (length rest above 0) ∷ []
acts_tests (suc n) at rest = act_tests at rest ++ acts_tests n (at + act_long rest) (drop (act_long rest) rest)

unfoldable pub read_tests : List ℕ → List Test
read_tests bytes = head_tests bytes ++ (boards_tests (board_count bytes) 8 (drop 8 bytes) ++ acts_tests (act_count bytes) (acts_at bytes) (drop (acts_at bytes) bytes))

-- the refusals of a reading as rows of a table, and the first
abbrev pub bar_of : Test → Bar
bar_of t = bar t.number t.when

abbrev pub read_bars : List ℕ → List Bar
read_bars bytes = map bar_of (read_tests bytes)

abbrev pub reads : List ℕ → Bool
reads bytes = eqb (first (read_bars bytes)) 0

-- ---- reading is exact, both ways

-- boards as an opening of recordable kinds has them
abbrev pub board_fine : Listed → Bool
board_fine b = not (b.kind above 1) && not (outside 5 10 b.cells)

abbrev pub boards_fine : List Listed → Bool
boards_fine boards = not (outside 1 16 (length boards)) && every board_fine boards

-- every recording is read without refusal, and as its boards and acts
abbrev pub ReadBack : Type 0
ReadBack = (boards : List Listed) (acts : List Noted) → boards_fine boards ≡ true → writable boards acts ≡ true
    → let bytes = recording boards acts in (reads bytes ≡ true) × (boards_in bytes ≡ boards) × (acts_in bytes ≡ acts)

-- and of any bytes that are read without refusal, writing what was read gives these very bytes; it can be written
abbrev pub WrittenAgain : Type 0
WrittenAgain = (bytes : List ℕ) → every (fits 1) bytes ≡ true → reads bytes ≡ true
    → (recording (boards_in bytes) (acts_in bytes) ≡ bytes) × (writable (boards_in bytes) (acts_in bytes) ≡ true) × (boards_fine (boards_in bytes) ≡ true)
