-- A recording of a day, byte by byte, as another shop would write it (02, ticket 10).
-- Assumes nothing.
use Rattle.std.specs.Prelude.{ℕ, zero, suc, ◌-◌, ◌/◌, ◌%◌, ◌^◌, ◌≡◌, Bool, true, false, cond, ◌&&◌, List, [], ◌∷◌, ◌++◌, eqb, ℤ, pos, negsuc, length}
use Rattle.lists.specs.Compare.{◌below◌, ◌at_or_below◌}
use Rattle.lists.specs.Every.{every}
use Rattle.refusal.specs.Said.{Said}

-- ---- numbers

-- a number in so many bytes, the lowest first
unfoldable pub little : ℕ → ℕ → List ℕ
little zero n = []
little (suc width) n = n % 256 ∷ little width (n / 256)

-- one after the other
abbrev pub all_bytes : {A : Type 0} → (A → List ℕ) → List A → List ℕ
all_bytes bytes [] = []
all_bytes bytes (x ∷ xs) = bytes x ++ all_bytes bytes xs

-- the largest that so many bytes hold is one less than this
abbrev pub fits : ℕ → ℕ → Bool
fits width n = n below 256 ^ width

-- a signed number in four bytes is its two's complement (negsuc k is -(k + 1)); it fits from -2,147,483,648 to 2,147,483,647
abbrev pub twos : ℤ → ℕ
twos (pos n) = n
twos (negsuc k) = 4294967295 - k

abbrev pub fits_signed : ℤ → Bool
fits_signed (pos n) = n below 2147483648
fits_signed (negsuc k) = k below 2147483648

-- ---- the header: edition 1, how many boards, how many acts; then the kind and the cells of each board, 0 stand-alone and 1 host

pub record Listed : Type 0 where
  pub kind : ℕ
  pub cells : ℕ

abbrev pub listed : ℕ → ℕ → Listed
listed kind cells = record { kind = kind; cells = cells }

unfoldable pub header : ℕ → ℕ → List ℕ
header boards acts = little 2 1 ++ (little 2 boards ++ little 4 acts)

unfoldable pub board_bytes : Listed → List ℕ
board_bytes b = little 1 b.kind ++ little 1 b.cells

-- ---- an act: what was sent, and the answer that was given, which is the number of a refusal, or 0 and values

pub data Sent : Type 0 where
  sample : (board elapsed load thermistor : ℕ) (shunt : ℤ) (cells : List ℕ) → Sent
  frame : List ℕ → Sent
  reading : Sent

pub record Noted : Type 0 where
  pub sent : Sent
  pub answer : Said

abbrev pub noted : Sent → Said → Noted
noted s a = record { sent = s; answer = a }

abbrev pub kind_of : Sent → ℕ
kind_of (sample board elapsed load thermistor shunt cells) = 1
kind_of (frame bytes) = 2
kind_of reading = 3

unfoldable pub body_of : Sent → List ℕ
body_of (sample board elapsed load thermistor shunt cells) =
    little 1 board ++ (little 4 elapsed ++ (little 1 load ++ (little 2 thermistor ++ (little 4 (twos shunt) ++ all_bytes (little 2) cells))))
body_of (frame bytes) = bytes
body_of reading = []

-- the bytes of each value that an accepted act answers: status and bled cells; the reply; line, CHG, DSG, board and cell
abbrev pub widths : Sent → List ℕ
widths (sample board elapsed load thermistor shunt cells) = 1 ∷ 2 ∷ []
widths (frame bytes) = 1 ∷ 1 ∷ 1 ∷ 1 ∷ []
widths reading = 1 ∷ 1 ∷ 1 ∷ 1 ∷ 1 ∷ []

unfoldable pub fields : List ℕ → List ℕ → List ℕ
fields [] vs = []
fields (w ∷ ws) [] = []
fields (w ∷ ws) (v ∷ vs) = little w v ++ fields ws vs

-- a refused act answers its number alone
abbrev pub valued : Sent → Said → List ℕ
valued s a = cond (eqb a.number 0) (widths s) []

unfoldable pub answer_bytes : Sent → Said → List ℕ
answer_bytes s a = little 1 a.number ++ fields (valued s a) a.values

unfoldable pub act_bytes : Noted → List ℕ
act_bytes n = little 1 (kind_of n.sent) ++ (little 1 (length (body_of n.sent)) ++ (body_of n.sent ++ answer_bytes n.sent n.answer))

-- ---- the whole: header, boards, acts

unfoldable pub recording : List Listed → List Noted → List ℕ
recording boards acts = header (length boards) (length acts) ++ (all_bytes board_bytes boards ++ all_bytes act_bytes acts)

-- ---- what can be recorded: every field within its bytes, and a body of 255 bytes at most

abbrev pub fields_fit : Sent → Bool
fields_fit (sample board elapsed load thermistor shunt cells) = fits 1 board && fits 4 elapsed && fits 1 load && fits 2 thermistor && fits_signed shunt && every (fits 2) cells
fields_fit (frame bytes) = true
fields_fit reading = true

unfoldable pub recordable : Sent → Bool
recordable s = fields_fit s && (length (body_of s) at_or_below 255)

-- an answer that an act can get: a number in one byte and, of an accepted act, as many values as it has, each within its bytes
abbrev pub values_fit : List ℕ → List ℕ → Bool
values_fit [] [] = true
values_fit [] (v ∷ vs) = false
values_fit (w ∷ ws) [] = false
values_fit (w ∷ ws) (v ∷ vs) = fits w v && values_fit ws vs

unfoldable pub answer_fits : Sent → Said → Bool
answer_fits s a = fits 1 a.number && values_fit (valued s a) a.values

-- ---- what can be written: counts within their bytes, and every board, act and answer

abbrev pub board_fits : Listed → Bool
board_fits b = fits 1 b.kind && fits 1 b.cells

abbrev pub act_fits : Noted → Bool
act_fits n = recordable n.sent && answer_fits n.sent n.answer

abbrev pub writable : List Listed → List Noted → Bool
writable boards acts = fits 2 (length boards) && fits 4 (length acts) && every board_fits boards && every act_fits acts

-- there the encoding is one-to-one: equal bytes are of equal boards, acts and answers
abbrev pub OneToOne : Type 0
OneToOne = (boards boards' : List Listed) (acts acts' : List Noted) → writable boards acts ≡ true → writable boards' acts' ≡ true
    → recording boards acts ≡ recording boards' acts' → (boards ≡ boards') × (acts ≡ acts')
