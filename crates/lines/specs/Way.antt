-- On the way to a line of the input: what is kept of a line that has not ended, and what is read at a place of some bytes. That these
-- come to the lines of Lines and to what Line says of them is shown in proofs; nobody need believe them.
-- Assumes nothing.
use Rattle.std.specs.Prelude.{ℕ, ◌+◌, min, ◌≡◌, cond, Bool, true, false, not, ◌&&◌, List, [], ◌∷◌, ◌++◌, leb, ltb, eqb, length, take, set, replicate, drop, Option, Some, None}
use Prim.Native.Char.{code}
use Rattle.lines.specs.declared.Cutter.{Cutter}
use Rattle.lines.specs.declared.Number.{Number}
use Rattle.lines.specs.declared.Found.{Found}
use Rattle.lines.specs.Lines.{newline, ended, left, up_to}
use Rattle.lines.specs.Line.{is_digit, worth, is_number, line_of}

-- ---- what is kept of a line that has not ended
-- so many bytes of a line are kept, one more than it may have
abbrev pub most : ℕ
most = 201

unfoldable pub clip : List ℕ → List ℕ
clip p = take most p

-- the lines that end in an input that comes in parts, where p is kept, and what is kept in the end
unfoldable pub ended_in : List ℕ → List (List ℕ) → List (List ℕ)
ended_in p [] = []
ended_in p (s ∷ parts) = ended p s ++ ended_in (clip (left p s)) parts

unfoldable pub left_in : List ℕ → List (List ℕ) → List ℕ
left_in p [] = p
left_in p (s ∷ parts) = left_in (clip (left p s)) parts

-- the bytes that a cutter keeps; those behind them are of no account. It has a place more, for the newline
unfoldable pub held : Cutter → List ℕ
held c = take (min c.len most) c.bytes

unfoldable pub nothing : Cutter
nothing = record { bytes = replicate 202 0; len = 0 }

unfoldable pub emptied_of : Cutter → Cutter
emptied_of c = record { bytes = c.bytes; len = 0 }

-- one byte more, while there is room for it
unfoldable pub byte_kept : Cutter → ℕ → Cutter
byte_kept c b = cond (leb most c.len) c (record { bytes = set c.bytes c.len b; len = c.len + 1 })

-- a list of bytes more, first to last
unfoldable pub list_kept : Cutter → List ℕ → Cutter
list_kept c [] = c
list_kept c (b ∷ s) = list_kept (byte_kept c b) s

-- s is kept behind what c keeps
pub record Kept (c : Cutter) (s : List ℕ) (next : Cutter) : Type 0 where
  pub whole : next ≡ list_kept c s
  pub line : held next ≡ clip (held c ++ s)

-- what is kept as a block of one line: bytes with a newline among them are no line, and no more is the empty line that stands for them
unfoldable pub one_line : Cutter → List ℕ
one_line c = cond (ltb (length (up_to (held c))) (length (held c))) [] (held c)

-- with the newline that ends it
unfoldable pub line_ended : Cutter → Cutter
line_ended c = record { bytes = set c.bytes (length (one_line c)) newline; len = length (one_line c) + 1 }

pub record Ended (c next : Cutter) : Type 0 where
  pub whole : next ≡ line_ended c
  pub block : take next.len next.bytes ≡ one_line c ++ (newline ∷ [])

-- ---- what is read at a place of some bytes: the rest of a line, a number or a field in front of it, and the whole line
-- the line from a place on, and where it ends
abbrev pub rest_at : List ℕ → ℕ → List ℕ
rest_at s at = up_to (drop at s)

abbrev pub end_at : List ℕ → ℕ → ℕ
end_at s at = at + length (rest_at s at)

-- the digits in front of some bytes
unfoldable pub digits : List ℕ → List ℕ
digits [] = []
digits (b ∷ t) = cond (is_digit b) (b ∷ digits t) []

-- the digits of a number in front of some bytes: a 0 has no more behind it
unfoldable pub front : List ℕ → List ℕ
front [] = []
front (b ∷ t) = cond (eqb b (code "0")) (b ∷ []) (digits (b ∷ t))

-- a size with its sign, and the place behind it
abbrev pub number : Bool → ℕ → ℕ → Number
number minus size next = record { minus = minus; size = size; next = next }

-- what the digits in front of some bytes make, behind others that come to v
unfoldable pub digits_from : ℕ → Bool → ℕ → ℕ → List ℕ → Option Number
digits_from largest minus at v t = cond (leb (worth v (digits t)) largest) (Some (number minus (worth v (digits t)) (at + length (digits t)))) None

-- the number in front of some bytes that begin at a place, and not 0 behind a minus sign
unfoldable pub number_at : ℕ → Bool → ℕ → List ℕ → Option Number
number_at largest minus at t =
    let w = front t in
    cond (is_number largest w && not (minus && eqb (worth 0 w) 0)) (Some (number minus (worth 0 w) (at + length w))) None

-- the same, with a minus sign where one may stand. Whether a space or the end of the line is next is not asked here
unfoldable pub field_at : ℕ → Bool → ℕ → List ℕ → Option Number
field_at largest signed at [] = None
field_at largest signed at (b ∷ t) =
    cond (eqb b (code "-")) (cond signed (number_at largest true (at + 1) t) None) (number_at largest false at (b ∷ t))

-- the line that begins at a place
unfoldable pub found_at : List ℕ → ℕ → Found
found_at s at = record { line = line_of (rest_at s at); end = end_at s at }
