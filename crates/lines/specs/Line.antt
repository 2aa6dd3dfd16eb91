-- The line language of the bench: what a line of bytes says, by its words (01, The bench program).
-- Assumes nothing.
use Rattle.std.specs.Prelude.{ℕ, ◌+◌, ◌-◌, ◌*◌, Bool, true, false, cond, not, ◌&&◌, ◌||◌, List, [], ◌∷◌, map, leb, eqb, length, replicate}
use Prim.Native.Char.{code}
use Rattle.std.proofs.lemmas.List.Edits.{sets}
use Rattle.lists.specs.Every.{every}
use Rattle.lines.specs.Lines.{pieces}
use Rattle.lines.specs.declared.Kind.{Kind}
use Rattle.lines.specs.declared.Kind.TheVariants.{Open, Sample, Frame, Read, Malformed}
use Rattle.lines.specs.declared.Rules.{Rules}
use Rattle.lines.specs.declared.Line.{Line}

-- single spaces: the words are the pieces between the spaces, so one space too many gives an empty word, which is no letter and no number
abbrev pub words : List ℕ → List (List ℕ)
words s = pieces (code " ") s

-- ---- a number
-- decimal
abbrev pub is_digit : ℕ → Bool
is_digit b = leb (code "0") b && leb b (code "9")

-- what digits come to, behind others that come to v
unfoldable pub worth : ℕ → List ℕ → ℕ
worth v [] = v
worth v (b ∷ w) = worth (v * 10 + (b - code "0")) w

-- no leading zeros: there is a digit, and a 0 in front is alone
unfoldable pub starts_well : List ℕ → Bool
starts_well [] = false
starts_well (b ∷ w) = not (eqb b (code "0")) || eqb (length w) 0

-- a whole number, not over the largest
unfoldable pub is_number : ℕ → List ℕ → Bool
is_number largest w = starts_well w && (every is_digit w && leb (worth 0 w) largest)

-- ---- a number that may have a sign
-- a minus sign in front
unfoldable pub negative : List ℕ → Bool
negative [] = false
negative (b ∷ w) = eqb b (code "-")

-- the word without it, and what that comes to
unfoldable pub unsigned : List ℕ → List ℕ
unsigned [] = []
unsigned (b ∷ w) = cond (eqb b (code "-")) w (b ∷ w)

abbrev pub size_of : List ℕ → ℕ
size_of w = worth 0 (unsigned w)

-- a minus sign only where one may stand, and never before 0
unfoldable pub is_field : ℕ → Bool → List ℕ → Bool
is_field largest signed w = is_number largest (unsigned w) && (not (negative w) || (signed && not (eqb (size_of w) 0)))

-- ---- a line
-- the letters; no other byte begins a line
unfoldable pub letter : ℕ → Kind
letter b = cond (eqb b (code "O")) Open (cond (eqb b (code "S")) Sample (cond (eqb b (code "F")) Frame (cond (eqb b (code "R")) Read Malformed)))

-- a line begins with one letter as its first word
unfoldable pub kind_of : List ℕ → Kind
kind_of [] = Malformed
kind_of (b ∷ []) = letter b
kind_of (b ∷ c ∷ w) = Malformed

-- what follows a letter: how many fields must stand, how many may, and how large their numbers may be.
-- O any counts, since a line has no room for 100 (the law few-numbers). S board, elapsed, load, thermistor, shunt and at most 16 cells.
-- F at most 16 bytes. R nothing
abbrev pub rules_of : Kind → Rules
rules_of Open = record { head = 0; most = 100; largest = 2147483647 }
rules_of Sample = record { head = 5; most = 21; largest = 2147483647 }
rules_of Frame = record { head = 0; most = 16; largest = 255 }
rules_of Read = record { head = 0; most = 0; largest = 2147483647 }
rules_of Malformed = record { head = 0; most = 0; largest = 2147483647 }

-- the field in place n, counted from 0, may have a minus sign: the shunt is the last of those that must stand
abbrev pub is_shunt : Rules → ℕ → Bool
is_shunt r n = eqb (n + 1) r.head

-- every word from place n on is a field
unfoldable pub all_fields : Rules → ℕ → List (List ℕ) → Bool
all_fields r n [] = true
all_fields r n (w ∷ ws) = is_field r.largest (is_shunt r n) w && all_fields r (n + 1) ws

-- no field missing, none too many and none wrong
unfoldable pub obeys : Rules → List (List ℕ) → Bool
obeys r ws = leb r.head (length ws) && (leb (length ws) r.most && all_fields r 0 ws)

-- a word with a minus sign, which only the shunt can be (the law minus-sample)
unfoldable pub any_negative : List (List ℕ) → Bool
any_negative [] = false
any_negative (w ∷ ws) = negative w || any_negative ws

-- 21 places for numbers, as many as a sample has; an opening of more is refused by how many they are, so the others need none
unfoldable pub blank : List ℕ
blank = replicate 21 0

abbrev pub line_with : Kind → List (List ℕ) → Line
line_with k ws = record { kind = k; minus = any_negative ws; count = length ws; numbers = sets blank 0 (map size_of ws) }

-- a malformed line says nothing else
unfoldable pub malformed : Line
malformed = line_with Malformed []

-- a letter and the words behind it
unfoldable pub said : Kind → List (List ℕ) → Line
said k ws = cond (obeys (rules_of k) ws) (line_with k ws) malformed

unfoldable pub words_say : List (List ℕ) → Line
words_say [] = malformed
words_say (w ∷ ws) = said (kind_of w) ws

-- a line over 200 bytes is malformed
unfoldable pub line_of : List ℕ → Line
line_of s = cond (leb (length s) 200) (words_say (words s)) malformed
