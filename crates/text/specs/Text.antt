-- The line that answers an act, as its bytes (01, The bench program).
-- Assumes nothing.
use Rattle.std.specs.Prelude.{ℕ, ◌+◌, ◌/◌, ◌%◌, cond, List, [], ◌∷◌, ◌++◌, leb, Result, Ok, Err}
use Prim.Native.Char.{code}
use Prim.Native.String as string
use Rattle.lists.specs.Marks.{bit}
use Rattle.acts.specs.declared.Told.{Told}
use Rattle.acts.specs.declared.Told.TheVariants.{Opened, Status, Reply, Reading}
use Rattle.refusal.specs.declared.Refusal.{Refusal}
use Rattle.refusal.specs.Refusals.{number_of}

-- a word as its bytes
abbrev pub bytes : string.String → List ℕ
bytes string.[] = []
bytes (string.◌∷◌ c s) = code c ∷ bytes s

-- the digit 0 to 9 as its byte
abbrev pub digit : ℕ → ℕ
digit n = 48 + n

-- the digit in a place (10, 100 and so on), of a number that reaches that far
unfoldable pub place_of : ℕ → ℕ → List ℕ
place_of place n = cond (leb place n) (digit (n / place % 10) ∷ []) []

-- decimal, no leading zeros: the last digit always, those before it where the number reaches. No answer has a number of six digits
unfoldable pub decimal : ℕ → List ℕ
decimal n = place_of 10000 n ++ (place_of 1000 n ++ (place_of 100 n ++ (place_of 10 n ++ (digit (n % 10) ∷ []))))

abbrev pub field : string.String → ℕ → List ℕ
field word n = bytes word ++ decimal n

-- an answer as it is printed: a refusal is its number
abbrev pub by_number : Result Told Refusal → Result Told ℕ
by_number (Ok told) = Ok told
by_number (Err why) = Err (number_of why)

-- the words of each answer, as the paper's session shows them; a flag is 1 or 0
unfoldable pub words_of : Result Told ℕ → List ℕ
words_of (Ok Opened) = bytes "ok"
words_of (Err n) = field "no " n
words_of (Ok (Status s)) = field "st " s.status ++ field " bal " s.bled
words_of (Ok (Reply r)) = field "re " r.address ++ (field " " r.register ++ (field " " r.value ++ field " " r.check))
words_of (Ok (Reading w)) =
    field "ln " (bit w.line) ++ (field " chg " (bit w.chg) ++ (field " dsg " (bit w.dsg) ++ (field " at " w.flagged.board ++ field " " w.flagged.cell)))

-- each on a line of its own
unfoldable pub text_of : Result Told ℕ → List ℕ
text_of told = words_of told ++ bytes "\n"
