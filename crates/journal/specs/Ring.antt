-- The journal of a board: its last 128 latchings in a ring, and their listing, oldest first (02, ticket 8).
-- Assumes nothing.
use Rattle.std.specs.Prelude.{ℕ, zero, suc, ◌+◌, ◌-◌, ◌*◌, ◌/◌, ◌%◌, min, Bool, cond, List, [], ◌∷◌, ◌++◌, length, get_or, set, drop, replicate}
use Rattle.lists.specs.Each.{each}
use Rattle.journal.specs.declared.Journal.{Journal}

-- an entry: what latched, as a byte, and the number of the sample
pub record Entry : Type 0 where
  pub number : ℕ
  pub what : ℕ

abbrev pub entry : ℕ → ℕ → Entry
entry number what = record { number = number; what = what }

-- the cause in the upper half of the byte, the cell in the lower
abbrev pub what : ℕ → ℕ → ℕ
what cause cell = 16 * (cause % 16) + cell % 16

-- a latching, by its cause, its cell and the number of the sample
abbrev pub latching : ℕ → ℕ → ℕ → Entry
latching cause cell number = entry number (what cause cell)

-- ---- the ring as it is kept; a record may hold any bytes, so where the next goes is a remainder, and no more than 128 are there
abbrev pub here : Journal → ℕ
here j = j.next % 128

abbrev pub held : Journal → ℕ
held j = min 128 j.len

abbrev pub kept : Journal → ℕ → Entry
kept j at = entry (get_or j.numbers at 0) (get_or j.whats at 0)

-- a board at its start has entered nothing
unfoldable pub no_entries : Journal
no_entries = record { numbers = replicate 128 0; whats = replicate 128 0; next = 0; len = 0 }

-- one entry more goes where the next goes, which in a full ring is over the oldest
unfoldable pub entered : Journal → Entry → Journal
entered j e =
    record {
      numbers = set j.numbers (here j) e.number;
      whats = set j.whats (here j) e.what;
      next = (here j + 1) % 128;
      len = min 128 (j.len + 1);
    }

-- entries one after the other, the first of the list first
abbrev pub entered_all : Journal → List Entry → Journal
entered_all j [] = j
entered_all j (e ∷ es) = entered_all (entered j e) es

-- of n causes from the i-th on, each that latched: its cell, and the number of the sample
unfoldable pub noted : (ℕ → Bool) → (ℕ → ℕ) → ℕ → ℕ → ℕ → List Entry
noted up cell number i zero = []
noted up cell number i (suc n) = cond (up i) (latching i (cell i) number ∷ noted up cell number (i + 1) n) (noted up cell number (i + 1) n)

-- ---- the listing begins with the oldest, which stands as far behind the next as there are entries, round the ring
abbrev pub place_at : Journal → ℕ → ℕ
place_at j k = (here j + (128 - held j) + k) % 128

unfoldable pub listing : Journal → List Entry
listing j = each 0 (held j) (λ k. kept j (place_at j k))

-- the last n of a list, or all of it where it has no more
abbrev pub latest : ℕ → List Entry → List Entry
latest n es = drop (length es - n) es

-- ---- the listing in a lent buffer, three words for each entry: cause, cell and number; the words past them stay
unfoldable pub words : List Entry → List ℕ
words [] = []
words (e ∷ es) = e.what / 16 ∷ e.what % 16 ∷ e.number ∷ words es

abbrev pub words_over : List Entry → List ℕ → List ℕ
words_over es buffer = words es ++ drop (3 * length es) buffer
