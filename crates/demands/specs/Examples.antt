-- Orders of nine acts on a stack of two boards, and which of them are shuffles (01, demand 3).
-- Assumes nothing.
use Rattle.std.specs.Prelude.{ℕ, ◌≡◌, Bool, true, false, cond, not, ◌&&◌, List, [], ◌∷◌, pos}
use Rattle.settings.specs.Faults.{SCD}
use Rattle.demands.specs.Paper.{latched}
use Rattle.demands.specs.Acts.{Act, sample, frame, listing, reading, up, final}
use Rattle.demands.specs.Tied.{tied}
use Rattle.demands.specs.Shuffle.{shuffles}
use Rattle.demands.specs.Demands.{Log, begun, log_at, taken, told}

abbrev of : ℕ → Act
of board = sample board (record { elapsed = 1000; shunt = pos 0; thermistor = 2000; load = 0 }) (4000 ∷ 4000 ∷ 4000 ∷ 4000 ∷ 4000 ∷ [])

-- two samples of board 1; a reading and a look whether anything is up between two of board 2; board 3, which there is not; a frame of one byte; and a listing of board 1
abbrev pub nine : List Act
nine = of 1 ∷ of 1 ∷ of 2 ∷ reading ∷ up ∷ of 2 ∷ of 3 ∷ frame (2 ∷ []) [] ∷ listing 1 [] ∷ []

pub record Case : Type 0 where
  pub order : List ℕ
  pub allowed : Bool

abbrev is : List ℕ → Bool → Case
is order allowed = record { order = order; allowed = allowed }

abbrev pub orders : List Case
orders =
    -- as they stood
    is (0 ∷ 1 ∷ 2 ∷ 3 ∷ 4 ∷ 5 ∷ 6 ∷ 7 ∷ 8 ∷ []) true
    -- board 2 before board 1, the look before the reading, the listing before board 2, and what was refused before a board was known anywhere
    ∷ is (7 ∷ 2 ∷ 6 ∷ 0 ∷ 1 ∷ 4 ∷ 3 ∷ 8 ∷ 5 ∷ []) true
    -- board 2 behind the reading, and in front of both; in front of the look alone
    ∷ is (0 ∷ 1 ∷ 3 ∷ 2 ∷ 4 ∷ 5 ∷ 6 ∷ 7 ∷ 8 ∷ []) false
    ∷ is (0 ∷ 1 ∷ 2 ∷ 5 ∷ 3 ∷ 4 ∷ 6 ∷ 7 ∷ 8 ∷ []) false
    ∷ is (0 ∷ 1 ∷ 2 ∷ 3 ∷ 5 ∷ 4 ∷ 6 ∷ 7 ∷ 8 ∷ []) false
    -- the listing in front of the reading
    ∷ is (0 ∷ 1 ∷ 2 ∷ 8 ∷ 3 ∷ 4 ∷ 5 ∷ 6 ∷ 7 ∷ []) false
    -- board 1 past itself
    ∷ is (1 ∷ 0 ∷ 2 ∷ 3 ∷ 4 ∷ 5 ∷ 6 ∷ 7 ∷ 8 ∷ []) false
    -- an act left out; one twice; one that there is not
    ∷ is (0 ∷ 1 ∷ 2 ∷ 3 ∷ 4 ∷ 5 ∷ 6 ∷ 8 ∷ []) false
    ∷ is (0 ∷ 1 ∷ 2 ∷ 3 ∷ 4 ∷ 5 ∷ 6 ∷ 6 ∷ 8 ∷ []) false
    ∷ is (0 ∷ 1 ∷ 2 ∷ 3 ∷ 4 ∷ 5 ∷ 6 ∷ 7 ∷ 8 ∷ 9 ∷ []) false
    ∷ []

abbrev pub right : List Case → Bool
right [] = true
right (c ∷ cases) = cond (shuffles (tied 2) reading nine c.order) c.allowed (not c.allowed) && right cases

-- ---- why they are tied: in another order the reading, the look and the listing say something else, and the board ends otherwise

abbrev trip : Act
trip = sample 1 (record { elapsed = 1000; shunt = pos 60001; thermistor = 2000; load = 1 }) (4000 ∷ 4000 ∷ 4000 ∷ 4000 ∷ 4000 ∷ [])

abbrev start : List Log
start = begun (5 ∷ [])

-- what a reading says after these acts, and whether board 1 is short-circuited
abbrev pub read_after : List Act → List ℕ
read_after acts = (told (final taken start acts) reading).said.values

-- what a look whether anything is up says
abbrev pub up_after : List Act → List ℕ
up_after acts = (told (final taken start acts) up).said.values

-- what stands in a buffer of four words after a listing of board 1
abbrev pub list_after : List Act → List ℕ
list_after acts = (told (final taken start acts) (listing 1 (9 ∷ 9 ∷ 9 ∷ 9 ∷ []))).buffer

abbrev pub short_after : List Act → Bool
short_after acts = let l = log_at (final taken start acts) 0 in latched l.plan SCD l.acts

pub record Matters : Type 0 where
  pub before-reading : read_after (trip ∷ []) ≡ 1 ∷ 0 ∷ 0 ∷ 0 ∷ 0 ∷ []
  pub behind-reading : read_after [] ≡ 0 ∷ 1 ∷ 1 ∷ 0 ∷ 0 ∷ []
  pub before-up : up_after (trip ∷ []) ≡ 1 ∷ 1 ∷ []
  pub behind-up : up_after [] ≡ 0 ∷ 1 ∷ []
  pub before-listing : list_after (trip ∷ []) ≡ 0 ∷ 0 ∷ 1 ∷ 9 ∷ []
  pub behind-listing : list_after [] ≡ 9 ∷ 9 ∷ 9 ∷ 9 ∷ []
  pub then-rest : short_after (trip ∷ of 1 ∷ []) ≡ false
  pub rest-first : short_after (of 1 ∷ trip ∷ []) ≡ true
