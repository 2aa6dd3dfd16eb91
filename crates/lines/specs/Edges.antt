-- Lines at the edges of the language, and what each says.
-- Assumes nothing.
use Rattle.std.specs.Prelude.{ℕ, zero, suc, ◌≡◌, refl, Bool, true, false, List, [], ◌∷◌, ◌++◌, map, take, replicate}
use Prim.Native.Char.{code}
use Prim.Native.String.{String, [] as none, ◌∷◌ as ◌and◌}
use Rattle.lists.specs.Every.{every}
use Rattle.lines.specs.declared.Kind.{Kind}
use Rattle.lines.specs.declared.Kind.TheVariants.{Open, Sample, Frame, Read, Malformed}
use Rattle.lines.specs.declared.Line.{Line}
use Rattle.lines.specs.Lines.{pieces}
use Rattle.lines.specs.Line.{worth, starts_well, is_number, negative, unsigned, is_field, letter, kind_of, all_fields, obeys, any_negative, blank, malformed, said, words_say, line_of}

-- the bytes of what is typed, and the same n times over
abbrev typed : String → List ℕ
typed none = []
typed (c and s) = code c ∷ typed s

abbrev times : ℕ → String → List ℕ
times zero s = []
times (suc n) s = typed s ++ times n s

-- kind, whether the shunt is negative, and the numbers
pub record Says : Type 0 where
  pub kind : Kind
  pub minus : Bool
  pub numbers : List ℕ

abbrev pub heard : Line → Says
heard l = record { kind = l.kind; minus = l.minus; numbers = take l.count l.numbers }

-- a line, and what it says
pub record Edge : Type 0 where
  pub line : List ℕ
  pub says : Says

abbrev is : List ℕ → Kind → List ℕ → Edge
is line k xs = record { line = line; says = record { kind = k; minus = false; numbers = xs } }

abbrev charging : List ℕ → List ℕ → Edge
charging line xs = record { line = line; says = record { kind = Sample; minus = true; numbers = xs } }

abbrev bad : List ℕ → Edge
bad line = is line Malformed []

abbrev pub edges : List Edge
edges =
    bad (typed "")
    ∷ bad (typed "r")
    ∷ is (typed "R") Read []
    ∷ bad (typed "R ")
    ∷ bad (typed "R\r")
    ∷ is (typed "O") Open []
    ∷ is (typed "O 5") Open (5 ∷ [])
    ∷ bad (typed "O  5")
    ∷ bad (typed "O 05")
    ∷ is (typed "O 2147483647") Open (2147483647 ∷ [])
    ∷ bad (typed "O 2147483648")
    -- 200 bytes, of whose 99 numbers 21 are kept, and 201
    ∷ is (typed "O 10" ++ times 98 " 5") Open (10 ∷ replicate 20 5)
    ∷ bad (typed "O" ++ times 100 " 5")
    ∷ charging (typed "S 1 1 0 0 -1 5") (1 ∷ 1 ∷ 0 ∷ 0 ∷ 1 ∷ 5 ∷ [])
    ∷ bad (typed "S 1 1 0 0 -0 5")
    ∷ bad (typed "S 1 1 0 -1 1 5")
    ∷ bad (typed "S 1 1 0 0")
    -- 16 cells, and 17
    ∷ is (typed "S 1 1 0 0 0" ++ times 16 " 5") Sample (1 ∷ 1 ∷ 0 ∷ 0 ∷ 0 ∷ replicate 16 5)
    ∷ bad (typed "S 1 1 0 0 0" ++ times 17 " 5")
    ∷ is (typed "F 255") Frame (255 ∷ [])
    ∷ bad (typed "F 256")
    ∷ bad (typed "F" ++ times 17 " 5")
    ∷ []

pub edges-right : map (λ e. heard (line_of e.line)) edges ≡ map (λ e. e.says) edges
unfolding pieces worth starts_well is_number negative unsigned is_field letter kind_of all_fields obeys any_negative blank malformed said words_say line_of every
edges-right = refl
