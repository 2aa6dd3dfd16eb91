-- On the way to a recorded act: what was sent, and its answer by itself. Nothing here is to be believed.
-- Assumes nothing.
use Rattle.std.specs.Prelude.{ℕ, Bool, false, cond, ◌&&◌, List, [], ◌++◌, eqb, ltb, length}
use Rattle.lists.specs.Every.{every}
use Rattle.format.specs.Format.{little, fits, Sent, kind_of, body_of, fields}

-- of a sample, what can be too large: its elapsed time and its shunt have four bytes, as the program's numbers have
abbrev pub sample_fits : ℕ → ℕ → ℕ → List ℕ → Bool
sample_fits board load thermistor cells = cond (ltb 121 (length cells)) false (fits 1 board && fits 1 load && fits 2 thermistor && every (fits 2) cells)

-- kind, body length and body
unfoldable pub sent_bytes : Sent → List ℕ
sent_bytes s = little 1 (kind_of s) ++ (little 1 (length (body_of s)) ++ body_of s)

-- a number and, where it is 0, values of these widths
unfoldable pub answered : List ℕ → ℕ → List ℕ → List ℕ
answered widths number values = little 1 number ++ cond (eqb number 0) (fields widths values) []
