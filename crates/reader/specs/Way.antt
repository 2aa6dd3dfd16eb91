-- On the way to an act's end: its answer by itself, behind a body that is whole. Nothing here is to be believed.
-- Assumes nothing.
use Rattle.std.specs.Prelude.{ℕ, ◌+◌, cond, List, length, drop}
use Rattle.lists.specs.Compare.{◌below◌}
use Rattle.format.specs.Read.{number_in, values_long}
use Rattle.reader.specs.Reader.{Step, stop}

unfoldable pub answer_step : ℕ → List ℕ → ℕ → ℕ → Step
answer_step at rest kind long =
    let values = values_long kind (number_in 1 (drop (2 + long) rest)) in
    cond (length rest below 2 + long + 1) (stop 17 (at + (2 + long)))
    (cond (length rest below 3 + long + values) (stop 17 (at + (3 + long))) (stop 0 (at + (3 + long + values))))
