-- On the way over the cells of one board: sets of cells as numbers, and cells with which nothing is the matter.
-- That the sweep and the look at a sample come to what Cells says is shown in the proofs; nobody need believe these.
-- Assumes nothing.
use Rattle.std.specs.Prelude.{ℕ, ◌+◌, ◌*◌, Bool, cond, not, ◌&&◌, ◌||◌, List, ltb, eqb, length}
use Rattle.lists.specs.Every.{every}
use Rattle.settings.specs.declared.Settings.{Settings}
use Rattle.settings.specs.Levels.{ov_release, uv_release}
use Rattle.lists.specs.Marks.{marked}
use Rattle.cells.specs.declared.Cell.{Cell}
use Rattle.cells.specs.declared.Span.{Span}

-- a number of cells with one more below them: that one is worth 1, and the others move up
abbrev pub mark_next : Bool → ℕ → ℕ
mark_next marked above = cond marked (2 * above + 1) (2 * above)

-- the cell at a place is flagged, from the numbers of the cells whose OV run has stood, of those that read low and of those flagged before
abbrev pub flag_at : ℕ → ℕ → ℕ → ℕ → Bool
flag_at stands low flags k = marked stands k || (marked flags k && not (marked low k))

-- nothing is the matter with the ten cells that a board keeps, nor was before: no run, and the lowest and the highest where UV and OV let go
abbrev pub no_run : Cell → Bool
no_run c = eqb c.ov 0 && eqb c.uv 0

abbrev pub no_runs : List Cell → Bool
no_runs cells = every no_run cells

unfoldable pub calm_of : Settings → List Cell → Span → Bool
calm_of s cells span = eqb (length cells) 10 && (no_runs cells && (ltb (uv_release s) span.low && ltb span.high (ov_release s)))
