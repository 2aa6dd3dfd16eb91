-- What is shown of the small garden packs (02, ticket 5): that a cell's run or count sees no other cell, for every kind of board; and that latched or not is as
-- before the sample.
-- Assumes nothing.
use Rattle.std.specs.Prelude.{ℕ, ◌<◌, ◌≤◌, ◌≡◌, Bool, true, false, cond, not, ◌&&◌, List, ◌∷◌}
use Rattle.lists.specs.Compare.{◌above◌, ◌below◌}
use Rattle.settings.specs.declared.Settings.{Settings}
use Rattle.settings.specs.Levels.{ov_level, uv_level}
use Rattle.settings.specs.Faults.{Fault, SCD, OCD, OV, UV, OT}
use Rattle.runs.specs.Stored.{run_next}
use Rattle.cells.specs.Cells.{reading_at}
use Rattle.board.specs.declared.Readings.{Readings}
use Rattle.board.specs.declared.Plan.{Plan}
use Rattle.board.specs.Plan.{is_garden}
use Rattle.demands.specs.Paper.{sampled, framed, History, working, spends, sample_of, counted, past_level, inside, counts, device, filter, latched, kept}

-- ---- locality

-- the condition of a fault of cells, of one reading by itself
abbrev pub reads_past : Fault → Settings → ℕ → Bool
reads_past SCD s v = false
reads_past OCD s v = false
reads_past OV s v = v above ov_level s
reads_past UV s v = v below uv_level s
reads_past OT s v = false

-- a cell's run or count after a sample: of the kind and the table row, the fault, the working settings, the elapsed time, the cell's own reading and its own run
-- or count before. No other cell is in sight
abbrev pub own_next : Plan → Fault → Settings → ℕ → ℕ → ℕ → ℕ
own_next p f s elapsed reading old = cond (is_garden p.kind) (counts (past_level (device p f) f reading) old) (run_next old (reads_past f s reading) elapsed)

-- for a fault of cells, at any place
pub record Local (p : Plan) (f : Fault) (k : ℕ) (h : History) : Type 0 where
  -- across an accepted sample while the fault stays unlatched
  pub samples : (x : Readings) (mv : List ℕ) → latched p f h ≡ false → latched p f (sampled x mv ∷ h) ≡ false
      → kept p f k (sampled x mv ∷ h) ≡ own_next p f (working h) x.elapsed (reading_at mv k) (kept p f k h)
  -- across a frame: a spent cycle starts a run over, and nothing else touches it
  pub frames : (address register v : ℕ) → let e = framed address register v in
      kept p f k (e ∷ h) ≡ cond (not (is_garden p.kind) && spends e h) 0 (kept p f k h)

-- ---- latched or not is as before the sample: no sample both latches and lets go

pub record Before (p : Plan) (f : Fault) (h : History) : Type 0 where
  -- one that latches the fault has not every cell inside
  pub latches-outside : (x : Readings) (mv : List ℕ) → (filter p f h).latched ≡ false → (filter p f (sampled x mv ∷ h)).latched ≡ true
      → inside p.cells (device p f) f (sample_of x mv) ≡ false
  -- and one that lets it go has no cell past the level
  pub lets-go-within : (x : Readings) (mv : List ℕ) → (filter p f h).latched ≡ true → (filter p f (sampled x mv ∷ h)).latched ≡ false
      → (k : ℕ) → k < p.cells → past_level (device p f) f (reading_at mv k) ≡ false

-- of every plan; and of every trigger but 0, which no good plan has
abbrev pub Locality : Type 0
Locality = (p : Plan) (f : Fault) (k : ℕ) (h : History) → counted f ≡ true → Local p f k h

abbrev pub AsBefore : Type 0
AsBefore = (p : Plan) (f : Fault) (h : History) → 1 ≤ p.trigger → Before p f h
