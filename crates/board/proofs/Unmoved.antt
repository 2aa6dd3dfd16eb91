-- A quiet sample is in range, changes nothing of the board but the last sample and its number, and bleeds no cell: it is answered from the record.
-- Assumes nothing.
use Prim.Native.Nat.{ℕ}
use mathlib.Core.Path.{◌≡◌, refl, sym, ap, ◌∙◌}
use mathlib.Core.Bool.{Bool, true, false, not, ◌&&◌}
use mathlib.Core.List.{List}
use lib.Dec.{ltb, eqb}
use borrow.Author.Tests.{eqb-true}
use Rattle.lists.proofs.Split.{split, both, not_yes}
use Rattle.refusal.specs.Said.{accepts}
use Rattle.settings.specs.Levels.{ocd_level, scd_level}
use Rattle.settings.specs.Faults.{SCD, OCD, delay}
use Rattle.runs.specs.Stored.{run_next}
use Rattle.runs.proofs.Laws.{none-stood}
use Rattle.lists.specs.Marks.{number}
use Rattle.cells.specs.declared.Swept.{Swept}
use Rattle.cells.specs.Cells.{span_of}
use Rattle.cells.specs.Way.{calm_of}
use Rattle.cells.proofs.Stays.{calm-readable, calm-sweep}
use Rattle.latches.specs.Latches.{latches, latches_byte, any_latch}
use Rattle.latches.specs.Control.{control_next}
use Rattle.latches.specs.Tallies.{tallies_next}
use Rattle.latches.proofs.Tallied.{none-latched}
use Rattle.std.specs.Prelude.{Ok}
use Rattle.board.specs.declared.Board.{Board}
use Rattle.board.specs.declared.Readings.{Readings}
use Rattle.board.specs.Shunt.{shunt_above, shunt_outside}
use Rattle.board.specs.Plan.{is_host, is_garden}
use Rattle.board.specs.Host.{last_of}
use Rattle.board.specs.Sample.{currents_next, latches_next, hot, swept_at, latches_after, risen_by, control_with, board_with, stood_cell, runs_next, board_next, sample_values, answer_saying, out_of_range}
use Rattle.board.specs.Latchings.{number_next}
use Rattle.board.specs.Way.{clear, idle, currents_below, warm, quiet_of, keeping, rested_of}
use Rattle.board.proofs.Entering.{nothing-entered}

module _ (b : Board) (x : Readings) (mv : List ℕ) (q : quiet_of b x (span_of mv) ≡ true) where
  -- its parts
  abbrev calmly : Bool
  calmly = calm_of b.working b.cells (span_of mv)

  abbrev after₄ : Bool
  after₄ = not (shunt_outside x.shunt) && not (ltb 1 x.load)

  abbrev after₃ : Bool
  after₃ = warm x && after₄

  abbrev after₂ : Bool
  after₂ = currents_below b x && after₃

  abbrev after₁ : Bool
  after₁ = calmly && after₂

  abbrev no_latch_flag : Bool
  no_latch_flag = eqb b.latches 0 && eqb b.flags 0

  nothing-kept : (clear b && idle b) ≡ true
  unfolding quiet_of
  nothing-kept = (both (clear b && idle b) after₁ q).0

  rest₁ : after₁ ≡ true
  unfolding quiet_of
  rest₁ = (both (clear b && idle b) after₁ q).1

  calm : calmly ≡ true
  calm = (both calmly after₂ rest₁).0

  rest₂ : after₂ ≡ true
  rest₂ = (both calmly after₂ rest₁).1

  rest₃ : after₃ ≡ true
  rest₃ = (both (currents_below b x) after₃ rest₂).1

  rest₄ : after₄ ≡ true
  rest₄ = (both (warm x) after₄ rest₃).1

  is-clear : clear b ≡ true
  is-clear = (both (clear b) (idle b) nothing-kept).0

  no-garden : is_garden b.kind ≡ false
  no-garden = not_yes (is_garden b.kind) (both (not (is_garden b.kind)) no_latch_flag is-clear).0

  nothing-up : no_latch_flag ≡ true
  nothing-up = (both (not (is_garden b.kind)) no_latch_flag is-clear).1

  no-latch : b.latches ≡ 0
  no-latch = eqb-true b.latches 0 (both (eqb b.latches 0) (eqb b.flags 0) nothing-up).0

  no_flag : b.flags ≡ 0
  no_flag = eqb-true b.flags 0 (both (eqb b.latches 0) (eqb b.flags 0) nothing-up).1

  no-ocd-run : b.currents.ocd ≡ 0
  no-ocd-run = eqb-true b.currents.ocd 0 (both (eqb b.currents.ocd 0) (eqb b.currents.scd 0) (both (clear b) (idle b) nothing-kept).1).0

  no-scd-run : b.currents.scd ≡ 0
  no-scd-run = eqb-true b.currents.scd 0 (both (eqb b.currents.ocd 0) (eqb b.currents.scd 0) (both (clear b) (idle b) nothing-kept).1).1

  abbrev over-ocd : Bool
  over-ocd = shunt_above (ocd_level b.working) x.shunt

  abbrev over-scd : Bool
  over-scd = shunt_above (scd_level b.working) x.shunt

  no-ocd : over-ocd ≡ false
  no-ocd = not_yes over-ocd (both (not over-ocd) (not over-scd) (both (currents_below b x) after₃ rest₂).0).0

  no-scd : over-scd ≡ false
  no-scd = not_yes over-scd (both (not over-ocd) (not over-scd) (both (currents_below b x) after₃ rest₂).0).1

  not-hot : hot x ≡ false
  not-hot = not_yes (hot x) (both (not (hot x)) (not (ltb 5000 x.thermistor)) (both (warm x) after₄ rest₃).0).0

  not-high : ltb 5000 x.thermistor ≡ false
  not-high = not_yes (ltb 5000 x.thermistor) (both (not (hot x)) (not (ltb 5000 x.thermistor)) (both (warm x) after₄ rest₃).0).1

  inside : shunt_outside x.shunt ≡ false
  inside = not_yes (shunt_outside x.shunt) (both (not (shunt_outside x.shunt)) (not (ltb 1 x.load)) rest₄).0

  a-flag : ltb 1 x.load ≡ false
  a-flag = not_yes (ltb 1 x.load) (both (not (shunt_outside x.shunt)) (not (ltb 1 x.load)) rest₄).1

  -- what the sample makes of the board
  swept : swept_at b x mv ≡ record { cells = b.cells; flags = 0; bled = 0; ov_stood = 0; uv_stood = 0 }
  swept = rw no_flag (calm-sweep b.working x.elapsed b.cells mv calm)

  unlatched : latches_after b x mv ≡ latches (λ _. false)
  unfolding latches_next currents_next run_next
  unlatched = rw (swept, no-latch, no-ocd, no-scd, not-hot, none-stood (delay SCD b.working), none-stood (delay OCD b.working))

  same-currents : currents_next b.working b.currents x ≡ b.currents
  unfolding currents_next run_next
  same-currents = rw (no-ocd, no-scd) (λ i. record { ocd = sym no-ocd-run i; scd = sym no-scd-run i })

  -- nothing latches, so register 1 stays
  same-control : control_with b (latches_after b x mv) ≡ b.control
  unfolding control_next
  same-control = rw unlatched (split (is_host b.kind) (λ e. rw e) (λ e. rw e))

  same-tallies : tallies_next (risen_by b (latches_after b x mv)) b.tallies ≡ b.tallies
  same-tallies = rw unlatched (sym (none-latched (latches (λ f. false)) b.tallies refl))

  stepped-only : board_with b x mv (latches_after b x mv) (last_of x mv) ≡ keeping b (last_of x mv)
  unfolding board_with latches_byte number
  stepped-only =
      let byte = ap latches_byte unlatched ∙ sym no-latch in
      let flags = ap (λ (w : Swept). w.flags) swept ∙ sym no_flag in
      let cells = ap (λ (w : Swept). w.cells) swept in
      λ i. record {
        count = b.count;
        latches = byte i;
        cycles = b.cycles;
        kind = b.kind;
        flags = flags i;
        working = b.working;
        staged = b.staged;
        currents = same-currents i;
        cells = cells i;
        last = last_of x mv;
        control = same-control i;
        garden = b.garden;
        tallies = same-tallies i;
        samples = number_next b.samples;
        journal = b.journal;
      }

  -- and nothing is entered
  nothing-risen : any_latch (risen_by b (latches_after b x mv)) ≡ false
  nothing-risen = rw unlatched

  kept-board : runs_next b x mv ≡ keeping b (last_of x mv)
  kept-board =
      let left = latches_after b x mv in
      nothing-entered (board_with b x mv left (last_of x mv)) (risen_by b left) (stood_cell (swept_at b x mv)) nothing-risen ∙ stepped-only

  pub in-range : out_of_range x mv ≡ false
  in-range = rw (calm-readable b.working b.cells mv calm, not-high, inside, a-flag)

  -- so it is answered from the record
  pub rested : (Ok (rested_of b x (span_of mv)).answer ≡ answer_saying (accepts (sample_values b x mv))) × ((rested_of b x (span_of mv)).board ≡ board_next b x mv)
  unfolding rested_of
  rested = (rw (no-garden, same-control, unlatched, no-latch, ap (λ (w : Swept). w.bled) swept), rw no-garden (sym kept-board))
