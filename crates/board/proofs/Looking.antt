-- What comes of a look at a sample is the sample: a refused one has its answer, a quiet one is answered from the record, and any other is stepped
-- by the kind of its board.
-- Assumes nothing.
use Prim.Native.Nat.{ℕ}
use mathlib.Core.Path.{◌≡◌, sym, ap, ◌∙◌}
use mathlib.Core.Bool.{Bool, true, false, cond}
use mathlib.Core.List.{List}
use lib.Dec.{eqb}
use Rattle.std.specs.Prelude.{Result, Ok, Err}
use Rattle.refusal.specs.declared.Refusal.{Refusal}
use Rattle.refusal.specs.Said.{accepts, first}
use Rattle.lists.proofs.Split.{split}
use Rattle.cells.specs.declared.Span.{Span}
use Rattle.cells.specs.Cells.{span_of}
use Rattle.settings.specs.Faults.{OV, UV}
use Rattle.latches.specs.declared.Latches.{Latches}
use Rattle.latches.specs.Latches.{latch, latches_of}
use Rattle.garden.proofs.Laws.{grow-by}
use Rattle.board.specs.declared.Board.{Board}
use Rattle.board.specs.declared.Readings.{Readings}
use Rattle.board.specs.declared.Found.{Found}
use Rattle.board.specs.declared.Found.TheVariants.{Quiet, Grows, Changes}
use Rattle.board.specs.Plan.{is_garden}
use Rattle.board.specs.Host.{last_of, status_by}
use Rattle.board.specs.Sample.{answer_saying, sample_values, control_with, sample_bars, attached, swept_at, risen_by, board_with, entered, stood_cell, grown_at, garden_next, garden_status, runs_next, runs_status, board_next, sample_of, Stepped}
use Rattle.board.specs.Way.{sampled, quiet_of, look_of, rested_of, accepted_by, grown_by, grown_of, entered_by}
use Rattle.board.proofs.Laws.{latches-by}
use Rattle.board.proofs.Entering.{entering-is, noted-cells}
use Rattle.board.proofs.Unmoved.{rested}

module _ (b : Board) (x : Readings) (mv : List ℕ) where
  abbrev span : Span
  span = span_of mv

  -- what a finding comes to
  abbrev pub comes_to : Result Found Refusal → Stepped
  comes_to (Err why) = record { board = b; answer = Err why }
  comes_to (Ok (Quiet s)) = let r = rested_of b x s in record { board = r.board; answer = Ok r.answer }
  comes_to (Ok (Grows s)) = let r = grown_of b x s mv in record { board = entered_by r; answer = Ok r.note.answer }
  comes_to (Ok (Changes s)) = let r = accepted_by b x s mv in record { board = entered_by r; answer = Ok r.note.answer }

  -- each fault's cells are inside exactly if the lowest and the highest are
  grown-at : grown_by b x span mv ≡ grown_at b x mv
  grown-at = grow-by b.garden b.cells (latch OV (latches_of b.latches)) (latch UV (latches_of b.latches)) (attached x) mv

  -- the sample of a board that is a garden board or not
  abbrev sample_by : Bool → Stepped
  sample_by garden =
      record {
        board = cond garden (garden_next b x mv) (runs_next b x mv);
        answer = Ok (sampled (cond garden (garden_status b x mv) (runs_status b x mv)) (cond garden 0 (swept_at b x mv).bled));
      }

  grows : comes_to (Ok (Grows span)) ≡ sample_by true
  unfolding grown_of
  grows = let r = grown_of b x span mv in rw (entering-is r.board r.note, grown-at)

  -- the board by the latches that the sample leaves
  abbrev changed : Latches → Board
  changed left = entered (board_with b x mv left (last_of x mv)) (risen_by b left) (stood_cell (swept_at b x mv))

  changes : comes_to (Ok (Changes span)) ≡ sample_by false
  unfolding accepted_by
  changes =
      let r = accepted_by b x span mv in
      let cells = noted-cells r.board r.note.up (swept_at b x mv).ov_stood (swept_at b x mv).uv_stood in
      rw (entering-is r.board r.note) (λ i. record { board = (cells ∙ ap changed (latches-by b x mv)) i; answer = Ok (sampled (status_by b.kind (control_with b (latches-by b x mv i)) (latches-by b x mv i)) (swept_at b x mv).bled) })

  quiets : quiet_of b x span ≡ true → comes_to (Ok (Quiet span)) ≡ record { board = board_next b x mv; answer = answer_saying (accepts (sample_values b x mv)) }
  quiets q = let all = rested b x mv q in λ i. record { board = all.1 i; answer = all.0 i }

  pub look-is : comes_to (look_of b x mv) ≡ sample_of b x mv
  unfolding look_of sample_of
  look-is =
      split (eqb (first (sample_bars b x mv)) 0)
      (λ e. rw e (split (quiet_of b x span) (λ q. rw q (quiets q)) (λ q. rw q (split (is_garden b.kind) (λ k. rw k grows) (λ k. rw k changes)))))
      (λ e. rw (e, e))

  -- a finding, wherever the look gives it
  pub look-comes : (f : Result Found Refusal) → look_of b x mv ≡ f → ((comes_to f).answer ≡ (sample_of b x mv).answer) × ((comes_to f).board ≡ (sample_of b x mv).board)
  look-comes f e = let s = ap comes_to (sym e) ∙ look-is in (λ i. (s i).answer, λ i. (s i).board)
