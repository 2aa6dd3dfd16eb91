-- What latched is entered behind the step: where nothing did the board stays, and a cell counts only where its fault latched.
-- Assumes nothing.
use Prim.Native.Nat.{ℕ}
use mathlib.Core.Path.{◌≡◌, sym, ap}
use mathlib.Core.Bool.{true, false}
use mathlib.Core.List.{[], ◌∷◌}
use lib.ListN.{get_or}
use Rattle.lists.proofs.Split.{split}
use Rattle.settings.specs.Faults.{Fault, OV, UV}
use Rattle.latches.specs.declared.Latches.{Latches}
use Rattle.latches.specs.Latches.{latch, latches_byte, any_latch}
use Rattle.lists.specs.Marks.{marked}
use Rattle.latches.proofs.Tallied.{none_of}
use Rattle.latches.proofs.Packed.{latches-kept}
use Rattle.journal.specs.Ring.{noted}
use Rattle.board.specs.declared.Board.{Board}
use Rattle.board.specs.declared.Note.{Note}
use Rattle.board.specs.Latchings.{cell_of, latchings}
use Rattle.board.specs.Sample.{entered}
use Rattle.board.specs.Way.{lowest_if, entered_of, entering}

-- no latching of a sample at which nothing latched
none-noted : (up : Latches) (cell : Fault → ℕ) (number : ℕ) → any_latch up ≡ false → latchings (λ f. latch f up) cell number ≡ []
unfolding latchings
none-noted up cell number h =
    let none = none_of up.scd up.ocd up.ov up.uv up.ot h in
    rw (none.0, none.1, none.2, none.3, none.4)

pub nothing-entered : (b : Board) (up : Latches) (cell : Fault → ℕ) → any_latch up ≡ false → entered b up cell ≡ b
unfolding entered
nothing-entered b up cell h = rw (none-noted up cell b.samples h)

-- where anything latched it is entered, and where nothing did the board is as it would be
pub entering-is : (b : Board) (note : Note) → entering b note ≡ entered b note.up (cell_of note.ov note.uv)
unfolding entered_of
entering-is b note = split (any_latch note.up) (λ e. rw e) (λ e. rw e (sym (nothing-entered b note.up (cell_of note.ov note.uv) e)))

-- ---- the cells of faults that did not latch do not count
pub noted-cells : (b : Board) (up : Latches) (ov uv : ℕ) → entered b up (cell_of (lowest_if (latch OV up) ov) (lowest_if (latch UV up) uv)) ≡ entered b up (cell_of (lowest_if true ov) (lowest_if true uv))
unfolding entered latchings
noted-cells b up ov uv = split up.ov (λ o. split up.uv (λ u. rw (o, u)) (λ u. rw (o, u))) (λ o. split up.uv (λ u. rw (o, u)) (λ u. rw (o, u)))

-- ---- as the journal has them: the causes as a set, from b0 up, and the cell of each
pub noted-causes : (up : Latches) (ov uv number : ℕ)
    → noted (marked (latches_byte up)) (λ k. get_or (0 ∷ 0 ∷ ov ∷ uv ∷ 0 ∷ []) k 0) number 0 5 ≡ latchings (λ f. latch f up) (cell_of ov uv) number
unfolding noted latchings
noted-causes up ov uv number = ap (λ (t : Latches). latchings (λ f. latch f t) (cell_of ov uv) number) (latches-kept up)
