-- The latchings of one sample, as the journal has them.
use Rattle.std.proofs.Common.{◌≡◌, ℕ, List, [], ◌∷◌, ap, ◌∙◌, get_or}
use Rattle.lists.specs.Marks.{marked}
use Rattle.latches.specs.Latches.{latch}
use Rattle.journal.specs.Ring.{entered_all, noted}
use Rattle.board.specs.declared.Board.{Board}
use Rattle.board.specs.declared.Note.{Note}
use Rattle.board.specs.Latchings.{cell_of, latchings}
use Rattle.board.specs.Sample.{journaled, entered}
use Rattle.board.specs.Way.{entered_of}
use Rattle.board.proofs.Entering.{noted-causes}
use Rattle.board.proofs.enter.Goals as goal

pub returns : goal.returns
unfolding entered_of entered
returns c =
    let b : Board = c.args.b.now in
    let n : Note = c.args.note in
    let cells : List ℕ = 0 ∷ 0 ∷ n.ov ∷ n.uv ∷ 0 ∷ [] in
    let journal : c.enter.new.self ≡ entered_all b.journal (latchings (λ f. latch f n.up) (cell_of n.ov n.uv) b.samples) =
    c.enter.ensures ∙ ap (λ (byte : ℕ). entered_all b.journal (noted (marked byte) (λ k. get_or cells k 0) b.samples 0 5)) (c.from-causes.ensures ∙ c.byte_of.ensures)
    ∙ ap (entered_all b.journal) (noted-causes n.up n.ov n.uv b.samples) in
    ap (journaled b) journal
