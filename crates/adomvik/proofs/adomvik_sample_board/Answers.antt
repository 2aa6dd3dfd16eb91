use Rattle.std.proofs.Common.{◌∙◌, refl, ap}
use Rattle.adomvik.specs.Placed.{sampled_of, number_in, placed_in}
use Rattle.adomvik.proofs.Laws.{number-is, put-is}
use Rattle.board.specs.Sample.{sampled_values, sample_of}
use Rattle.adomvik.specs.Calls.{board_number, board_out}
use Rattle.adomvik.proofs.adomvik_sample_board.Goals as goal

pub returns : goal.returns
unfolding board_number board_out
returns c =
    let a = c.args in
    let is = c.sample_board.ensures in
    let s = (sample_of a.b.now a.x a.cells.now).answer in (
      c.place.ensures.0 ∙ ap number_in is.0 ∙ number-is sampled_values s,
      (is.1, c.place.ensures.1 ∙ ap (placed_in a.out.now) is.0 ∙ put-is sampled_values sampled_of (λ s. refl) a.out.now s),
    )
