use Rattle.std.proofs.Common.{◌∙◌, refl, ap}
use Rattle.reading.specs.Line.{line_said}
use Rattle.stack.specs.Up as stack
use Rattle.adomvik.specs.Placed.{number_in, up_in, up_from}
use Rattle.adomvik.specs.Calls.{up_number, up_out}
use Rattle.adomvik.proofs.Laws.{map_ok, mapped, number-is, number_map, placed-is}
use Rattle.adomvik.proofs.adomvik_up.Goals as goal

pub returns : goal.returns
unfolding up_number up_out
returns c =
    let v = stack.up_of c.args.row.now in
    let is = mapped up_from c.up_stack.result c.map.result c.map.ensures.cases ∙ ap (map_ok up_from) c.up_stack.ensures in (
      c.place.ensures.0 ∙ ap number_in is ∙ number_map up_from v ∙ number-is line_said v,
      c.place.ensures.1 ∙ placed-is line_said up_from up_in (λ w. refl) c.args.out.now v c.map.result is,
    )
