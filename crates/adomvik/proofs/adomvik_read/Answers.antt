use Rattle.std.proofs.Common.{◌∙◌, refl, ap}
use Rattle.reading.specs.Reading.{whole_said}
use Rattle.stack.specs.Read as stack
use Rattle.adomvik.specs.Placed.{number_in, reading_of, reading_from}
use Rattle.adomvik.specs.Calls.{read_number, read_out}
use Rattle.adomvik.proofs.Laws.{map_ok, mapped, number-is, number_map, placed-is}
use Rattle.adomvik.proofs.adomvik_read.Goals as goal

pub returns : goal.returns
unfolding read_number read_out
returns c =
    let v = stack.reading_of c.args.row.now in
    let is = mapped reading_from c.read_stack.result c.map.result c.map.ensures.cases ∙ ap (map_ok reading_from) c.read_stack.ensures in (
      c.place.ensures.0 ∙ ap number_in is ∙ number_map reading_from v ∙ number-is whole_said v,
      c.place.ensures.1 ∙ placed-is whole_said reading_from reading_of (λ w. refl) c.args.out.now v c.map.result is,
    )
