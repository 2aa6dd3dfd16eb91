-- What is reached, the cells, and each fault by itself.
use Rattle.std.proofs.Common.{arith}
use Rattle.garden.specs.Filter.{grow_with}
use Rattle.garden.specs.Way.{grow_by}
use Rattle.garden.proofs.Laws.{device-fits, filtered-latched, filtered-back}
use Rattle.garden.proofs.grow.Goals as goal

pub overflow_sub-ov_inside : goal.overflow_sub-ov_inside
overflow_sub-ov_inside c = rw c.device_of-d.ensures (device-fits c.args.g.row).0

pub overflow_add-uv_inside : goal.overflow_add-uv_inside
overflow_add-uv_inside c = let few = (device-fits c.args.g.row).1 in rw c.device_of-d.ensures (record { fits = omega (arith, few) })

pub returns : goal.returns
unfolding grow_by grow_with
returns c =
    let a = c.args in
    let low = c.reached_of-low.ensures in
    let ov = c.filter-ov_after.ensures in
    let uv = c.filter-uv_after.ensures in
    rw (
      c.is_some.ensures,
      c.is_some-2.ensures,
      c.unwrap_or.ensures,
      c.unwrap_or-2.ensures,
      ov,
      uv,
      filtered-latched,
      filtered-latched,
      filtered-back,
      filtered-back,
      c.count_cells-next.ensures,
      low,
      c.device_of-d.ensures,
    )
