-- The row at its place, or the first.
use Rattle.garden.proofs.Laws.{row_at}
use Rattle.garden.proofs.device_of.Goals as goal

pub returns : goal.returns
returns c = rw (c.unwrap_or.ensures, c.copied.ensures, ← c.from.ensures) (row_at c.get.result c.from.result c.get.ensures.lookup)
