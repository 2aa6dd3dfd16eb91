-- The four bytes of the library are the number's, the lowest first.
-- Assumes nothing.
use Rattle.recorder.proofs.Numbers.{little-four}
use Rattle.recorder.proofs.put_count.Goals as goal

pub returns : goal.returns
returns c = rw (c.to_le_bytes.ensures, little-four, c.from.ensures) at c.put_bytes.ensures
