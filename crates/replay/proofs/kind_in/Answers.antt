-- An act that reading did not stop at has a kind.
-- Assumes nothing.
use Rattle.std.proofs.Common.{ap, ◌∙◌}
use Rattle.lists.specs.Compare.{outside}
use Rattle.reader.proofs.Told.{known}
use Rattle.replay.proofs.kind_in.Goals as goal

pub unwrap-requires : goal.unwrap-requires
unwrap-requires c = known c.byte_at.result c.try_from.result c.try_from.ensures (ap (outside 1 3) c.byte_at.ensures ∙ c.requires.known)
