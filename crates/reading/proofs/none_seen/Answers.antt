use Rattle.std.proofs.Common.{refl}
use Rattle.lists.specs.Every.{every}
use Rattle.lists.specs.Marks.{number}
use Rattle.reading.specs.Way.{some_flag, seen_of}
use Rattle.reading.proofs.none_seen.Goals as goal

pub returns : goal.returns
unfolding seen_of number every some_flag
returns c = refl
