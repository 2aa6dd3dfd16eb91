-- `check_next`: two halves are the eight shifts.
-- Assumes nothing.
use Rattle.std.proofs.Common.{ap, ◌∙◌, rules}
use lib.Bits.{bit_xor, xor_lt}
use Rattle.frame.specs.Check.{checked}
use Rattle.frame.specs.Way.{half_next}
use Rattle.frame.proofs.Halves.{by-halves}
use Rattle.frame.proofs.check_next.Goals as goal

pub returns : goal.returns
unfolding checked
returns c =
    let a = c.args in
    let less = xor_lt 8 a.r a.byte (search rules) (search rules) in
    c.half_next.ensures ∙ ap (half_next a.table.now) c.half_next-half.ensures ∙ by-halves a.table.now c.requires (bit_xor a.r a.byte) less
