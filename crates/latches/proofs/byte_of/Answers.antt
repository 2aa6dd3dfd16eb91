use Rattle.latches.proofs.Packed.{bool-bit, byte-sum}
use Rattle.latches.proofs.byte_of.Goals as goal

pub returns : goal.returns
returns c = rw (byte-sum, c.from-5.ensures, c.from-4.ensures, c.from-3.ensures, c.from-2.ensures, c.from.ensures) (simp bool-bit)
