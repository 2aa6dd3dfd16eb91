-- `flag`: the word, and the flag as a digit.
-- Assumes nothing.
use Rattle.std.proofs.Common.{append_assoc}
use Rattle.text.proofs.Decimal.{flag-digit}
use Rattle.text.proofs.Written.flag.Goals as goal

pub returns-clause-put : goal.returns-clause-put
returns-clause-put c = rw (flag-digit c.args.flag, c.digit.ensures, c.word.ensures, c.from.ensures, append_assoc)
