-- `put_told`: the words and the newline, or nothing.
-- Assumes nothing.
use Rattle.std.proofs.Common.{arith}
use Rattle.text.specs.Text.{text_of}
use Rattle.text.proofs.Places.{put-none, put-line}
use Rattle.text.proofs.put_told.Goals as goal
use Rattle.text.proofs.put_told.Goals.{then-out-lt32-via-then-out-lt32, then-out-lt32-via-else-out-lt32+then-out-at}

pub returns-then-out-lt32 : goal.returns-then-out-lt32
returns-then-out-lt32 c = put-none c.args.told
    (elim c.then-out-lt32.branch [ then-out-lt32-via-then-out-lt32 w ↦ omega arith | then-out-lt32-via-else-out-lt32+then-out-at w ↦ omega arith ])

pub returns : goal.returns
unfolding text_of
returns c = put-line c.args.told (omega (arith, c.if-out-at.false)) (rw (c.as_slice.ensures, c.word.ensures, c.words_of-line.ensures.put)) c.put_bytes.ensures
