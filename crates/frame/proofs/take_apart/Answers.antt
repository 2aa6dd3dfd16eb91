-- `take_apart`: each way out answers by the tests passed, in the order of the table.
-- Assumes nothing.
use Rattle.std.proofs.Common.{◌≡◌, ◌≢◌, length, arith}
use borrow.Author.Tests.{lt-ltb, le-ltb, eq-eqb, ne_eqb}
use Rattle.frame.specs.Way.{taken_apart}
use Rattle.frame.proofs.take_apart.Goals as goal

pub returns-in_default : goal.returns-in_default
unfolding taken_apart
returns-in_default c = let other : length c.args.frame.now ≢ 4 = omega arith in rw (ne_eqb _ _ other)

pub returns-in_default-2 : goal.returns-in_default-2
unfolding taken_apart
returns-in_default-2 c = let other : length c.args.frame.now ≢ 4 = omega arith in rw (ne_eqb _ _ other)

pub returns-then-room-lt4 : goal.returns-then-room-lt4
unfolding taken_apart
returns-then-room-lt4 c = let four : length c.args.frame.now ≡ 4 = omega arith in rw (eq-eqb _ _ four, lt-ltb _ _ c.if-room-lt4.true)

pub returns-then-check-check_byte : goal.returns-then-check-check_byte
unfolding taken_apart
returns-then-check-check_byte c =
    let four : length c.args.frame.now ≡ 4 = omega arith in
    rw (eq-eqb _ _ four, le-ltb _ _ c.if-room-lt4.false, ← c.check_byte.ensures, ne_eqb _ _ c.if-check-check_byte.true)

pub returns : goal.returns
unfolding taken_apart
returns c =
    let four : length c.args.frame.now ≡ 4 = omega arith in
    rw (eq-eqb _ _ four, le-ltb _ _ c.if-room-lt4.false, ← c.check_byte.ensures, eq-eqb _ _ c.if-check-check_byte.false)
