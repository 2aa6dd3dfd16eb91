-- Refused, or listed into the buffer.
use Rattle.std.proofs.Common.{◌≡◌, ◌*◌, ap, true, false, length, arith, Ok}
use borrow.Author.Tests.{lt-ltb, le-ltb}
use Rattle.journal.proofs.Laws.{listing-short}
use Rattle.stack.specs.Way.{entries_in, too_long, listing_in, buffer_in}
use Rattle.stack.proofs.list_board.Goals as goal

pub overflow_mul-listed : goal.overflow_mul-listed
overflow_mul-listed c = let few = listing-short c.args.b.now.journal in record { fits = omega (arith, c.listed.ensures, few) }

pub returns-then-out-listed : goal.returns-then-out-listed
unfolding listing_in buffer_in
returns-then-out-listed c =
    let a = c.args in
    let short : too_long a.b.now a.out.now ≡ true = lt-ltb (length a.out.now) (3 * length (entries_in a.b.now)) (omega (arith, c.if-out-listed.true, c.listed.ensures)) in
    (rw short, rw short)

pub overflow_cast-result : goal.overflow_cast-result
overflow_cast-result c = let few = listing-short c.args.b.now.journal in record { fits = omega (arith, c.put_listing-many.ensures.0, few) }

pub returns : goal.returns
unfolding listing_in buffer_in
returns c =
    let a = c.args in
    let put = c.put_listing-many.ensures in
    let long : too_long a.b.now a.out.now ≡ false = le-ltb (length a.out.now) (3 * length (entries_in a.b.now)) (omega (arith, c.if-out-listed.false, c.listed.ensures)) in
    (rw long (ap Ok put.0), rw long put.1)
