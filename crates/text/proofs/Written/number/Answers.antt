-- `number`: the digits of the places so far are written.
-- Assumes nothing.
use Rattle.std.proofs.Common.{◌≡◌, sym, ◌∙◌, arith, append_assoc, append-nil}
use lib.ListN.{length-append}
use Rattle.text.proofs.Decimal.{reached, reached-more, reached-all, place-there, place_none, all_places}
use Rattle.text.proofs.Written.number.Goals as goal
use Rattle.text.proofs.Written.number.Goals.{then-place-n, else-place-n}

pub loop-place-init : goal.loop-place-init
unfolding reached
loop-place-init c = (sym (append-nil _), omega arith)

pub digit-requires : goal.digit-requires
digit-requires c = (omega arith, omega arith)

pub loop-place-preserved : goal.loop-place-preserved
loop-place-preserved c =
    let h = c.loop-place in
    let more = reached-more c.args.n h.place-index all_places c.loop-place-test.true in
    elim c.if-place-n.branch [
      | then-place-n w ↦ (w.self-is ∙ w.digit.ensures ∙ rw (h.invariant.0, more, place-there _ _ w.if-place-n.true, append_assoc), rw (w.self-is, w.digit.ensures, length-append) (omega arith))
      | else-place-n w ↦ (w.self-is ∙ rw (h.invariant.0, more, place_none _ _ w.if-place-n.false, append-nil), rw w.self-is (omega arith))
    ]

pub returns-clause-put : goal.returns-clause-put
returns-clause-put c =
    let h = c.loop-place in
    let all : h.place-index ≡ 4 = omega arith in
    c.digit-2.ensures ∙ rw (h.invariant.0, all, append_assoc, reached-all)
