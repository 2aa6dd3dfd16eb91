use Rattle.std.proofs.Common.{◌≡◌, ℕ, ◌+◌, ◌<◌, refl, sym, ap, ◌∙◌, true, cond, eqb, List, get_or, length, rules}
use Rattle.format.specs.Format.{reading, body_of, noted, act_bytes}
use Rattle.recorder.specs.Recorder.{answer_of}
use Rattle.recorder.proofs.Pieces.{byte-fields, put-answered, act-length}
use Rattle.recorder.proofs.Notes.{note-left, note-written}
use Rattle.recorder.proofs.note_reading.Goals as goal

size_is : (answer number : ℕ) (seen : List ℕ) → length seen ≡ 5 → ((i : ℕ) → get_or seen i 0 < 256) → answer ≡ cond (eqb number 0) 6 1 → 2 + answer ≡ length (act_bytes (noted reading (answer_of number seen)))
unfolding body_of
size_is answer number seen five h e = ap (λ (n : ℕ). 2 + n) e ∙ sym (act-length reading number seen 5 (rw (← byte-fields 5 seen five h) five))

pub returns-then-next-ne0 : goal.returns-then-next-ne0
returns-then-next-ne0 c =
    let a = c.args in
    let five : length a.seen ≡ 5 = search rules in
    let small : (i : ℕ) → get_or a.seen i 0 < 256 = λ i. search rules in
    note-left a.r c.one_more-next.result _ a.memory.now c.one_more-next.ensures true _ refl (size_is _ a.number a.seen five small c.answer_size-size.ensures.value) c.if-next-ne0.true

pub returns : goal.returns
returns c =
    let a = c.args in
    let five : length a.seen ≡ 5 = search rules in
    let small : (i : ℕ) → get_or a.seen i 0 < 256 = λ i. search rules in
    note-written a.r c.one_more-next.result _ a.memory.now c.one_more-next.ensures c.if-next-ne0.false true reading a.number a.seen refl
    (size_is _ a.number a.seen five small c.answer_size-size.ensures.value)
    c.put_read-sent_end.ensures.put (put-answered _ a.seen a.seen a.number c.ranges.number.fits (byte-fields 5 a.seen five small) c.put_answer.ensures) c.put_count.ensures
