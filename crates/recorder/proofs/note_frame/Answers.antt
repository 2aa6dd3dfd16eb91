use Rattle.std.proofs.Common.{◌≡◌, ℕ, ◌+◌, ◌≤◌, ◌<◌, true, false, cond, eqb, List, get_or, length, take, arith}
use mathlib.Core.Bool.{and-false}
use borrow.Author.Tests.{le-leb, lt-leb}
use lib.Seq.{length-take-le}
use Rattle.format.specs.Format.{frame, body_of, noted, act_bytes, recordable}
use Rattle.recorder.specs.Recorder.{answer_of, frame_can}
use Rattle.recorder.proofs.Pieces.{byte-fields, first-bytes, put-answered, act-length}
use Rattle.recorder.proofs.Notes.{note-barred, note-left, note-written}
use Rattle.recorder.proofs.note_frame.Goals as goal

too_long : (bytes reply : List ℕ) → 255 < length bytes → frame_can bytes reply ≡ false
unfolding recordable body_of
too_long bytes reply p = rw (lt-leb (length bytes) 255 p)

too-little : (bytes reply : List ℕ) → length reply < 4 → frame_can bytes reply ≡ false
too-little bytes reply p = rw (lt-leb 4 (length reply) p, and-false)

can : (bytes reply : List ℕ) → length bytes ≤ 255 → 4 ≤ length reply → frame_can bytes reply ≡ true
unfolding recordable body_of
can bytes reply p q = rw (le-leb (length bytes) 255 p, le-leb 4 (length reply) q)

size_is : (answer number : ℕ) (bytes reply : List ℕ) → 4 ≤ length reply → ((i : ℕ) → get_or reply i 0 < 256) → answer ≡ cond (eqb number 0) 5 1
    → 2 + length bytes + answer ≡ length (act_bytes (noted (frame bytes) (answer_of number (take 4 reply))))
unfolding body_of
size_is answer number bytes reply p h f =
    let four : length (take 4 reply) ≡ 4 = length-take-le 4 reply p in
    let whole = act-length (frame bytes) number (take 4 reply) 4 (rw (← byte-fields 4 (take 4 reply) four (first-bytes 4 reply h)) four) in
    omega (arith, f, whole)

pub returns-then-bytes-gt255 : goal.returns-then-bytes-gt255
returns-then-bytes-gt255 c =
    let a = c.args in
    note-barred a.r c.note_other.result _ _ a.memory.now (too_long a.bytes.now a.reply.now c.if-bytes-gt255.true) c.note_other.ensures

pub returns-then-reply-lt4 : goal.returns-then-reply-lt4
returns-then-reply-lt4 c =
    let a = c.args in
    note-barred a.r c.note_other-then-reply-lt4.result _ _ a.memory.now (too-little a.bytes.now a.reply.now c.if-reply-lt4.true) c.note_other-then-reply-lt4.ensures

pub returns-then-next-ne0 : goal.returns-then-next-ne0
returns-then-next-ne0 c =
    let a = c.args in
    note-left a.r c.one_more-next.result _ a.memory.now c.one_more-next.ensures _ _ (can a.bytes.now a.reply.now c.if-bytes-gt255.false c.if-reply-lt4.false)
    (size_is _ a.number a.bytes.now a.reply.now c.if-reply-lt4.false (λ i. (c.type_inv.reply i).fits) c.answer_size.ensures.value) c.if-next-ne0.true

pub returns : goal.returns
returns c =
    let a = c.args in
    let four : length (take 4 a.reply.now) ≡ 4 = length-take-le 4 a.reply.now c.if-reply-lt4.false in
    note-written a.r c.one_more-next.result _ a.memory.now c.one_more-next.ensures c.if-next-ne0.false _ (frame a.bytes.now) a.number (take 4 a.reply.now)
    (can a.bytes.now a.reply.now c.if-bytes-gt255.false c.if-reply-lt4.false)
    (size_is _ a.number a.bytes.now a.reply.now c.if-reply-lt4.false (λ i. (c.type_inv.reply i).fits) c.answer_size.ensures.value)
    c.put_frame-sent_end.ensures.put
    (put-answered _ (take 4 a.reply.now) (take 4 a.reply.now) a.number c.ranges.number.fits (byte-fields 4 (take 4 a.reply.now) four (first-bytes 4 a.reply.now (λ i. (c.type_inv.reply i).fits))) c.put_answer.ensures)
    c.put_count.ensures
