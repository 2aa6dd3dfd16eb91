use Rattle.std.proofs.Common.{◌≡◌, ℕ, ◌+◌, ◌*◌, ◌/◌, ◌%◌, ◌<◌, refl, sym, ◌∙◌, cond, eqb, List, [], ◌∷◌, length, arith, rules}
use lib.IntN.{ℤ}
use Rattle.format.specs.Format.{sample, fields, little, noted, act_bytes}
use Rattle.format.proofs.Sizes.{sample-length}
use Rattle.recorder.specs.Recorder.{answer_of}
use Rattle.recorder.proofs.Pieces.{put-answered, act-length}
use Rattle.recorder.proofs.Samples.{sample-can}
use Rattle.recorder.proofs.Notes.{note-barred, note-left, note-written}
use Rattle.recorder.proofs.note_sample.Goals as goal

size_is : (answer number board elapsed load thermistor status bled : ℕ) (shunt : ℤ) (cells : List ℕ) → answer ≡ cond (eqb number 0) 4 1
    → 14 + 2 * length cells + answer ≡ length (act_bytes (noted (sample board elapsed load thermistor shunt cells) (answer_of number (status ∷ bled ∷ []))))
unfolding fields little
size_is answer number board elapsed load thermistor status bled shunt cells f =
    let long = sample-length board elapsed load thermistor shunt cells in
    let whole = act-length (sample board elapsed load thermistor shunt cells) number (status ∷ bled ∷ []) 3 refl in
    omega (arith, f, long, whole)

-- the status is one byte, and the bled cells are two
values-are : (status bled : ℕ) → status < 256 → status ∷ bled % 256 ∷ bled / 256 % 256 ∷ [] ≡ fields (1 ∷ 2 ∷ []) (status ∷ bled ∷ [])
unfolding fields little
values-are status bled h = let same : status % 256 ≡ status = omega (arith, h) in rw same

pub returns-then-not-sample_fits : goal.returns-then-not-sample_fits
returns-then-not-sample_fits c =
    let a = c.args in
    let can = sample-can a.board a.x.elapsed a.x.load a.x.thermistor a.x.shunt a.cells.now (search rules) (search rules) in
    note-barred a.r c.note_other.result _ _ a.memory.now (sym can ∙ sym c.sample_fits.ensures ∙ c.if-not-sample_fits.true) c.note_other.ensures

pub returns-then-next-ne0 : goal.returns-then-next-ne0
returns-then-next-ne0 c =
    let a = c.args in
    let x = a.x in
    let can = sample-can a.board x.elapsed x.load x.thermistor x.shunt a.cells.now (search rules) (search rules) in
    note-left a.r c.one_more-next.result _ a.memory.now c.one_more-next.ensures _ _ (sym can ∙ sym c.sample_fits.ensures ∙ c.if-not-sample_fits.false)
    (size_is _ a.number a.board x.elapsed x.load x.thermistor a.status a.bled x.shunt a.cells.now c.answer_size.ensures.value) c.if-next-ne0.true

pub returns : goal.returns
returns c =
    let a = c.args in
    let x = a.x in
    let can = sample-can a.board x.elapsed x.load x.thermistor x.shunt a.cells.now (search rules) (search rules) in
    let answer = rw c.to_le_bytes-bled.ensures at c.put_answer.ensures in
    note-written a.r c.one_more-next.result _ a.memory.now c.one_more-next.ensures c.if-next-ne0.false _ (sample a.board x.elapsed x.load x.thermistor x.shunt a.cells.now) a.number (a.status ∷ a.bled ∷ [])
    (sym can ∙ sym c.sample_fits.ensures ∙ c.if-not-sample_fits.false)
    (size_is _ a.number a.board x.elapsed x.load x.thermistor a.status a.bled x.shunt a.cells.now c.answer_size.ensures.value)
    c.put_sample-sent_end.ensures.put
    (put-answered _ (a.status ∷ a.bled ∷ []) _ a.number c.ranges.number.fits (values-are a.status a.bled c.ranges.status.fits) answer)
    c.put_count.ensures
