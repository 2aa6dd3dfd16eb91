-- What was seen is enough where no cell is flagged, and else the flagged cell is sought.
use Rattle.std.proofs.Common.{◌≡◌, ◌∙◌, ap, sym, Bool, true, false, cond}
use Rattle.reading.specs.Reading.{place}
use Rattle.reading.specs.Way.{seen_row, first_from, whole_of, read_row}
use Rattle.reading.proofs.read_row.Goals as goal
use Rattle.reading.proofs.read_row.Goals.{then-seen, else-seen}

pub returns : goal.returns
unfolding read_row
returns c =
    let row = c.args.row.now in
    let seen = c.see_row-seen.ensures in
    let flag : (t : Bool) → c.see_row-seen.result.flagged ≡ t → (seen_row row).flagged ≡ t = λ t e. ap (λ s. s.flagged) (sym seen) ∙ e in
    let told : c.if-seen.flagged ≡ cond (seen_row row).flagged (first_from 0 row) (place 0 0) =
    elim c.if-seen.branch [
      | then-seen w ↦ w.flagged-is ∙ w.first_flagged-flagged.ensures ∙ rw (flag true w.if-seen.true)
      | else-seen w ↦ w.flagged-is ∙ w.no_place-flagged.ensures ∙ rw (flag false w.if-seen.false)
    ]
    in
    c.read_all.ensures ∙ λ i. whole_of (seen i) (told i)
