use Rattle.std.proofs.Common.{◌∙◌, sym, ap, set}
use Rattle.std.proofs.lemmas.List.{get_or_default}
use Rattle.board.specs.declared.Board.{Board}
use Rattle.board.specs.Sample.{fresh, sample_of}
use Rattle.stack.specs.Way.{sample_answer_at, sample_row_at}
use Rattle.stack.proofs.Ways.{checked-good, row-refused, place-found, place-refused, sample-good, sample-bad}
use Rattle.stack.proofs.sample_stack.Goals as goal

pub returns-in_err-check_row : goal.returns-in_err-check_row
returns-in_err-check_row c =
    let a = c.args in
    let bad = row-refused a.row.now _ _ (sym c.check_row.ensures ∙ c.in_err-check_row.was) c.from_residual.ensures.1 in
    let told = sample-bad a.row.now a.board a.x a.mv.now bad.0 in
    (bad.1 ∙ told.0, told.1)

pub returns-in_err-at : goal.returns-in_err-at
unfolding sample_answer_at sample_row_at
returns-in_err-at c =
    let a = c.args in
    let none = place-refused a.row.now a.board _ _ (sym c.place_in.ensures.value ∙ c.in_err-at.was) c.from_residual-in_err-at.ensures.1 in
    let told = sample-good a.row.now (checked-good a.row.now (sym c.check_row.ensures ∙ c.in_ok-check_row.was)) a.board a.x a.mv.now in
    (none.1 ∙ (rw none.0 at told.0), rw none.0 at told.1)

pub returns : goal.returns
unfolding sample_answer_at sample_row_at
returns c =
    let a = c.args in
    let found = place-found a.row.now a.board _ (sym c.place_in.ensures.value ∙ c.in_ok-at.was) in
    let told = sample-good a.row.now (checked-good a.row.now (sym c.check_row.ensures ∙ c.in_ok-check_row.was)) a.board a.x a.mv.now in
    let at = c.in_ok-at.at in
    let came = λ (b : Board). sample_of b a.x a.mv.now in
    let there = get_or_default a.row.now at _ (fresh 0) c.in_ok-at.ensures.inside in
    (c.sample_board.ensures.0 ∙ ap (λ b. (came b).answer) there ∙ (rw (found.0, found.1) at told.0), ap (set a.row.now at) (c.sample_board.ensures.1 ∙ ap (λ b. (came b).board) there) ∙ (rw (found.0, found.1) at told.1))
