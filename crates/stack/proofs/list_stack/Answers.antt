use Rattle.std.proofs.Common.{◌∙◌, sym, ap}
use Rattle.std.proofs.lemmas.List.{get_or_default}
use Rattle.board.specs.Sample.{fresh}
use Rattle.stack.specs.Way.{listing_in, buffer_in, list_answer_at, list_buffer_at}
use Rattle.stack.proofs.Ways.{checked-good, row-refused, place-found, place-refused, list-good, list-bad}
use Rattle.stack.proofs.list_stack.Goals as goal

pub returns-in_err-check_row : goal.returns-in_err-check_row
returns-in_err-check_row c =
    let a = c.args in
    let bad = row-refused a.row.now _ _ (sym c.check_row.ensures ∙ c.in_err-check_row.was) c.from_residual.ensures.1 in
    let told = list-bad a.row.now a.board a.out.now bad.0 in
    (bad.1 ∙ told.0, told.1)

pub returns-in_err-at : goal.returns-in_err-at
unfolding list_answer_at list_buffer_at
returns-in_err-at c =
    let a = c.args in
    let none = place-refused a.row.now a.board _ _ (sym c.place_in.ensures.value ∙ c.in_err-at.was) c.from_residual-in_err-at.ensures.1 in
    let told = list-good a.row.now (checked-good a.row.now (sym c.check_row.ensures ∙ c.in_ok-check_row.was)) a.board a.out.now in
    (none.1 ∙ (rw none.0 at told.0), rw none.0 at told.1)

pub returns : goal.returns
unfolding list_answer_at list_buffer_at
returns c =
    let a = c.args in
    let found = place-found a.row.now a.board _ (sym c.place_in.ensures.value ∙ c.in_ok-at.was) in
    let told = list-good a.row.now (checked-good a.row.now (sym c.check_row.ensures ∙ c.in_ok-check_row.was)) a.board a.out.now in
    let there = get_or_default a.row.now c.in_ok-at.at _ (fresh 0) c.in_ok-at.ensures.inside in
    (c.list_board.ensures.0 ∙ ap (λ b. listing_in b a.out.now) there ∙ (rw (found.0, found.1) at told.0), c.list_board.ensures.1 ∙ ap (λ b. buffer_in b a.out.now) there ∙ (rw (found.0, found.1) at told.1))
