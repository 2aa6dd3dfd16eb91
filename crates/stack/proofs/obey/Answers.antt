use Rattle.std.proofs.Common.{◌∙◌, sym, ap, set}
use Rattle.frame.specs.Frame.{board_of}
use Rattle.std.proofs.lemmas.List.{get_or_default}
use Rattle.board.specs.declared.Board.{Board}
use Rattle.board.specs.Sample.{fresh}
use Rattle.registers.specs.Registers.{obeyed_of}
use Rattle.stack.specs.Way.{obey_outcome_at, obey_row_at}
use Rattle.stack.proofs.Ways.{place-found, place-refused}
use Rattle.stack.proofs.obey.Goals as goal

pub returns-in_err-at : goal.returns-in_err-at
unfolding obey_outcome_at obey_row_at
returns-in_err-at c =
    let none = place-refused c.args.row.now (board_of c.args.asked.address) _ _ (sym c.place_in.ensures.value ∙ c.in_err-at.was) c.from_residual.ensures.1 in
    (none.1 ∙ rw none.0, rw none.0)

pub returns : goal.returns
unfolding obey_outcome_at obey_row_at
returns c =
    let found = place-found c.args.row.now (board_of c.args.asked.address) _ (sym c.place_in.ensures.value ∙ c.in_ok-at.was) in
    let at = c.in_ok-at.at in
    let came = λ (b : Board). obeyed_of b c.args.asked in
    let there = get_or_default c.args.row.now at _ (fresh 0) c.in_ok-at.ensures.inside in
    (rw (found.0, found.1) (c.obey_board.ensures.0 ∙ ap (λ b. (came b).outcome) there), rw (found.0, found.1) (ap (set c.args.row.now at) (c.obey_board.ensures.1 ∙ ap (λ b. (came b).board) there)))
