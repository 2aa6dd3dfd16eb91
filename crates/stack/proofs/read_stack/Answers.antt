use Rattle.std.proofs.Common.{◌∙◌, sym, ap, Ok}
use Rattle.stack.proofs.Ways.{checked-good, row-refused}
use Rattle.stack.proofs.Scanned.{read-good, read-bad}
use Rattle.stack.proofs.read_stack.Goals as goal

pub returns-in_err-check_row : goal.returns-in_err-check_row
returns-in_err-check_row c =
    let bad = row-refused c.args.row.now _ _ (sym c.check_row.ensures ∙ c.in_err-check_row.was) c.from_residual.ensures.1 in
    bad.1 ∙ read-bad c.args.row.now bad.0

pub returns : goal.returns
returns c = ap Ok c.read_row.ensures ∙ read-good c.args.row.now (checked-good c.args.row.now (sym c.check_row.ensures ∙ c.in_ok-check_row.was))
