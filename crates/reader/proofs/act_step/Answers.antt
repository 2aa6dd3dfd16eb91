-- `act_step`: a body of the length that its kind has, and then the answer.
-- Assumes nothing.
use Rattle.std.proofs.Common.{◌≡◌, sym, ◌∙◌, drop, arith, length-drop}
use Rattle.format.specs.Read.{number_in}
use Rattle.reader.specs.Kinds.{code_of}
use Rattle.reader.proofs.Numbers.{byte_behind}
use Rattle.reader.proofs.Steps.{act-long, act-no-body, act-body}
use Rattle.reader.proofs.act_step.Goals as goal

pub returns-then-wrong_long : goal.returns-then-wrong_long
returns-then-wrong_long c =
    let l = c.args.bytes.now in
    let at = c.args.at in
    let kind : code_of c.in_ok-kind.kind ≡ number_in 1 (drop at l) = grind arith in
    rw c.at-then-wrong_long.ensures
    (act-long at (drop at l) (omega (arith, length-drop at l)) c.in_ok-kind.kind kind c.byte_at-long.result (c.byte_at-long.ensures ∙ byte_behind at l)
    (sym c.wrong_long.ensures ∙ c.if-wrong_long.true))

pub returns-then-left-long : goal.returns-then-left-long
returns-then-left-long c =
    let l = c.args.bytes.now in
    let at = c.args.at in
    let kind : code_of c.in_ok-kind.kind ≡ number_in 1 (drop at l) = grind arith in
    rw c.at-then-left-long.ensures
    (act-no-body at (drop at l) (omega (arith, length-drop at l)) c.in_ok-kind.kind kind c.byte_at-long.result (c.byte_at-long.ensures ∙ byte_behind at l)
    (sym c.wrong_long.ensures ∙ c.if-wrong_long.false) (omega (arith, length-drop at l)))

pub returns : goal.returns
returns c =
    let l = c.args.bytes.now in
    let at = c.args.at in
    let kind : code_of c.in_ok-kind.kind ≡ number_in 1 (drop at l) = grind arith in
    c.answer_step.ensures
    ∙ act-body at (drop at l) (omega (arith, length-drop at l)) c.in_ok-kind.kind kind c.byte_at-long.result (c.byte_at-long.ensures ∙ byte_behind at l)
    (sym c.wrong_long.ensures ∙ c.if-wrong_long.false) (omega (arith, length-drop at l))
