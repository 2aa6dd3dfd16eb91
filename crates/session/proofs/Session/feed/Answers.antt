-- `feed`: no room, a line completed, and the lines behind it.
-- Assumes nothing.
use Rattle.std.proofs.Common.{arith}
use Rattle.puts.proofs.Puts.{put_same}
use Rattle.session.proofs.Folds.{fold-inside}
use Rattle.session.proofs.Feeds.{run-idle, run-tight, run-all}
use Rattle.session.proofs.Session.feed.Goals as goal

pub returns-then-out-lt32 : goal.returns-then-out-lt32
returns-then-out-lt32 c = run-idle _ _ _ _ c.if-out-lt32.true

pub returns-then-out-rest-lt32 : goal.returns-then-out-rest-lt32
returns-then-out-rest-lt32 c =
    let first = c.complete_line-first.ensures in
    let rest = c.answer_lines-rest.ensures in
    run-tight first c.if-out-lt32.false c.if-block-first.false rest (omega (arith, c.if-out-rest-lt32.true, fold-inside rest.sofar.fed, put_same rest.sofar.fed.text, put_same first.fed.text))

pub returns : goal.returns
returns c =
    let first = c.complete_line-first.ensures in
    let rest = c.answer_lines-rest.ensures in
    run-all first c.if-out-lt32.false c.if-block-first.false rest c.keep.new.self (omega (arith, c.if-out-rest-lt32.false, fold-inside rest.sofar.fed, put_same rest.sofar.fed.text, put_same first.fed.text)) c.keep.ensures.line
