use Rattle.std.proofs.Common.{◌≡◌}
use Rattle.session_answers.specs.Histories.{status_at}
use Rattle.session_answers.proofs.plain_exchange.finish.Goals as goal

pub returns-then-failed-clause-closing : goal.returns-then-failed-clause-closing
returns-then-failed-clause-closing g c =
    let status : c.failed-answer.result.status ≡ status_at c.args.failed = rw c.if-failed.true c.failed-answer.ensures.status in
    record { one = c.close_exchange-book.ensures.one; prints = c.failed-answer.ensures.text; status = status }

pub returns-clause-closing : goal.returns-clause-closing
returns-clause-closing g c =
    let status : c.done-answer.result.status ≡ status_at c.args.failed = rw c.if-failed.false c.done-answer.ensures.status in
    record { one = c.close_exchange-book.ensures.one; prints = c.done-answer.ensures.text; status = status }
