use Rattle.book_record.proofs.CallTexts.{no_entry, no_such_session}
use Rattle.book_record.proofs.reading.read_entry.Goals as goal

pub returns-in-None-clause-none : goal.returns-in-None-clause-none
returns-in-None-clause-none c =
    let none = rw c.in-None.is at c.in_ok-call.ensures.none in
    no_entry c.args.text.now c.in-Some.rest.now c.in-Some.session c.in-Some.ensures.some none c.args.limit

pub returns-then-session-limit-clause-none : goal.returns-then-session-limit-clause-none
returns-then-session-limit-clause-none c = no_such_session c.args.text.now c.in-Some.rest.now c.in-Some.session c.args.limit c.in-Some.ensures.some
    c.if-session-limit.true
