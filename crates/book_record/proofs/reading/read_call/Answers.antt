use Rattle.std.proofs.Common.{sym, ◌∙◌}
use Rattle.std.proofs.lemmas.List.{take_rest}
use Rattle.book_record.proofs.CallTexts.{call_there, no_batch, no_call, no_line}
use Rattle.book_record.proofs.reading.read_call.Goals as goal

pub returns-in_default-clause-none : goal.returns-in_default-clause-none
returns-in_default-clause-none c = no_line c.args.text.now (sym c.position_of.ensures ∙ c.in_default.is)

pub returns-in-None-clause-none : goal.returns-in-None-clause-none
returns-in-None-clause-none c =
    let count = c.in-Some-number_after.ensures.some in
    let none = rw c.in-None.is at c.in_ok-batch.ensures.none in
    no_batch c.args.text.now c.in-Some.end c.in-Some-number_after.count (sym c.position_of.ensures ∙ c.in-Some.is) count.0 count.1 none

pub returns-in-None-call_of-clause-none : goal.returns-in-None-call_of-clause-none
returns-in-None-call_of-clause-none c = no_call c.args.text.now c.in-Some.end (sym c.position_of.ensures ∙ c.in-Some.is) c.in_default-number_after.ensures.none
    c.in-None-call_of.ensures.none

pub returns-in-Some-call_of-clause-some : goal.returns-in-Some-call_of-clause-some
returns-in-Some-call_of-clause-some c = rw take_rest (call_there c.in-Some-call_of.call c.args.text.now c.in-Some.end (sym c.position_of.ensures ∙ c.in-Some.is)
    c.in-Some-call_of.ensures.some)
