use Rattle.std.proofs.Common.{◌∙◌, ap, rules, sym}
use Rattle.book_record.specs.Sums.{numbered}
use Rattle.recorded_sessions.proofs.Begun.{unremade}
use Rattle.recorded_sessions.proofs.recording.resume.Goals as goal

pub returns-in-Ok-clause-resumed : goal.returns-in-Ok-clause-resumed
returns-in-Ok-clause-resumed g c = (
  record {
    text = c.in-Some.text.now;
    rest = c.in-Ok.field-0.rest.now;
    left = c.in-Ok.field-0.book.machine;
    held_is = rw c.as_slice.ensures.value at c.in-Some.ensures;
    remade = c.in-Ok.ensures.remade;
  },
  search rules,
)

pub returns-clause-unbegun : goal.returns-clause-unbegun
returns-clause-unbegun g c =
    unremade c.args.limit c.args.held.now c.args.head.items c.in-Some.text.now c.args.rack c.in-Err.error c.wrong_after.result
    (rw c.as_slice.ensures.value at c.in-Some.ensures) c.in-Err.ensures.wrong c.wrong_after.ensures

pub returns-in-Ok-clause-entries : goal.returns-in-Ok-clause-entries
returns-in-Ok-clause-entries g c = c.count_of.ensures ∙ ap numbered (sym c.in-Ok.ensures.counted)
