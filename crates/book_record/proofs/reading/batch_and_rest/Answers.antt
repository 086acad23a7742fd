use Rattle.std.proofs.Common.{◌++◌, ◌∙◌, ap, sym, drop}
use Rattle.std.proofs.lemmas.List.{take-append-drop, take_rest}
use Rattle.book_record.proofs.Lines.{faulty, too_few}
use Rattle.book_record.proofs.reading.batch_and_rest.Goals as goal

pub returns-in_default-clause-none : goal.returns-in_default-clause-none
returns-in_default-clause-none c =
    let none = rw c.in_default.is at c.end_of_lines.ensures.none in
    λ batch rest is long. too_few c.args.text.now rest batch c.args.count long none

pub returns-in-Ok-clause-some : goal.returns-in-Ok-clause-some
returns-in-Ok-clause-some c =
    let text = c.args.text.now in
    let end = c.in-Some.end in
    rw take_rest (
      (record { few = c.in-Ok.ensures.batch.few; within = c.in-Ok.ensures.batch.within }),
      sym (take-append-drop end text)
          ∙ ap (λ l. l ++ drop end text) c.in-Ok.ensures.batch.spelled,
    )

pub returns-in_default-fault : goal.returns-in_default-fault
returns-in_default-fault c = record {
  some = tt;
  none = λ batch rest is long.
      faulty c.args.text.now rest batch c.args.count c.in-Some.end c.in-Err.fault is long c.in-Some.ensures.some.1
      (c.in-Err.ensures.fault c.in_default-fault.not-NoMemory);
}
