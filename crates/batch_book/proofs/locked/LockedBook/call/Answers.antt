use Rattle.std.proofs.Common.{◌∙◌, sym}
use Rattle.batch_book.specs.Seats.{open_seat}
use Rattle.batch_book.proofs.Fronts.{starts}
use Rattle.batch_book.proofs.Noting.{asked_all, told_front}
use Rattle.batch_book.proofs.locked.LockedBook.call.Goals as goal

pub returns-clause-asked : goal.returns-clause-asked
returns-clause-asked g c =
    let e = c.mark.ensures in
    let f = told_front c.ask-made.result.1.own.list in
    rw (← c.seat.view_is) (rw (sym c.take.ensures.value ∙ c.in-Some.is)
    (asked_all _ _ _ c.args.call _ c.ask-made.ensures.asked (starts _ _ f.0 f.1)
    (λ i. open_seat (e.access i).watcher c.seat.inside.session (e.made i) (e.told i) (e.access i).parts (e.broken i))))
