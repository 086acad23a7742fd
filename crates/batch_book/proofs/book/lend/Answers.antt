use Rattle.std.proofs.Common.{◌∙◌, ap, sym}
use Rattle.batch_book.specs.History.{book_view}
use Rattle.batch_book.specs.Values.{greatest}
use Rattle.batch_book.proofs.Fronts.{starts_same}
use Rattle.batch_book.proofs.Histories.{replaced}
use Rattle.batch_book.proofs.book.lend.Goals as goal

pub go_on-requires-clause-kept : goal.go_on-requires-clause-kept
go_on-requires-clause-kept g c =
    let e = c.in-Ok.ensures in
    replaced _ _ _ _ _ _ _ _ c.part-bare.ensures.kept e.limited e.loses.1 e.pushed (starts_same _ _ (e.queued ∙ sym e.pushed))

pub go_on-requires-clause-furthest : goal.go_on-requires-clause-furthest
go_on-requires-clause-furthest g c = c.part-bare.ensures.furthest ∙ ap greatest (sym c.in-Ok.ensures.pushed)

pub returns-in-Ok-clause-book : goal.returns-in-Ok-clause-book
returns-in-Ok-clause-book g c =
    let p = c.part-bare.ensures in
    let e = c.in-Ok.ensures in
    let history = ap (λ a. a.history) p.same in
    c.go_on.ensures ∙ (λ i. book_view (p.same i).opening ((e.pushed ∙ history) i) ((e.queued ∙ history ∙ sym c.requires.all) i) (p.same i).machine
    ((e.whole ∙ sym c.requires.whole) i))
