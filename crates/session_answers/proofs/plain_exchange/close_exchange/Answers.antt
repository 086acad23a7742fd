use Rattle.std.proofs.Common.{refl, subst}
use Rattle.batch_book.specs.History.{IsSoundBook}
use Rattle.session_answers.proofs.Sessions.{one_history}
use Rattle.session_answers.proofs.plain_exchange.close_exchange.Goals as goal

pub returns-clause-one : goal.returns-clause-one
returns-clause-one g c =
    let k = g.K.EntryLog in
    let kept = subst (IsSoundBook k.limited k.loses) c.part-bare.ensures.same c.part-bare.ensures.kept in
    rw (c.go_on.ensures, c.part-bare.ensures.same) (one_history _ _ k.limited k.loses _ _ c.args.seats.items c.in-Ok.field-0.book c.in-Ok.ensures
    (record { unfailed = λ before after. refl; honest = λ port. refl; sure_wires = λ wires transfer. tt }) kept)
