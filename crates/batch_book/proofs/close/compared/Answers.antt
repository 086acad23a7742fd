use Rattle.std.proofs.Common.{◌∙◌, ap, sym, arith}
use Rattle.batch_book.specs.Recording.{made_in, marked_in}
use Rattle.batch_book.specs.Values.{greatest}
use Rattle.batch_book.proofs.Noting.{greatest_own, own_asked, raised_below}
use Rattle.batch_book.specs.Places.{notes_of}
use Rattle.batch_book.proofs.close.compared.Goals as goal

pub returns-clause-asked : goal.returns-clause-asked
returns-clause-asked g c =
    let notes = c.args.keeper.now.history in
    sym c.into_inner-access.ensures.made ∙ (ap made_in (c.compare.ensures.list ∙ ap (λ s. notes_of s notes) c.into_inner-access.ensures.session)
    ∙ own_asked c.args.seat.session notes)

pub returns-clause-told : goal.returns-clause-told
returns-clause-told g c =
    let notes = c.args.keeper.now.history in
    sym c.into_inner-access.ensures.told ∙ ap marked_in (c.compare.ensures.list ∙ ap (λ s. notes_of s notes) c.into_inner-access.ensures.session)

pub returns-clause-raised : goal.returns-clause-raised
returns-clause-raised g c =
    let place = c.into_inner-access.result in
    let notes = c.args.keeper.now.history in
    let own = ap greatest (ap made_in c.compare.ensures.list ∙ own_asked place.own.session notes) in
    let below = greatest_own place.own.session (made_in notes) in
    let most = raised_below g.L.ExchangeName.earlier place.own.session (made_in place.own.list) in
    omega (arith, place.highest, most, own, below)
