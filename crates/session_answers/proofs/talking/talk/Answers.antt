use Rattle.std.proofs.Common.{◌≡◌, ◌∙◌, ◌++◌, ◌∷◌, [], ℕ, is_some, ap, ap₂, sym, subst, rules}
use Rattle.batch.specs.ShapeView.{ShapeView}
use Rattle.batch_book.specs.Values.{greatest}
use Rattle.client_session.proofs.Listening.{tells_nothing}
use Rattle.session_answers.specs.Hosting.{AreAllSeats, begun_at}
use Rattle.session_answers.specs.Sessions.{Beginning, beginning}
use Rattle.session_answers.proofs.Talks.{alone, all_there, has_talked}
use Rattle.session_answers.proofs.talking.talk.Goals as goal

pub returns-in_default-clause-beside : goal.returns-in_default-clause-beside
returns-in_default-clause-beside g c = tells_nothing _

pub returns-in-Err-clause-beside : goal.returns-in-Err-clause-beside
returns-in-Err-clause-beside g c = tells_nothing _

pub serve_client-seat-requires-clause-seat : goal.serve_client-seat-requires-clause-seat
serve_client-seat-requires-clause-seat g c κs within =
    let made = c.in-Ok-open_exchange.made in
    (alone made.0 (greatest g.L.ExchangeName.earlier) made.1.items c.pop.new.self.items c.in-Some.seat c.in-Ok-open_exchange.ensures.seats
    c.in-Some.ensures.items).fresh

pub finish-requires-clause-seats : goal.finish-requires-clause-seats
finish-requires-clause-seats g c κs within =
    let made = c.in-Ok-open_exchange.made in
    let start = greatest g.L.ExchangeName.earlier in
    let rest = c.pop.new.self.items in
    let back = c.serve_client-seat.result.0 in
    let one = alone made.0 start made.1.items rest c.in-Some.seat c.in-Ok-open_exchange.ensures.seats c.in-Some.ensures.items in
    let pushed : c.push.new.self.items ≡ rest ++ back ∷ [] = rw c.unwrap.ensures at c.push.ensures.items in
    subst (AreAllSeats made.0) (sym pushed) (all_there made.0 start rest c.in-Some.seat back one c.serve_client-seat.ensures.same)

pub returns-clause-session : goal.returns-clause-session
returns-clause-session g c =
    let loses = g.K.EntryLog.loses in
    let made = c.in-Ok-open_exchange.made in
    let earlier = g.L.ExchangeName.earlier in
    let start = greatest earlier in
    let was = c.args.book in
    let rest = c.pop.new.self.items in
    let seat = c.in-Some.seat in
    let back = c.serve_client-seat.result.0 in
    let fault = c.serve_client-seat.result.1 in
    let failed = c.is_some.result in
    let s = c.serve_client-seat.ensures.session in
    let one = alone made.0 start made.1.items rest seat c.in-Ok-open_exchange.ensures.seats c.in-Some.ensures.items in
    let pushed : c.push.new.self.items ≡ rest ++ back ∷ [] = rw c.unwrap.ensures at c.push.ensures.items in
    let at : ShapeView → ℕ → Beginning = λ e n. record { shape = e; seen = n; loses = loses } in
    let begun : begun_at loses made.0 seat.seen ≡ beginning loses was =
    ap₂ at c.in-Ok-open_exchange.ensures.shape (one.seen ∙ ap greatest (sym c.requires.named.entries)) in
    let fails : failed ≡ is_some fault = search rules in (
      s.0,
      s.1,
      has_talked loses g.L.ExchangeName.opening earlier was made.0 start rest seat back _ _ c.put.new.text.items s.0 fault failed one
          c.serve_client-seat.ensures.same begun c.requires.named.opening c.requires.named.entries
          (rw (c.in-Ok.ensures.items, c.end_line.ensures.line) at c.put.ensures.items) fails s.2 c.finish.result.answer c.finish.result.book
          (rw pushed at c.finish.ensures.closing),
      tt,
    )
