use Rattle.std.proofs.Common.{◌≡◌, ◌∙◌, ℕ, ap, ap₂, length, sym}
use Rattle.batch.specs.ShapeView.{ShapeView}
use Rattle.batch_book.specs.Values.{greatest}
use Rattle.session_answers.specs.Hosting.{begun_at}
use Rattle.session_answers.specs.Sessions.{Beginning, beginning}
use Rattle.session_answers.proofs.HostedSessions.{all_fresh, all_new, are_hosted, as_many_ends}
use Rattle.session_answers.proofs.Sessions.{none_asked, unasked}
use Rattle.session_answers.proofs.hosting.host.Goals as goal

pub returns-in_default-clause-back : goal.returns-in_default-clause-back
returns-in_default-clause-back g c = unasked g.K.EntryLog.loses c.args.book c.log.ensures.replay c.requires.named.whole
    (c.requires.named.stand ∙ sym c.requires.named.entries) c.requires.unstopped

pub returns-in_default-room_for_endings-clause-back : goal.returns-in_default-room_for_endings-clause-back
returns-in_default-room_for_endings-clause-back g c = unasked g.K.EntryLog.loses c.args.book c.log.ensures.replay c.requires.named.whole
    (c.requires.named.stand ∙ sym c.requires.named.entries) c.requires.unstopped

pub returns-in_default-passes_for-clause-back : goal.returns-in_default-passes_for-clause-back
returns-in_default-passes_for-clause-back g c = unasked g.K.EntryLog.loses c.args.book c.log.ensures.replay c.requires.named.whole
    (c.requires.named.stand ∙ sym c.requires.named.entries) c.requires.unstopped

pub returns-in-Err-clause-back : goal.returns-in-Err-clause-back
returns-in-Err-clause-back g c =
    rw c.in-Err.ensures.back (unasked g.K.EntryLog.loses c.args.book c.log.ensures.replay c.requires.named.whole
    (c.requires.named.stand ∙ sym c.requires.named.entries) c.requires.unstopped)

pub ends_of-text-requires-clause-room : goal.ends_of-text-requires-clause-room
ends_of-text-requires-clause-room g c κs within =
    let known = g.D.ClientStreams.known c.args.streams.now in
    let back = c.in-Ok-host_seats.field-0 in
    let many : length c.as_slice.result.now ≡ known.clients =
    ap length c.as_slice.ensures.value
    ∙ as_many_ends g.K.EntryLog.loses c.in-Ok-opened.made.0 (greatest g.L.ExchangeName.earlier) known g.D.ClientStreams.received back.seats.items
    back.endings.items c.in-Ok-host_seats.ensures.hosted in
    rw many c.in-Ok.ensures.room

pub close_exchange-requires-clause-seats : goal.close_exchange-requires-clause-seats
close_exchange-requires-clause-seats g c κs within = all_new c.in-Ok-opened.made.0 (greatest g.L.ExchangeName.earlier) _ c.in-Err-host_seats.seats.items
    c.in-Err-host_seats.ensures.back

pub returns-in-Ok-host_seats-clause-hosted : goal.returns-in-Ok-host_seats-clause-hosted
returns-in-Ok-host_seats-clause-hosted g c =
    let loses = g.K.EntryLog.loses in
    let x = c.in-Ok-opened.made.0 in
    let start = greatest g.L.ExchangeName.earlier in
    let was = c.args.book in
    let back = c.in-Ok-host_seats.field-0 in
    let at : ShapeView → ℕ → Beginning = λ e n. record { shape = e; seen = n; loses = loses } in
    let begun : begun_at loses x start ≡ beginning loses was =
    ap₂ at c.in-Ok-opened.ensures.shape (ap greatest (sym c.requires.named.entries)) in
    are_hosted loses g.L.ExchangeName.opening g.L.ExchangeName.earlier was x start (g.D.ClientStreams.known c.args.streams.now) g.D.ClientStreams.received
    back.seats.items back.endings.items c.ends_of-text.result.items c.any_failed-failed.result c.finish-closing.result.answer c.finish-closing.result.book
    c.in-Ok-host_seats.ensures.hosted begun c.requires.named.opening c.requires.named.entries
    (rw c.as_slice.ensures.value at c.ends_of-text.ensures) (rw c.as_slice-in-Ok-host_seats.ensures.value at c.any_failed-failed.ensures)
    c.finish-closing.ensures.closing

pub returns-in-Err-host_seats-clause-back : goal.returns-in-Err-host_seats-clause-back
returns-in-Err-host_seats-clause-back g c =
    let seats = c.in-Err-host_seats.seats.items in
    let idle = all_fresh c.in-Ok-opened.made.0 (greatest g.L.ExchangeName.earlier) _ seats c.in-Err-host_seats.ensures.back in
    rw (c.requires.named.opening, c.requires.named.entries)
    (none_asked g.K.EntryLog.loses g.L.ExchangeName.opening g.L.ExchangeName.earlier seats c.close_exchange.result (λ k d lt. (idle k d lt).asked)
    c.close_exchange.ensures.one)
