use Rattle.std.proofs.Common.{◌≡◌, ◌∙◌, false, inl, refl, sym, true, arith}
use Rattle.batch_book.specs.Values.{greatest}
use Rattle.session_answers.specs.HostedSessions.{begins}
use Rattle.session_answers.proofs.HostedSessions.{all_fresh, begun_all, begun_none, each_from_none, each_length, each_of_seats}
use Rattle.session_answers.proofs.host_threads.host_all.Goals as goal

pub start_rest-threads-requires-clause-seats : goal.start_rest-threads-requires-clause-seats
start_rest-threads-requires-clause-seats g c κs within =
    rw c.into_iter.ensures.rest (all_fresh c.args.context.now.exchange.now (greatest g.L.ExchangeName.earlier) _ c.args.seats.items c.requires.seats)

pub join_all-back-requires-clause-started : goal.join_all-back-requires-clause-started
join_all-back-requires-clause-started g c κs within = (
  c.args.seats.items,
  each_from_none _ c.args.seats.items _ _ c.start_rest-threads.result.items c.in-Ok.ensures.items c.into_iter.ensures.rest
      c.start_rest-threads.ensures,
)

pub join_all-back-requires-clause-room_for_seats : goal.join_all-back-requires-clause-room_for_seats
join_all-back-requires-clause-room_for_seats g c κs within =
    let each = each_from_none _ c.args.seats.items _ _ c.start_rest-threads.result.items c.in-Ok.ensures.items c.into_iter.ensures.rest
    c.start_rest-threads.ensures in
    omega (arith, each_length _ c.args.seats.items c.start_rest-threads.result.items each, c.requires.seats.count, c.requires.room.seats)

pub join_all-back-requires-clause-room_for_endings : goal.join_all-back-requires-clause-room_for_endings
join_all-back-requires-clause-room_for_endings g c κs within =
    let each = each_from_none _ c.args.seats.items _ _ c.start_rest-threads.result.items c.in-Ok.ensures.items c.into_iter.ensures.rest
    c.start_rest-threads.ensures in
    omega (arith, each_length _ c.args.seats.items c.start_rest-threads.result.items each, c.requires.seats.count, c.requires.room.endings)

pub returns-then-begins-clause-hosted : goal.returns-then-begins-clause-hosted
returns-then-begins-clause-hosted g c =
    let x = c.args.context.now.exchange.now in
    let known = g.D.ClientStreams.known c.args.context.now.streams.now in
    let back = c.join_all-back.result in
    let is : begins known.clients c.init-decided.result.value ≡ true = rw c.clients.ensures at (sym c.begins.ensures ∙ c.if-begins.true) in
    begun_all g.K.EntryLog.loses x (greatest g.L.ExchangeName.earlier) known g.D.ClientStreams.received c.init-decided.result.value c.args.seats.items
    back.seats.items back.endings.items is
    (c.join_all-back.ensures c.args.seats.items (each_from_none _ c.args.seats.items _ _ c.start_rest-threads.result.items c.in-Ok.ensures.items
    c.into_iter.ensures.rest c.start_rest-threads.ensures)) c.requires.seats

pub returns : goal.returns
returns g c =
    let x = c.args.context.now.exchange.now in
    let known = g.D.ClientStreams.known c.args.context.now.streams.now in
    let back = c.join_all-back.result in
    let is : begins known.clients c.init-decided.result.value ≡ false = rw c.clients.ensures at (sym c.begins.ensures ∙ c.if-begins.false) in
    record {
      hosted = tt;
      refusal = inl refl;
      back = begun_none g.K.EntryLog.loses x (greatest g.L.ExchangeName.earlier) known g.D.ClientStreams.received c.init-decided.result.value c.args.seats.items
          back.seats.items back.endings.items is
          (c.join_all-back.ensures c.args.seats.items (each_from_none _ c.args.seats.items _ _ c.start_rest-threads.result.items c.in-Ok.ensures.items
          c.into_iter.ensures.rest c.start_rest-threads.ensures)) c.requires.seats;
    }

pub start_rest-threads-requires-clause-passes : goal.start_rest-threads-requires-clause-passes
start_rest-threads-requires-clause-passes g c κs within =
    rw (c.into_iter.ensures.rest, c.into_iter-2.ensures.rest)
    (each_of_seats (g.D.ClientStreams.admits c.args.context.now.streams.now) c.args.context.now.exchange.now (greatest g.L.ExchangeName.earlier) _
    c.args.seats.items c.args.passes.items c.requires.seats c.requires.passes)
