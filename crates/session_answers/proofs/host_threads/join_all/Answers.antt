use Rattle.std.proofs.Common.{◌≡◌, ◌∷◌, ◌++◌, [], List, None, length, length-append, ap, refl, rules, tests, subst, arith}
use Rattle.std.specs.Vec.Iter.{into_iter_items}
use Rattle.batch_book.specs.Seats.{SeatState}
use Rattle.session_answers.specs.HostedSessions.{HaveReturned, begins}
use Rattle.session_answers.proofs.HostedSessions.{all_done, each_begin, each_first, each_length, moved, none_back, one_more_back, one_more_idle}
use Rattle.session_answers.proofs.host_threads.join_all.Goals as goal

pub join-seat-requires-clause-started : goal.join-seat-requires-clause-started
join-seat-requires-clause-started g c κs within =
    let first : into_iter_items c.loop-started.started-iterator ≡ c.in-Some.started ∷ into_iter_items c.next.new.self = c.in-Some.ensures.steps.0 in
    let given = c.requires.started in
    let h = c.loop-started.invariant.6 given.0 given.1 in
    let f = each_first _ h.1 _ _ _ h.3 first in
    (f.0, f.3)

pub loop-started-init : goal.loop-started-init
loop-started-init g c =
    let given : into_iter_items c.into_iter-started-iterator.result ≡ c.args.threads.items = c.into_iter-started-iterator.ensures.into_iter_gives.0 in (
      tt,
      tt,
      c.requires.room_for_seats,
      c.requires.room_for_endings,
      omega (arith, ap length c.requires.no_seats, ap length given),
      omega (arith, ap length c.requires.no_seats, ap length c.requires.no_endings),
      λ seats each. (
        [],
        seats,
        refl,
        each_begin _ seats c.args.threads.items _ given each,
        none_back _ _ _ _ _ c.args.back.seats.items
            c.args.back.endings.items c.requires.no_seats c.requires.no_endings,
      ),
    )

pub loop-started-preserved : goal.loop-started-preserved
loop-started-preserved g c =
    let inv = c.loop-started.invariant in
    let more = into_iter_items c.next.new.self in
    let first : into_iter_items c.loop-started.started-iterator ≡ c.in-Some.started ∷ more = c.in-Some.ensures.steps.0 in
    let pushed : c.push.new.self.items ≡ c.loop-started.back.seats.items ++ c.join-seat.result.0 ∷ [] = rw c.unwrap.ensures at c.push.ensures.items in
    let none : c.join-seat.result.1 ≡ None = search (rules, tests) in (
      tt,
      tt,
      omega (arith, inv.2, c.push.ensures.capacity),
      inv.3,
      omega (arith, inv.4, ap length pushed, length-append c.loop-started.back.seats.items (c.join-seat.result.0 ∷ []), ap length first),
      omega (arith, inv.5, ap length pushed, length-append c.loop-started.back.seats.items (c.join-seat.result.0 ∷ [])),
      λ seats each.
          (let h = inv.6 seats each in
          let f = each_first _ h.1 _ more _ h.3 first in
          let its = rw none at c.join-seat.ensures f.0 f.3 in (
            h.0 ++ f.0 ∷ [],
            f.1,
            moved seats h.0 h.1 f.1 f.0 f.2 h.2,
            f.4,
            one_more_idle _ _ _ _ _ h.0 _ c.push.new.self.items _ f.0 c.join-seat.result.0 h.4
                its pushed,
          )),
    )

pub loop-started-preserved-in-Some-ending : goal.loop-started-preserved-in-Some-ending
loop-started-preserved-in-Some-ending g c =
    let inv = c.loop-started.invariant in
    let more = into_iter_items c.next.new.self in
    let first : into_iter_items c.loop-started.started-iterator ≡ c.in-Some.started ∷ more = c.in-Some.ensures.steps.0 in
    let pushed : c.push.new.self.items ≡ c.loop-started.back.seats.items ++ c.join-seat.result.0 ∷ [] = rw c.unwrap.ensures at c.push.ensures.items in
    let put : c.push-in-Some-ending.new.self.items ≡ c.loop-started.back.endings.items ++ c.in-Some-ending.ending ∷ [] = rw c.unwrap-in-Some-ending.ensures
    at c.push-in-Some-ending.ensures.items in (
      tt,
      tt,
      omega (arith, inv.2, c.push.ensures.capacity),
      omega (arith, inv.3, c.push-in-Some-ending.ensures.capacity),
      omega (arith, inv.4, ap length pushed, length-append c.loop-started.back.seats.items (c.join-seat.result.0 ∷ []), ap length first),
      omega (
        arith,
        inv.5,
        ap length pushed,
        ap length put,
        length-append c.loop-started.back.seats.items (c.join-seat.result.0 ∷ []),
        length-append c.loop-started.back.endings.items (c.in-Some-ending.ending ∷ []),
      ),
      λ seats each.
          (let h = inv.6 seats each in
          let f = each_first _ h.1 _ more _ h.3 first in
          let its = rw c.in-Some-ending.is at c.join-seat.ensures f.0 f.3 in (
            h.0 ++ f.0 ∷ [],
            f.1,
            moved seats h.0 h.1 f.1 f.0 f.2 h.2,
            f.4,
            one_more_back _ _ _ _ _ h.0 _ c.push.new.self.items _ f.0 c.join-seat.result.0
                c.in-Some-ending.ending h.4 its pushed c.push-in-Some-ending.new.self.items put,
          )),
    )

pub returns : goal.returns
returns g c seats each =
    let h = c.loop-started.invariant.6 seats each in
    let known = g.D.ClientStreams.known c.args.context.now.streams.now in
    let none : length h.1 ≡ 0 = omega (arith, c.in-None.ensures.steps.0, c.loop-started.started-iterator.rest.ok.0, each_length _ h.1 _ h.3) in
    subst (λ (done : List SeatState). HaveReturned g.K.EntryLog.loses c.args.context.now.exchange.now known g.D.ClientStreams.received
    (begins known.clients c.args.decided.now.value) done c.loop-started.back.seats.items c.loop-started.back.endings.items)
    (all_done seats h.0 h.1 none h.2) h.4
