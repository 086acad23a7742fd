use Rattle.std.proofs.Common.{◌≡◌, ◌∷◌, ◌++◌, [], All, List, subst, suc, refl, arith}
use Rattle.std.specs.Vec.Iter.{into_iter_items}
use Rattle.batch_book.specs.Seats.{SeatState}
use Rattle.session_answers.specs.Hosting.{IsFresh}
use Rattle.session_answers.specs.HostedSessions.{AreEach, IsThreadOf}
use Rattle.session_answers.proofs.HostedSessions.{each_push, moved}
use Rattle.session_answers.proofs.host_threads.+start_rest.Goals as goal

pub start-requires-clause-seat : goal.start-requires-clause-seat
start-requires-clause-seat g t c κs within =
    let first : into_iter_items c.args.left ≡ c.in-Some.seat ∷ into_iter_items c.next.new.self = c.in-Some.ensures.items in
    let all = subst (λ (seats : List SeatState). All (IsFresh c.args.context.now.exchange.now) seats) first c.requires.seats in
    all 0 c.in-Some.seat (omega arith)

pub start_rest-requires-clause-seats : goal.start_rest-requires-clause-seats
start_rest-requires-clause-seats g t c κs within =
    let first : into_iter_items c.args.left ≡ c.in-Some.seat ∷ into_iter_items c.next.new.self = c.in-Some.ensures.items in
    let all = subst (λ (seats : List SeatState). All (IsFresh c.args.context.now.exchange.now) seats) first c.requires.seats in
    λ k d lt. all (suc k) d (omega (arith, lt))

pub returns : goal.returns
returns g t c started each =
    let x = c.args.context.now in
    let left = into_iter_items c.args.left in
    let more = into_iter_items c.next.new.self in
    let seat = c.in-Some.seat in
    let first : left ≡ seat ∷ more = c.in-Some.ensures.items in
    let pushed : c.push.new.self.items ≡ c.args.threads.items ++ c.start.result ∷ [] = rw c.unwrap.ensures at c.push.ensures.items in
    subst (λ (seats : List SeatState). AreEach (IsThreadOf g.K.EntryLog.loses g.D.ClientStreams.known g.D.ClientStreams.received x.exchange.now
    (g.D.ClientStreams.known x.streams.now) x.latch.now.id) seats c.start_rest.result.items) (moved (started ++ left) started left more seat first refl)
    (c.start_rest.ensures (started ++ seat ∷ []) (rw pushed (each_push _ started c.args.threads.items seat c.start.result each c.start.ensures)))
