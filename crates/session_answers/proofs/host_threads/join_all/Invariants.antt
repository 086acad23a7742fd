use Rattle.std.proofs.Common.{◌≡◌, ◌≤◌, ◌+◌, ◌++◌, List, length, vec_capacity}
use Rattle.std.specs.Vec.Iter.{into_iter_items}
use Rattle.batch_book.specs.Seats.{SeatState}
use Rattle.session_answers.specs.HostedSessions.{AreEach, IsThreadOf, HaveReturned, begins}
use Rattle.session_answers.proofs.host_threads.join_all.Given as goal

abbrev pub invariant-loop-started : goal.invariant-loop-started
invariant-loop-started g l =
    (goal.iterator-loop-started g).can_next l.started-iterator ×
    (goal.iterator-loop-started g).is_finite l.started-iterator ×
    (length l.fn.threads.items ≤ vec_capacity l.back.seats) ×
    (length l.fn.threads.items ≤ vec_capacity l.back.endings) ×
    (length l.back.seats.items + length (into_iter_items l.started-iterator) ≡ length l.fn.threads.items) ×
    (length l.back.endings.items ≤ length l.back.seats.items) ×
    ((seats : List SeatState) → AreEach (IsThreadOf g.K.EntryLog.loses g.D.ClientStreams.known g.D.ClientStreams.received l.fn.context.exchange.now
    (g.D.ClientStreams.known l.fn.context.streams.now) l.fn.context.latch.now.id) seats l.fn.threads.items →
    (done : List SeatState) × (rest : List SeatState) × (done ++ rest ≡ seats) ×
    AreEach (IsThreadOf g.K.EntryLog.loses g.D.ClientStreams.known g.D.ClientStreams.received l.fn.context.exchange.now
    (g.D.ClientStreams.known l.fn.context.streams.now) l.fn.context.latch.now.id) rest (into_iter_items l.started-iterator) ×
    HaveReturned g.K.EntryLog.loses l.fn.context.exchange.now (g.D.ClientStreams.known l.fn.context.streams.now) g.D.ClientStreams.received
    (begins (g.D.ClientStreams.known l.fn.context.streams.now).clients l.fn.decided.value) done l.back.seats.items l.back.endings.items)
