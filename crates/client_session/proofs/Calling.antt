-- A call of the seat, as its session sees it.
use Rattle.std.proofs.Common.{◌≡◌, ◌<◌, ◌≤◌, Bool, Result, Ok, Err, IfOk, OnErr, is_err, append-nil, refl, sym, ◌∙◌}
use Rattle.batch.specs.ShapeView.{ShapeView}
use Rattle.batch_book.specs.declared.call.Call.{Call}
use Rattle.batch_book.specs.declared.limits.TheConstants.{RUN_STEP}
use Rattle.batch_book.specs.declared.reading.Reading.{Reading}
use Rattle.batch_book.specs.declared.reply.Reply.{Reply}
use Rattle.batch_book.specs.declared.unrecorded.Unrecorded.{Unrecorded}
use Rattle.batch_book.specs.Answering.{IsReplyTo}
use Rattle.batch_book.specs.Seats.{IsAsked, IsSameSeat, SeatState}
use Rattle.batch_book.specs.Values.{value_at}
use Rattle.batch_book.proofs.Fronts.{starts_same}
use Rattle.client_session.specs.Seats.{GoesOnFrom, IsCalled, IsProgressRead, IsUncalled, seat_view}

goes_on : (loses : Bool) (shape : ShapeView) (old new : SeatState) (c : Call) (r : Result Reply Unrecorded) → IsAsked old c r new
    → GoesOnFrom (is_err r) (seat_view loses shape old) (seat_view loses shape new)
goes_on loses shape old new c r is = record {
  exchange = is.seat.exchange;
  shape = refl;
  loses = refl;
  session = is.seat.session;
  parts = is.seat.parts;
  log =
      is.log;
  seen = is.later;
  broken = is.broken;
}

pub called : (loses : Bool) (shape : ShapeView) (old new : SeatState) (c : Call) (r : Result Reply Unrecorded) → IsAsked old c r new → IfOk r (IsReplyTo c)
    → IfOk r (λ reply. IsCalled (seat_view loses shape old) c reply (seat_view loses shape new))
called loses shape old new c (Ok reply) is answers = record {
  goes_on = goes_on loses shape old new c (Ok reply) is;
  asked = is.asked;
  answers = answers;
  seen =
      is.seen;
}
called loses shape old new c (Err lost) is answers = tt

pub uncalled : (loses : Bool) (shape : ShapeView) (old new : SeatState) (c : Call) (r : Result Reply Unrecorded) → IsAsked old c r new
    → OnErr r (IsUncalled (seat_view loses shape old) (seat_view loses shape new))
uncalled loses shape old new c (Ok reply) is = tt
uncalled loses shape old new c (Err lost) is = record { goes_on = goes_on loses shape old new c (Err lost) is; asked = is.asked ∙ append-nil old.asked }

pub progress_read : (loses : Bool) (shape : ShapeView) (old new : SeatState) (r : Reading) → IsSameSeat old new → new.asked ≡ old.asked → new.log ≡ old.log
    → new.broken ≡ old.broken → old.seen ≤ new.seen → new.seen ≡ value_at r.run r.done → r.done < RUN_STEP
    → IsProgressRead (seat_view loses shape old) r (seat_view loses shape new)
progress_read loses shape old new r same asked log broken later reading done = record {
  goes_on = record {
    exchange = same.exchange;
    shape = refl;
    loses = refl;
    session = same.session;
    parts = same.parts;
    log =
        starts_same old.log new.log (sym log);
    seen = later;
    broken = broken;
  };
  asked = asked;
  seen = reading;
  done = done;
}
