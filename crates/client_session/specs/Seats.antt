-- A seat of the exchange as its session sees it, and what it is answered.
use Rattle.std.specs.Prelude.{◌≡◌, ℕ, ◌<◌, ◌≤◌, ◌||◌, Bool, true, false, List, [], ◌∷◌, ◌++◌}
use Rattle.std.specs.Prelude.{Option, if◌then◌else◌}
use Rattle.atomic_table.specs.Seated.{TableId}
use Rattle.batch.specs.ShapeView.{ShapeView}
use Rattle.batch_book.specs.declared.entry.Entry.{Entry}
use Rattle.batch_book.specs.declared.call.Call.{Call}
use Rattle.batch_book.specs.declared.limits.TheConstants.{RUN_STEP}
use Rattle.batch_book.specs.declared.reading.Reading.{Reading}
use Rattle.batch_book.specs.declared.reply.Reply.{Reply}
use Rattle.batch_book.specs.Answering.{IsReplyTo}
use Rattle.batch_book.specs.History.{IsPrefix, entry}
use Rattle.batch_book.specs.Replies.{is_logged}
use Rattle.batch_book.specs.Seats.{SeatState}
use Rattle.batch_book.specs.Values.{value_at, value_of}

-- the word of the seat's exchange, the shape of its rack, whether its history may lose an entry,
-- the session's number, the seat's parts, what it asked, and of that what could be told to it, the
-- greatest progress that it has seen, and whether the record of a call of it is broken
pub record SeatView : Type 0 where
  pub exchange : Option TableId
  pub shape : ShapeView
  pub loses : Bool
  pub session : ℕ
  pub parts : ℕ
  pub asked : List Entry
  pub log : List Entry
  pub seen : ℕ
  pub broken : Bool

-- the seat, where the history may lose an entry or not, and the rack has this shape
abbrev pub seat_view : Bool → ShapeView → SeatState → SeatView
seat_view loses shape seat =
    record {
      exchange = seat.exchange;
      shape = shape;
      loses = loses;
      session = seat.session;
      parts = seat.parts;
      asked = seat.asked;
      log = seat.log;
      seen = seat.seen;
      broken = seat.broken;
    }

-- a reading as the progress word has it
abbrev pub reading_value : Reading → ℕ
reading_value r = value_at r.run r.done

-- the entry of a call, where the history has such replies
abbrev pub logged : ℕ → Call → Reply → List Entry
logged session call reply = if is_logged reply then entry session call reply ∷ [] else []

-- the same seat, which has seen no less, and to which no less could be told; its record was broken
-- before, or this has broken it
pub record GoesOnFrom (breaks : Bool) (old new : SeatView) : Type 0 where
  pub exchange : new.exchange ≡ old.exchange
  pub shape : new.shape ≡ old.shape
  pub loses : new.loses ≡ old.loses
  pub session : new.session ≡ old.session
  pub parts : new.parts ≡ old.parts
  pub log : IsPrefix old.log new.log
  pub seen : old.seen ≤ new.seen
  pub broken : new.broken ≡ breaks || old.broken

-- a call was made
pub record IsCalled (old : SeatView) (call : Call) (reply : Reply) (new : SeatView) : Type 0 where
  pub goes_on : GoesOnFrom false old new
  pub asked : new.asked ≡ old.asked ++ logged old.session call reply
  pub answers : IsReplyTo call reply
  pub seen : value_of reply ≤ new.seen

-- a call wasn't made, since the record is broken
pub record IsUncalled (old new : SeatView) : Type 0 where
  pub goes_on : GoesOnFrom true old new
  pub asked : new.asked ≡ old.asked

-- the progress word was read
pub record IsProgressRead (old : SeatView) (r : Reading) (new : SeatView) : Type 0 where
  pub goes_on : GoesOnFrom false old new
  pub asked : new.asked ≡ old.asked
  pub seen : new.seen ≡ reading_value r
  pub done : r.done < RUN_STEP
