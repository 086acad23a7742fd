-- The session of a client, from a new seat to its end.
use Rattle.std.specs.Prelude.{◌≡◌, ℕ, Bool, true, false, List, [], Option, Some}
use Rattle.std.specs.Io.KnownBytes.{Consumes}
use Rattle.batch.specs.ShapeView.{ShapeView}
use Rattle.batch_book.specs.History.{BookView}
use Rattle.batch_book.specs.Values.{greatest}
use Rattle.client_session.specs.declared.fault.ServeFault.TheVariants.{Record}
use Rattle.client_session.specs.Seats.{SeatView}
use Rattle.client_session.specs.Sessions.{HasEnded}
use Rattle.session_answers.specs.Frames.{Transcript}

-- what the sessions of an exchange begin with: the shape of its rack, how far its runs have come,
-- and whether its book's kind of history may lose an entry
pub record Beginning : Type 0 where
  pub shape : ShapeView
  pub seen : ℕ
  pub loses : Bool

-- where the exchange is over this book
abbrev pub beginning : Bool → BookView → Beginning
beginning loses was =
    record {
      shape = was.machine.store.shape;
      seen = greatest was.history;
      loses = loses;
    }

-- a seat of this session, which has asked nothing, and seen nothing since
pub record IsNewSeat (b : Beginning) (session : ℕ) (seat : SeatView) : Type 0 where
  pub shape_is : seat.shape ≡ b.shape
  pub loses_is : seat.loses ≡ b.loses
  pub session_is : seat.session ≡ session
  pub asked : seat.asked ≡ []
  pub log : seat.log ≡ []
  pub seen : seat.seen ≡ b.seen
  pub broken : seat.broken ≡ false

-- A session that began on a new seat, read some bytes of a reader, of which others are left where
-- they are known, and has ended as a session may. It was told its reply lines. That its record is
-- broken has ended it only where an entry may be lost.
pub record IsServedSession (b : Beginning) (before after : Option (List ℕ))
    (t : Transcript) : Type 0 where
  pub seat : SeatView
  pub is_new : IsNewSeat b t.part.session seat
  pub read : List ℕ
  pub consumed : Consumes before after read
  pub broke : Bool
  pub ended : HasEnded t.fault after seat
      (record seat { asked = t.part.asked; log = t.part.log; seen = t.part.seen; broken = broke })
      read t.part.asked t.told
  pub lost : t.fault ≡ Some Record → b.loses ≡ true
