-- The sessions of an exchange while it is open.
use Rattle.std.specs.Prelude.{◌≡◌, ℕ, ◌<◌, Bool, false, List, [], map, All, Some}
use Rattle.progress_word.specs.declared.limits.TheConstants.{ALL_PARTS}
use Rattle.batch_book.specs.Exchanges.{Exchange}
use Rattle.batch_book.specs.Seats.{SeatState, parts_of}
use Rattle.session_answers.specs.declared.session.ScriptSession.{ScriptSession}
use Rattle.session_answers.specs.Frames.{Transcript, session_text}
use Rattle.session_answers.specs.Histories.{part_of}
use Rattle.session_answers.specs.Serving.{AreSessionsOf}
use Rattle.session_answers.specs.Sessions.{Beginning}

-- what contracts see of a session that has ended
abbrev pub transcript : {L : Type 0} → ScriptSession L → Transcript
transcript s = record { part = part_of s.seat; told = s.told.items; fault = s.fault }

-- what is printed of a session that has ended
abbrev pub session_bytes : {L : Type 0} → ScriptSession L → List ℕ
session_bytes s = session_text (transcript s)

-- what sessions begin with at this exchange, from seats that have seen so much
abbrev pub begun_at : Bool → Exchange → ℕ → Beginning
begun_at loses x seen = record { shape = x.shape; seen = seen; loses = loses }

-- a seat of this exchange that has asked nothing
pub record IsFresh (x : Exchange) (seat : SeatState) : Type 0 where
  pub exchange : seat.exchange ≡ Some x.word
  pub asked : seat.asked ≡ []
  pub log : seat.log ≡ []
  pub broken : seat.broken ≡ false

-- it is that of one of so many clients
abbrev pub IsSeatReady : Exchange → ℕ → SeatState → Type 0
IsSeatReady x clients seat = IsFresh x seat × (seat.session < clients)

-- these are all seats of this exchange
pub record AreAllSeats (x : Exchange) (seats : List SeatState) : Type 0 where
  pub each : All (λ s. s.exchange ≡ Some x.word) seats
  pub parts : parts_of seats ≡ ALL_PARTS

-- each script has its session, and these have all seats of the exchange
pub record AreServedAt {L : Type 0} (x : Exchange) (start : ℕ) (scripts : List (List ℕ))
    (sessions : List (ScriptSession L)) : Type 0 where
  pub all_seats : AreAllSeats x (map (λ s. s.seat) sessions)
  pub of_scripts : AreSessionsOf (begun_at false x start) scripts (map transcript sessions)
