-- The sessions of a host's clients while the exchange is open.
use Rattle.std.specs.Prelude.{◌≡◌, ℕ, ◌≤◌, ◌==◌, Bool, true, false, List, [], ◌∷◌, map, Option}
use Rattle.std.specs.Prelude.{Some, None, vec_capacity}
use Rattle.batch_book.specs.Exchanges.{Exchange}
use Rattle.batch_book.specs.Seats.{SeatState, IsSameSeat}
use Rattle.session_answers.specs.declared.threads_started.ThreadsStarted.{ThreadsStarted}
use Rattle.session_answers.specs.declared.ended_session.Ending.{Ending}
use Rattle.session_answers.specs.declared.host_threads.Endings.{Endings}
use Rattle.session_answers.specs.declared.host_threads.OfSeat.{OfSeat}
use Rattle.session_answers.specs.declared.host_threads.Returned.{Returned}
use Rattle.session_answers.specs.declared.host_threads.SeatThread.{SeatThread}
use Rattle.session_answers.specs.declared.host_threads.SeatThread.TheVariants.{Started, Refused}
use Rattle.session_answers.specs.Histories.{part_of}
use Rattle.session_answers.specs.Hosting.{AreAllSeats, begun_at}
use Rattle.session_answers.specs.HostAnswers.{KnownClients, HostedSession, IsHostedSession}
use Rattle.session_answers.specs.HostAnswers.{AreHostedSessions, seen_end}

-- the seat of a session that has ended, and how it ended
abbrev pub Ended : Type 0 → Type 0
Ended C = SeatState × Ending C

-- what contracts see of it
abbrev pub hosted_session : {C : Type 0} → (C → Option (List ℕ)) → Ended C → HostedSession
hosted_session received s = record { part = part_of s.0; end = seen_end received s.1 }

-- the session of this seat has ended
pub record IsOfSeat {C : Type 0} (loses : Bool) (x : Exchange) (g : KnownClients)
    (received : C → Option (List ℕ)) (seat : SeatState) (s : Ended C) : Type 0 where
  pub same : IsSameSeat seat s.0
  pub its :
      IsHostedSession (begun_at loses x seat.seen) g (part_of s.0)
      (seen_end received s.1)

-- each client has had its session, and these have all seats of the exchange
pub record AreHostedSessionsAt {C : Type 0} (loses : Bool) (x : Exchange) (start : ℕ)
    (g : KnownClients) (received : C → Option (List ℕ))
    (sessions : List (Ended C)) : Type 0 where
  pub all_seats : AreAllSeats x (map (λ s. s.0) sessions)
  pub of_clients :
      AreHostedSessions (begun_at loses x start) g (map (hosted_session received) sessions)

-- ---- threads

-- one by one, these are so to those
abbrev pub AreEach : {A B : Type 0} → (A → B → Type 0) → List A → List B → Type 0
AreEach P [] [] = Unit {0}
AreEach P (x ∷ xs) (y ∷ ys) = P x y × AreEach P xs ys
AreEach P xs ys = ⊥

-- it was decided that all threads of so many clients are there
abbrev pub begins : ℕ → Option ThreadsStarted → Bool
begins clients None = false
begins clients (Some there) = there.threads == clients

-- its session has ended, where it was decided that sessions begin; else it is as it was
abbrev pub HasReturned : {C : Type 0} → Bool → Exchange → KnownClients → (C → Option (List ℕ))
    → Bool → SeatState → SeatState → Option (Ending C) → Type 0
HasReturned loses x g received true seat back (Some e) =
    IsSameSeat seat back
    × IsHostedSession (begun_at loses x seat.seen) g (part_of back) (seen_end received e)
HasReturned loses x g received false seat back None = back ≡ seat
HasReturned loses x g received begun seat back end = ⊥

-- what the thread of this seat gives back, which waited for this latch
pub record IsReturned {L C : Type 0} (loses : Bool) (x : Exchange) (g : KnownClients)
    (received : C → Option (List ℕ)) (latch : ℕ) (seat : SeatState) (r : Returned L C) : Type 0
  where
    pub its_latch : r.decided.of ≡ latch
    pub has : HasReturned loses x g received (begins g.clients r.decided.value) seat r.seat r.ending

-- a promise of this seat at a host
pub record IsOf {L D K E Q : Type 0} (known : D → KnownClients) (x : Exchange) (g : KnownClients)
    (latch : ℕ) (seat : SeatState) (p : OfSeat L D K E Q) : Type 0 where
  pub exchange : p.exchange.value ≡ x
  pub clients : known p.streams.value ≡ g
  pub its_latch : p.latch.value.id ≡ latch
  pub its_seat : p.seat.value ≡ seat

-- the thread of this seat, or what it would give back
abbrev pub IsThreadOf : {L D K R W C B P E Q : Type 0} → Bool → (D → KnownClients)
    → (C → Option (List ℕ)) → Exchange → KnownClients → ℕ → SeatState
    → SeatThread L D K R W C B P E Q → Type 0
IsThreadOf loses known received x g latch seat (Started thread) =
    IsOf known x g latch seat thread.promise
IsThreadOf loses known received x g latch seat (Refused returned) =
    IsReturned loses x g received latch seat returned

-- it couldn't be had
abbrev pub is_refused : {L D K R W C B P E Q : Type 0} → SeatThread L D K R W C B P E Q → Bool
is_refused (Started thread) = false
is_refused (Refused returned) = true

-- what the threads of all these seats gave back
abbrev pub HaveReturned : {C : Type 0} → Bool → Exchange → KnownClients
    → (C → Option (List ℕ)) → Bool → List SeatState → List SeatState → List (Ending C) → Type 0
HaveReturned {C} loses x g received true seats back endings =
    (sessions : List (Ended C)) × AreEach (IsOfSeat loses x g received) seats sessions
    × (back ≡ map (λ s. s.0) sessions) × (endings ≡ map (λ s. s.1) sessions)
HaveReturned loses x g received false seats back endings = (back ≡ seats) × (endings ≡ [])

-- each client has had its session; these are their seats, and so they ended
abbrev pub AreAllHosted : {C : Type 0} → Bool → Exchange → ℕ → KnownClients
    → (C → Option (List ℕ)) → List SeatState → List (Ending C) → Type 0
AreAllHosted {C} loses x start g received seats endings =
    (sessions : List (Ended C)) × AreHostedSessionsAt loses x start g received sessions
    × (seats ≡ map (λ s. s.0) sessions) × (endings ≡ map (λ s. s.1) sessions)

-- nothing has come back, and there is room for what comes of so many clients
pub record IsRoomFor {L C : Type 0} (clients : ℕ) (back : Endings L C) : Type 0 where
  pub no_seats : back.seats.items ≡ []
  pub no_endings : back.endings.items ≡ []
  pub seats : clients ≤ vec_capacity back.seats
  pub endings : clients ≤ vec_capacity back.endings
