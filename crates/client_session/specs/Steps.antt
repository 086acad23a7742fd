-- What the parts of a session do.
use Rattle.std.specs.Prelude.{◌≡◌, ℕ, ◌+◌, ◌*◌, ◌<◌, ◌≤◌, ◌⊎◌, Bool, true, false, List, [], ◌++◌}
use Rattle.std.specs.Prelude.{length, take, Option, Some, Result, Ok, Err, MatchBool}
use Rattle.std.specs.List.{AllByRecursion}
use Rattle.std.specs.Io.KnownBytes.{Consumes, Appends, IsAtEnd}
use Rattle.byte_streams.specs.Writing.{IsCutShort}
use Rattle.batch.specs.declared.limits.TheConstants.{MAX_TRANSFERS, MAX_WORDS}
use Rattle.batch_book.specs.declared.call.Call.{Call}
use Rattle.batch_book.specs.declared.entry.Entry.{Entry}
use Rattle.batch_book.specs.declared.call.Call.TheVariants.{Fetch}
use Rattle.batch_book.specs.declared.reply.Reply.{Reply}
use Rattle.batch_book.specs.declared.reply.Reply.TheVariants.{Fetched, Ran}
use Rattle.client_session.specs.declared.limits.TheConstants.{REPLY_BUFFER_BYTES, INPUT_BYTES}
use Rattle.client_session.specs.declared.limits.TheConstants.{LINE_BYTES}
use Rattle.client_session.specs.declared.input.InputFault.{InputFault}
use Rattle.client_session.specs.declared.input.InputFault.TheVariants as input
use Rattle.client_session.specs.declared.command.SessionCommand.{SessionCommand}
use Rattle.client_session.specs.declared.command.SessionCommand.TheVariants.{Batch, Bye}
use Rattle.client_session.specs.declared.fault.ServeFault.{ServeFault}
use Rattle.client_session.specs.declared.fault.ServeFault.TheVariants.{Read, Write, LineTooLong}
use Rattle.client_session.specs.declared.fault.ServeFault.TheVariants.{Cut, Turns, NoMemory, Record}
use Rattle.client_session.specs.Bytes.{PendingInput, HasLine, HasNoFeed, IsSessionLine}
use Rattle.client_session.specs.declared.pending_line.PendingLine.{PendingLine}
use Rattle.client_session.specs.Commands.{Means}
use Rattle.client_session.specs.Seats.{SeatView, GoesOnFrom}
use Rattle.client_session.specs.Turns.{Turn, IsTurn, LostTurn, IsLostTurn, SessionGoesOn}
use Rattle.client_session.specs.Turns.{CommandOutcome}
use Rattle.client_session.specs.Turns.{turn_text, lost_text, lines_text, readings_of, shown}
use Rattle.client_session.specs.Sessions.{RestAt}

abbrev pub of_input : InputFault → ServeFault
of_input input.Read = Read
of_input input.LineTooLong = LineTooLong
of_input input.Cut = Cut
of_input input.Turns = Turns

-- the call is none of `Fetch`
abbrev pub IsNoFetch : Call → Type 0
IsNoFetch (Fetch id) = ⊥
IsNoFetch call = Unit {0}

-- a line can tell the reply: it has no batch, and no more words than a run can move
abbrev pub CanBeTold : Reply → Type 0
CanBeTold (Fetched batch) = ⊥
CanBeTold (Ran run settings words) = words ≤ MAX_TRANSFERS * MAX_WORDS
CanBeTold reply = Unit {0}

-- the line in front of these bytes, and what it commands
abbrev pub IsFront : List ℕ → PendingLine → Type 0
IsFront bytes front =
    HasLine bytes front.length × (front.length ≤ LINE_BYTES)
    × Means (take front.length bytes) front.command

-- no lines belong to the command after its own
abbrev pub StandsAlone : Option SessionCommand → Type 0
StandsAlone (Some (Batch count)) = MAX_TRANSFERS < count
StandsAlone command = Unit {0}

-- the seat did this
pub record Did (old new : SeatView) (a : CommandOutcome) : Type 0 where
  pub goes_on : GoesOnFrom false old new
  pub asked : new.asked ≡ old.asked ++ a.entries
  pub low : AllByRecursion (λ r. old.seen ≤ r) (readings_of a.reading)
  pub high : AllByRecursion (λ v. v ≤ new.seen) (shown a)

-- something such was done, and this is its line
pub record Acts (old new : SeatView) (IsSo : CommandOutcome → Type 0) (line : List ℕ) : Type 0 where
  pub answer : CommandOutcome
  pub did : Did old new answer
  pub is_so : IsSo answer
  pub line_is : line ≡ answer.line

-- a call wasn't made, since the record is broken: such entries were added before
pub record Breaks (fault : ServeFault) (old new : SeatView)
    (HasBegun : List Entry → Type 0) : Type 0 where
  pub fault_is : fault ≡ Record
  pub goes_on : GoesOnFrom true old new
  pub entries : List Entry
  pub asked : new.asked ≡ old.asked ++ entries
  pub begun : HasBegun entries

-- something such was done, and this is its line; or a call wasn't made
abbrev pub IsDoneOrFailed : {T : Type 0} → SeatView → SeatView → (CommandOutcome → Type 0)
    → (List Entry → Type 0)
    → List ℕ → Result T ServeFault → Type 0
IsDoneOrFailed old new IsSo HasBegun line (Ok done) = Acts old new IsSo line
IsDoneOrFailed old new IsSo HasBegun line (Err fault) = Breaks fault old new HasBegun

-- n lines were taken from the input, and stand after the text
pub record LinesTaken (before after : Option (List ℕ)) (old new : PendingInput)
    (text_before text_after : List ℕ) (n : ℕ) : Type 0 where
  pub bytes : List ℕ
  pub consumed : Consumes before after bytes
  pub lines : List (List ℕ)
  pub each : AllByRecursion IsSessionLine lines
  pub count : length lines ≡ n
  pub text : text_after ≡ text_before ++ lines_text lines
  pub kept : old.pending ++ bytes ≡ lines_text lines ++ new.pending

-- what is pending where a fault stopped the taking of lines
abbrev pub PendingAt : ServeFault → Option (List ℕ) → PendingInput → Type 0
PendingAt Read known h = IsSessionLine h.pending
PendingAt LineTooLong known h =
    HasNoFeed (take (LINE_BYTES + 1) h.pending) × (LINE_BYTES < length h.pending)
PendingAt Cut known h = IsSessionLine h.pending × IsAtEnd known
PendingAt Turns known h = IsSessionLine h.pending
PendingAt NoMemory known h = length h.pending ≤ INPUT_BYTES
PendingAt fault known h = ⊥

-- some lines were taken, fewer than wanted, and then a fault came
pub record LinesStopped (fault : ServeFault) (before after : Option (List ℕ))
    (old new : PendingInput) (text_before text_after : List ℕ) (wanted : ℕ) : Type 0 where
  pub n : ℕ
  pub fewer : n < wanted
  pub taken : LinesTaken before after old new text_before text_after n
  pub at : PendingAt fault after new

-- a turn was taken from the input, and done
pub record TurnTaken (before after : Option (List ℕ)) (old new : PendingInput) (from to : SeatView)
    (line : List ℕ) (ends : Bool) : Type 0 where
  pub turn : Turn
  pub is : IsTurn from.shape from.session turn
  pub bytes : List ℕ
  pub consumed : Consumes before after bytes
  pub kept : old.pending ++ bytes ≡ turn_text turn ++ new.pending
  pub did : Did from to turn.did
  pub line_is : line ≡ turn.did.line
  pub last : MatchBool ends (turn.command ≡ Some Bye) (SessionGoesOn turn.command)

-- a fault came first
pub record TurnStopped (fault : ServeFault) (before after : Option (List ℕ)) (old : PendingInput)
    (from to : SeatView) : Type 0 where
  pub bytes : List ℕ
  pub consumed : Consumes before after bytes
  pub same : to ≡ from
  pub rest : RestAt fault after (old.pending ++ bytes)

-- a turn was taken from the input, of which nothing is told, since a call of it wasn't made
pub record TurnLost (before after : Option (List ℕ)) (old : PendingInput)
    (from to : SeatView) : Type 0 where
  pub turn : LostTurn
  pub is : IsLostTurn from.session turn
  pub bytes : List ℕ
  pub consumed : Consumes before after bytes
  pub rest : List ℕ
  pub kept : old.pending ++ bytes ≡ lost_text turn ++ rest
  pub goes_on : GoesOnFrom true from to
  pub asked : to.asked ≡ from.asked ++ turn.entries

-- either, by the fault
abbrev pub TurnFails : ServeFault → (before after : Option (List ℕ)) → PendingInput → SeatView
    → SeatView → Type 0
TurnFails Record before after old from to = TurnLost before after old from to
TurnFails fault before after old from to = TurnStopped fault before after old from to

-- all that the seat asked can be told, and these lines were written
pub record AreTold (old new : SeatView) (out_before out_after : Option (List ℕ))
    (lines : List ℕ) : Type 0 where
  pub seat : new ≡ record old { log = old.asked }
  pub appended : Appends out_before out_after lines

-- the lines that were held were told; or they are held still, where an entry can be lost
abbrev pub MayTell : (old new : SeatView) → (out_before out_after : Option (List ℕ))
    → (held still : List ℕ) → Type 0
MayTell old new out_before out_after held still =
    (AreTold old new out_before out_after held × (still ≡ []))
    ⊎ ((old.loses ≡ true) × (new ≡ old) × (out_after ≡ out_before) × (still ≡ held))

-- There are some, no more than a session holds, and they weren't told: so much as a front of them
-- was written. Or the record is broken, and nothing was.
abbrev pub AreUntold : ServeFault → (old new : SeatView) → (out_before out_after : Option (List ℕ))
    → List ℕ → Type 0
AreUntold Write old new out_before out_after lines =
    (new ≡ record old { log = old.asked }) × (0 < length lines)
    × IsCutShort out_before out_after lines × (length lines ≤ REPLY_BUFFER_BYTES)
AreUntold Record old new out_before out_after lines =
    (new ≡ record old { broken = true }) × (out_after ≡ out_before)
    × (length lines ≤ REPLY_BUFFER_BYTES)
AreUntold fault old new out_before out_after lines = ⊥
