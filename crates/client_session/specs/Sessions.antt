-- A session: the bytes read, the entries added, the progress seen, and the bytes written.
use Rattle.std.specs.Prelude.{◌≡◌, ℕ, ◌+◌, ◌<◌, ◌≤◌, ◌⊎◌, Bool, true, false, List, [], ◌∷◌, ◌++◌}
use Rattle.std.specs.Prelude.{length, take, flat_map, Option, Some, None, Result, Ok, Err}
use Rattle.std.specs.List.{AllByRecursion}
use Rattle.std.specs.Io.KnownBytes.{Consumes, Appends, IsAtEnd}
use Rattle.batch.specs.declared.limits.TheConstants.{MAX_TRANSFERS}
use Rattle.batch_book.specs.declared.entry.Entry.{Entry}
use Rattle.batch_book.specs.History.{IsPrefix}
use Rattle.batch_book.specs.Seats.{SeatState}
use Rattle.client_session.specs.declared.limits.TheConstants.{REPLY_BUFFER_BYTES, INPUT_BYTES}
use Rattle.client_session.specs.declared.limits.TheConstants.{LINE_BYTES}
use Rattle.client_session.specs.declared.command.SessionCommand.TheVariants.{Batch, Bye}
use Rattle.client_session.specs.declared.fault.ServeFault.{ServeFault}
use Rattle.client_session.specs.declared.fault.ServeFault.TheVariants.{Read, Write, LineTooLong}
use Rattle.client_session.specs.declared.fault.ServeFault.TheVariants.{Cut, Turns, NoMemory, Record}
use Rattle.client_session.specs.Bytes.{HasNoFeed, IsSessionLine}
use Rattle.client_session.specs.Commands.{Means}
use Rattle.client_session.specs.Seats.{SeatView, GoesOnFrom}
use Rattle.client_session.specs.Turns.{Turn, IsTurn, LostTurn, IsLostTurn, SessionGoesOn, turn_text}
use Rattle.client_session.specs.Turns.{lost_text, lines_text, AreReadings}

-- ---- the session

abbrev pub lines_of : List Turn → List ℕ
lines_of turns = flat_map (λ (t : Turn). t.did.line) turns

abbrev pub added_entries : List Turn → List Entry
added_entries turns = flat_map (λ (t : Turn). t.did.entries) turns

-- These commands stand in the bytes, one after another, and the rest after them. Just the entries
-- of what they did are new in what the seat asked, which is the same one, and the text is their
-- reply lines. The record of the seat's calls broke after them, or it didn't.
pub record IsSession (breaks : Bool) (old new : SeatView) (turns : List Turn)
    (bytes rest : List ℕ) (entries : List Entry) (text : List ℕ) : Type 0 where
  pub each : AllByRecursion (IsTurn old.shape old.session) turns
  pub bytes_are : bytes ≡ flat_map turn_text turns ++ rest
  pub entries_are : entries ≡ added_entries turns
  pub text_is : text ≡ lines_of turns
  pub readings : AreReadings old.seen new.seen turns
  pub seat : GoesOnFrom breaks old new

-- none of them is `bye`
abbrev pub GoOn : List Turn → Type 0
GoOn turns = AllByRecursion (λ (t : Turn). SessionGoesOn t.command) turns

-- the last of them is, and it alone
abbrev pub EndByBye : List Turn → Type 0
EndByBye turns =
    (before : List Turn) × (t : Turn) × (turns ≡ before ++ t ∷ []) × GoOn before
    × (t.command ≡ Some Bye)

-- ---- how it ends

-- none of them is `bye`, or the last
abbrev pub MayEnd : List Turn → Type 0
MayEnd turns = GoOn turns ⊎ EndByBye turns

-- what is left to read where a session has ended by itself: nothing after a whole command; after
-- `bye` it isn't looked at
abbrev pub IsWholeSession : List Turn → Option (List ℕ) → List ℕ → Type 0
IsWholeSession turns known rest = (GoOn turns × (rest ≡ []) × IsAtEnd known) ⊎ EndByBye turns

-- the line of a batch that isn't too long
abbrev pub BeginsBatch : List ℕ → ℕ → Type 0
BeginsBatch head count = Means head (Some (Batch count)) × (count ≤ MAX_TRANSFERS)

-- none, or some lines of a batch, but not all
abbrev pub IsShort : List (List ℕ) → Type 0
IsShort [] = Unit {0}
IsShort (head ∷ body) = (count : ℕ) × BeginsBatch head count × (length body < count)

-- less than a whole command: such lines, and what stands after them
pub record IsPartialCommand (rest : List ℕ) : Type 0 where
  pub lines : List (List ℕ)
  pub part : List ℕ
  pub each : AllByRecursion IsSessionLine lines
  pub short : IsShort lines
  pub whole : rest ≡ lines_text lines ++ part

-- the line of a batch and some that belong to it, whose text couldn't be kept, and no more after
-- them than was read with the last of them
pub record IsUnkept (rest : List ℕ) : Type 0 where
  pub head : List ℕ
  pub body : List (List ℕ)
  pub part : List ℕ
  pub count : ℕ
  pub each : AllByRecursion IsSessionLine (head ∷ body)
  pub begins : BeginsBatch head count
  pub belong : length body ≤ count
  pub room : length part ≤ INPUT_BYTES
  pub whole : rest ≡ lines_text (head ∷ body) ++ part

-- what stands after the commands that were served where a fault ends the session
abbrev pub RestAt : ServeFault → Option (List ℕ) → List ℕ → Type 0
RestAt Read known rest = (p : IsPartialCommand rest) × IsSessionLine p.part
RestAt LineTooLong known rest =
    (p : IsPartialCommand rest) × HasNoFeed (take (LINE_BYTES + 1) p.part)
    × (LINE_BYTES < length p.part)
RestAt Cut known rest =
    (p : IsPartialCommand rest) × IsSessionLine p.part × (0 < length rest) × IsAtEnd known
RestAt Turns known rest = (p : IsPartialCommand rest) × IsSessionLine p.part
RestAt NoMemory known rest = IsUnkept rest
RestAt fault known rest = ⊥

-- all that the session asked could be told to it
abbrev pub IsAllRecorded : SeatView → Type 0
IsAllRecorded seat = seat.log ≡ seat.asked

-- an end of the last command's line
abbrev pub IsEndOfLastLine : List Turn → List ℕ → Type 0
IsEndOfLastLine turns missing =
    (before : List Turn) × (t : Turn) × (turns ≡ before ++ t ∷ [])
    × (front : List ℕ) × (t.did.line ≡ front ++ missing)

-- A session whose last reply lines were written in part, or not at all: what is missing is no more
-- than a session holds. Where no entry can be lost, that is the last line alone.
pub record IsCutOff (old new : SeatView) (bytes : List ℕ) (entries : List Entry)
    (written : List ℕ) : Type 0 where
  pub turns : List Turn
  pub rest : List ℕ
  pub missing : List ℕ
  pub session : IsSession false old new turns bytes rest entries (written ++ missing)
  pub may_end : MayEnd turns
  pub few : length missing ≤ REPLY_BUFFER_BYTES
  pub recorded : IsAllRecorded new
  pub last : old.loses ≡ false → IsEndOfLastLine turns missing

-- the texts of these commands, and the entries that they added
abbrev pub lost_texts : List LostTurn → List ℕ
lost_texts lost = flat_map lost_text lost

abbrev pub lost_entries : List LostTurn → List Entry
lost_entries lost = flat_map (λ (t : LostTurn). t.entries) lost

-- A session whose record is broken: the replies to these commands were told. Some were read whole
-- after them, and done, and their replies are held, which are no more than a session holds. And
-- maybe a call of one more wasn't made.
pub record IsBroken (old new : SeatView) (bytes : List ℕ) (entries : List Entry)
    (written : List ℕ) : Type 0 where
  pub turns : List Turn
  pub held : List Turn
  pub lost : List LostTurn
  pub rest : List ℕ
  pub made : List Entry
  pub session : IsSession true old new (turns ++ held) bytes (lost_texts lost ++ rest) made
      (lines_of (turns ++ held))
  pub may_end : MayEnd (turns ++ held)
  pub are_lost : AllByRecursion (IsLostTurn old.session) lost
  pub one : length lost ≤ 1
  pub entries_are : entries ≡ made ++ lost_entries lost
  pub told : written ≡ lines_of turns
  pub few : length (lines_of held) ≤ REPLY_BUFFER_BYTES
  pub recorded : IsPrefix (old.log ++ added_entries turns) new.log

-- the session of these bytes, entries and lines has ended so: by itself, or by a fault
abbrev pub HasEnded : Option ServeFault → Option (List ℕ) → SeatView → SeatView → List ℕ
    → List Entry → List ℕ → Type 0
HasEnded None known old new bytes entries written =
    (turns : List Turn) × (rest : List ℕ)
    × IsSession false old new turns bytes rest entries written
    × IsWholeSession turns known rest × IsAllRecorded new
HasEnded (Some Write) known old new bytes entries written = IsCutOff old new bytes entries written
HasEnded (Some Record) known old new bytes entries written = IsBroken old new bytes entries written
HasEnded (Some fault) known old new bytes entries written =
    (turns : List Turn) × (rest : List ℕ)
    × IsSession false old new turns bytes rest entries written
    × GoOn turns × RestAt fault known rest × IsAllRecorded new

-- A session whose reply lines were told but for those that are held. Where no entry can be lost,
-- that is one line at most.
pub record IsHolding (old new : SeatView) (bytes rest : List ℕ) (entries : List Entry)
    (written held : List ℕ) : Type 0 where
  pub all : List Turn
  pub turns : List Turn
  pub waiting : List Turn
  pub are : all ≡ turns ++ waiting
  pub session : IsSession false old new all bytes rest entries (written ++ held)
  pub told : written ≡ lines_of turns
  pub recorded : IsPrefix (old.log ++ added_entries turns) new.log
  pub one : old.loses ≡ false → length waiting ≤ 1

-- the session has ended so, but for the lines that are held
abbrev pub HoldsAtEnd : Option ServeFault → Option (List ℕ) → List ℕ → SeatView → SeatView
    → List ℕ → List Entry → List ℕ → Type 0
HoldsAtEnd None known held old new bytes entries written =
    (rest : List ℕ) × (h : IsHolding old new bytes rest entries written held)
    × IsWholeSession h.all known rest
HoldsAtEnd (Some Write) known held old new bytes entries written =
    IsCutOff old new bytes entries written
HoldsAtEnd (Some Record) known held old new bytes entries written =
    IsBroken old new bytes entries written
HoldsAtEnd (Some fault) known held old new bytes entries written =
    (rest : List ℕ) × (h : IsHolding old new bytes rest entries written held)
    × GoOn h.all × RestAt fault known rest

-- no more can be told after it
abbrev pub cuts_off : Option ServeFault → Bool
cuts_off (Some Write) = true
cuts_off (Some Record) = true
cuts_off fault = false

-- the fault of a result
abbrev pub fault_in : {T : Type 0} → Result T ServeFault → Option ServeFault
fault_in (Ok x) = None
fault_in (Err fault) = Some fault

-- ---- what a session does to a reader, a writer and a seat

-- the bytes that the reader gave, the entries that are new in what the seat asked, and those bytes
-- that the writer took
pub record GoesThrough (before after out_before out_after : Option (List ℕ)) (old new : SeatView)
    (IsSo : List ℕ → List Entry → List ℕ → Type 0) : Type 0 where
  pub bytes : List ℕ
  pub entries : List Entry
  pub written : List ℕ
  pub consumed : Consumes before after bytes
  pub asked : new.asked ≡ old.asked ++ entries
  pub appended : Appends out_before out_after written
  pub is_so : IsSo bytes entries written

-- ---- the session of a seat

-- the seat that comes back, and the fault, if there is one
abbrev pub seat_back : Result SeatState (SeatState × ServeFault) → SeatState
seat_back (Ok seat) = seat
seat_back (Err e) = e.0

abbrev pub fault_back : Result SeatState (SeatState × ServeFault) → Option ServeFault
fault_back (Ok seat) = None
fault_back (Err e) = Some e.1

-- a session was served from this seat, which its exchange views so, with this result
abbrev pub IsServed : (SeatState → SeatView) → SeatState
    → Result SeatState (SeatState × ServeFault)
    → (before after out_before out_after : Option (List ℕ)) → Type 0
IsServed view seat result before after out_before out_after =
    let old = view seat in
    let new = view (seat_back result) in
    GoesThrough before after out_before out_after old new
    (HasEnded (fault_back result) after old new)
