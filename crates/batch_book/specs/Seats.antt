-- The seats of an exchange, and their lists.
use Rattle.std.specs.Prelude.{◌≡◌, ℕ, ◌≤◌, ◌==◌, if◌then◌else◌, max, ◌||◌, Bool, true, List, []}
use Rattle.std.specs.Prelude.{◌++◌, length, sum_by, Option, Some, Result, Ok, Err, is_err}
use Rattle.atomic_table.specs.Seated.{TableId}
use Rattle.progress_word.specs.Watchers.{WatcherView}
use Rattle.session_lists.specs.Lists.{own_of}
use Rattle.batch_book.specs.declared.call.Call.{Call}
use Rattle.batch_book.specs.declared.entry.Entry.{Entry}
use Rattle.batch_book.specs.declared.reply.Reply.{Reply}
use Rattle.batch_book.specs.declared.unrecorded.Unrecorded.{Unrecorded}
use Rattle.batch_book.specs.History.{IsPrefix}
use Rattle.batch_book.specs.Recording.{asked_by, value_made}
use Rattle.batch_book.specs.Values.{greatest}

-- What contracts see of a seat: the word of its exchange, its session, the list of what it asked,
-- and of that what could be told to it, the greatest value that it saw of the word, that to which
-- it raised the word, its parts, and whether the record of its calls is broken, so that a reply was
-- lost
pub record SeatState : Type 0 where
  pub exchange : Option TableId
  pub session : ℕ
  pub asked : List Entry
  pub log : List Entry
  pub seen : ℕ
  pub raised : ℕ
  pub parts : ℕ
  pub broken : Bool

-- a seat with this watcher on the word of its exchange
abbrev pub open_seat : WatcherView → ℕ → (asked log : List Entry) → ℕ → Bool → SeatState
open_seat o session asked log parts broken =
    record {
      exchange = Some o.word;
      session = session;
      asked = asked;
      log = log;
      seen = o.seen;
      raised = o.raised;
      parts = parts;
      broken = broken;
    }

-- it is the seat of the same session at the same exchange, with as many parts
pub record IsSameSeat (old new : SeatState) : Type 0 where
  pub exchange : new.exchange ≡ old.exchange
  pub session : new.session ≡ old.session
  pub parts : new.parts ≡ old.parts

-- What a call leaves of a seat. It has asked this too, where it was made. No less could be told to
-- it than before. The seat has seen that the word is no less than the reply's value, and nothing
-- new where that is 0. Where the call wasn't made the record is broken, and it stays so.
pub record IsAsked (old : SeatState) (call : Call) (made : Result Reply Unrecorded)
    (new : SeatState) : Type 0 where
  pub seat : IsSameSeat old new
  pub asked : new.asked ≡ old.asked ++ asked_by old.session call made
  pub log : IsPrefix old.log new.log
  pub later : old.seen ≤ new.seen
  pub seen : value_made made ≤ new.seen
  pub quiet : value_made made ≡ 0 → new.seen ≡ old.seen
  pub broken : new.broken ≡ is_err made || old.broken

-- all that the seat has asked could be told to it; or the record is broken
abbrev pub IsSynced : SeatState → Result (Unit {0}) Unrecorded → SeatState → Type 0
IsSynced old (Ok done) new = new ≡ record old { log = old.asked }
IsSynced old (Err lost) new = new ≡ record old { broken = true }

-- the entries of whose runs a session's seat has told the word: what it asked, and for the first
-- seat those too that the book had before
abbrev pub raised_for : List Entry → ℕ → List Entry → List Entry
raised_for earlier session asked = (if session == 0 then earlier else []) ++ asked

-- the seat has raised the word to the greatest value of its own entries
abbrev pub HasRaisedOwn : List Entry → SeatState → Type 0
HasRaisedOwn earlier seat = seat.raised ≡ greatest (raised_for earlier seat.session seat.asked)

-- the parts of these seats together
abbrev pub parts_of : List SeatState → ℕ
parts_of seats = sum_by (λ s. s.parts) seats

-- the entries that they asked together
abbrev pub entries_of : List SeatState → ℕ
entries_of seats = sum_by (λ s. length s.asked) seats

-- the entries of a session
abbrev pub own : ℕ → List Entry → List Entry
own session history = own_of (λ e. e.session) session history

-- what the seat asked is what was made, filtered to its session
abbrev pub AskedAgrees : List Entry → SeatState → Type 0
AskedAgrees made seat = seat.asked ≡ own seat.session made

-- what could be told to the seat are the first of its session's entries that stand where they
-- belong
abbrev pub IsRecorded : List Entry → SeatState → Type 0
IsRecorded standing seat = IsPrefix seat.log (own seat.session standing)

-- a watcher from which the word was raised to a value, or needn't be
pub record Reaches (old : WatcherView) (value : ℕ) (new : WatcherView) : Type 0 where
  pub word : new.word ≡ old.word
  pub parts : new.parts ≡ old.parts
  pub raised : new.raised ≡ max old.raised value
  pub later : old.seen ≤ new.seen
  pub seen : value ≤ new.seen
