-- What the laws state. Contracts of `recorded_sessions` cite `IsRecorded`; of the rest no contract
-- of a call cites any.
use Rattle.std.specs.Prelude.{◌≡◌, ℕ, ◌^◌, ◌<◌, ◌≤◌, Bool, List, [], ◌++◌, length, All, Option}
use Rattle.std.specs.Prelude.{None, Some}
use Rattle.batch.specs.declared.limits.TheConstants.{MAX_DIGITS}
use Rattle.module_memory.specs.Images.{image_of}
use Rattle.module_memory.specs.Store.{Store}
use Rattle.batch_book.specs.declared.entry.Entry.{Entry}
use Rattle.batch_book.specs.History.{BookView, IsReplay, IsPrefix}
use Rattle.batch_book.specs.Machine.{Machine, opened}
use Rattle.book_record.specs.RecordText.{CanTell}
use Rattle.book_record.specs.Fronts.{last_lines}
use Rattle.book_record.specs.Heads.{AreNames, record_of, session_limit, whole_record}
use Rattle.book_record.specs.Streams.{IsWritten}
use Rattle.rack_answers.specs.Openings.{IsRackOf}
use Rattle.record_replay.specs.ReplayAnswers.{IsReplayPrinted}
use Rattle.plan_answers.specs.declared.limits.TheConstants.{DONE}
use Rattle.plan_answers.specs.Refusals.{Printed}
use Rattle.session_answers.specs.HostAnswers.{KnownClients, SessionEnd, AreHosted}
use Rattle.session_answers.specs.Serving.{IsServeAnswer}
use Rattle.session_answers.specs.Talking.{HasTalked}

-- ---- what a record is replayed to

-- the same shape is given, or none
abbrev pub IsGivenShape : Option (List ℕ) → List ℕ → Type 0
IsGivenShape None shape = Unit {0}
IsGivenShape (Some given) shape = given ≡ shape

-- Given the same image, and the same shape or none, `replay` answers what stands in the file by the
-- image of the words to which these entries lead.
pub record IsReplayedTo (shape : List ℕ) (image : Option (List ℕ)) (opening : Store)
    (es : List Entry) (file : List ℕ) : Type 0 where
  pub each : All CanTell es
  pub end : Machine
  pub led : IsReplay (opened opening) es end
  pub answered : (given : Option (List ℕ)) → IsGivenShape given shape
      → IsReplayPrinted given file image None
      (record { text = image_of end.store; status = DONE })

-- So it is with the first entries of the book's history. They have all that stand where they
-- belong, in their order, so all that any session got a reply to; and maybe some without.
pub record IsReplayedInPart (shape : List ℕ) (image : Option (List ℕ)) (book : BookView)
    (file : List ℕ) : Type 0 where
  pub front : List Entry
  pub has_told : IsPrefix book.durable front
  pub first : IsPrefix front book.history
  pub replayed : IsReplayedTo shape image book.opening front file

-- that which scripts leave, all at once
abbrev pub ServeIsReplayed : Type 0
ServeIsReplayed =
    (shape : List ℕ) (image : Option (List ℕ)) (scripts : List (List ℕ)) (printed : Printed)
    (book : BookView) → IsServeAnswer shape image scripts printed (Some book)
    → length scripts ≤ 10 ^ MAX_DIGITS
    → IsReplayedTo shape image book.opening book.history
    (whole_record [] book.opening book.history)

-- ---- a record that is written as calls are made

-- an exchange begins over this book: its history is legal, and a record can hold it whose head
-- names this many clients
pub record CanGoOn (clients : ℕ) (was : BookView) : Type 0 where
  pub led : IsReplay (opened was.opening) was.history was.machine
  pub told : All CanTell was.history
  pub sessions : All (λ e. e.session < session_limit clients) was.history

-- A file has at least the entries of this book that stand where they belong. Wherever it was cut,
-- it is a front of the whole record.
pub record IsRecorded (names : List (List ℕ)) (book : BookView) (file : List ℕ) : Type 0 where
  pub rest : List ℕ
  pub has : file ≡ record_of names book.opening book.durable ++ rest
  pub missing : List ℕ
  pub cut : whole_record names book.opening book.history ≡ file ++ missing

-- An exchange over one book left the other. A stream's writer held the record so far, and has got
-- the rest. So it is with what it holds; and where all entries stand, a front of the last lines may
-- follow.
abbrev pub StreamIsRecorded : Type 0
StreamIsRecorded =
    (names : List (List ℕ)) (was left : BookView) (text : List ℕ) → left.opening ≡ was.opening
    → IsWritten (Some (record_of names was.opening was.history)) (Some text) was.history
    left.durable
    left.history left.whole
    → IsRecorded names left text
    × (left.durable ≡ left.history → (end missing : List ℕ)
    → last_lines (length left.history) ≡ end ++ missing → IsRecorded names left (text ++ end))

-- that of the clients of a host
abbrev pub HostIsReplayed : Type 0
HostIsReplayed =
    (shape : List ℕ) (image : Option (List ℕ)) (loses : Bool) (was left : BookView)
    (g : KnownClients) (ends : List SessionEnd) (printed : Printed) (names : List (List ℕ))
    (file : List ℕ) → IsRackOf shape image was.opening → AreNames names (length names)
    → CanGoOn (length names) was → AreHosted loses was g ends printed left
    → g.clients ≤ session_limit (length names) → IsRecorded names left file
    → IsReplayedInPart shape image left file

-- that of one session
abbrev pub TalkIsReplayed : Type 0
TalkIsReplayed =
    (shape : List ℕ) (image : Option (List ℕ)) (loses : Bool) (was left : BookView)
    (before after : Option (List ℕ)) (told : List ℕ) (printed : Printed) (names : List (List ℕ))
    (file : List ℕ) → IsRackOf shape image was.opening → AreNames names (length names)
    → CanGoOn (length names) was → HasTalked loses was before after told printed left
    → IsRecorded names left file → IsReplayedInPart shape image left file
