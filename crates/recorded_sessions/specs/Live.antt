-- Live sessions while their record is open.
use Rattle.std.specs.Prelude.{◌≡◌, ℕ, Bool, true, List, [], Option, Some, None, Result, Ok, Err}
use Rattle.std.specs.Prelude.{IfOk, IfErr, IfSome, is_some, length}
use Rattle.clap.specs.Words.{Text}
use Rattle.module_memory.specs.Store.{Store}
use Rattle.batch_book.specs.History.{BookView, AreUnstopped}
use Rattle.plan_answers.specs.Refusals.{Printed, Refuses}
use Rattle.book_record.specs.Streams.{IsWritten as IsStreamed}
use Rattle.book_record.specs.Sums.{numbered}
use Rattle.refusals.specs.declared.refusal.Refusal.{Refusal}
use Rattle.command_words.specs.declared.jobs.RecordFile.{RecordFile}
use Rattle.command_words.specs.declared.jobs.SharedRack.{SharedRack}
use Rattle.refusals.specs.declared.refusal.Refusal.TheVariants.{NoMemory}
use Rattle.session_answers.specs.Histories.{HaveOneHistory}
use Rattle.session_answers.specs.HostAnswers.{AreHosted, IsUnhosted, KnownClients}
use Rattle.session_answers.specs.Talking.{HasTalked, IsUntouched}
use Rattle.session_answers.specs.declared.ended_session.Ending.{Ending}
use Rattle.named_files.specs.Clients.{ends_of}
use Rattle.named_files.specs.Contents.{Holding}
use Rattle.named_files.specs.Notes.{IsRefused}
use Rattle.recorded_sessions.specs.Answers.{IsLiveAnswer, IsWrongStart, Sessions}
use Rattle.recorded_sessions.specs.Outcomes.{IsUnbegunFor}
use Rattle.recorded_sessions.specs.Keeping.{AreLiveKept}
use Rattle.named_files.specs.Outputs.{no_write_failures}
use Rattle.recorded_sessions.specs.Records.{BeginsWith, IsAsBegun, IsCutFromRecord, record_front}
use Rattle.named_files.specs.Streams.{Closed}
use Rattle.recorded_sessions.specs.declared.job_result.CutEntry.{CutEntry}
use Rattle.recorded_sessions.specs.declared.live.SessionsResult.{SessionsResult}
use Rattle.recorded_sessions.specs.declared.live.FinishedSessions.{FinishedSessions}
use Rattle.recorded_sessions.specs.declared.live.SessionsStart.{SessionsStart}
use Rattle.recorded_sessions.specs.declared.live.StartFailure.{StartFailure}

-- the stream of a record, where there is one, has what the record tells of this book
abbrev pub HasFront : {F : Type 0} → (F → Option (List ℕ)) → List Text → BookView → Option F
    → Type 0
HasFront contents names was stream =
    IfSome stream (λ file. contents file ≡ Some (record_front names was))

-- a book with which sessions may begin: each entry stands where it belongs, and no run stopped
pub record IsReady (book : BookView) : Type 0 where
  pub whole : book.whole ≡ true
  pub all : book.durable ≡ book.history
  pub unstopped : AreUnstopped book.history

-- Sessions may begin with this book, after which their record goes on, where they have one.
pub record IsStarted {F : Type 0} (holds : Holding) (contents : F → Option (List ℕ))
    (record_out : Option RecordFile) (opening : Store) (names : List Text)
    (start : SessionsStart F) : Type 0 where
  pub begins : BeginsWith holds record_out opening names start.book
  pub ready : IsReady start.book
  pub stream : is_some start.stream ≡ is_some record_out
  pub front : HasFront contents names start.book start.stream
  pub entries : start.entries ≡ numbered (length start.book.history)
  pub cut : IsCutFromRecord holds record_out names start.book start.cut

-- they don't begin, and the file of their record is left so
pub record IsStartFailure {C : Type 0} (holds : Holding) (received : C → Closed)
    (record_out : Option RecordFile) (opening : Store) (names : List Text)
    (end : StartFailure C) : Type 0 where
  pub why : IsUnbegunFor holds record_out opening names end.why
  pub left : IsAsBegun holds received record_out names end.receipt

-- what is told of sessions that don't begin, and how files are left then
pub record IsUnserved {C : Type 0} (holds : Holding) (received : C → Closed) (rack : SharedRack)
    (names : List Text) (image : Option (List ℕ)) (kept : SessionsResult C) : Type 0 where
  pub answer : IfOk kept.end (λ found. (refusal : Refusal) × Refuses refusal found.answer
      × IsWrongStart holds rack names image refusal)
  pub missed : IfErr kept.end IsRefused
  pub left : AreLiveKept holds received rack names None kept.receipts kept.lost

-- Sessions over one book left another, which is whole just where no flush failed: then none of its
-- entries waits. What a stream held is there, and after it their entries that stand where they
-- belong; where that aren't all, maybe a front of the text of the others.
pub record IsFinishedBookAt {F : Type 0} (contents : F → Option (List ℕ)) (before : Option (List ℕ))
    (was left : BookView) (over : FinishedSessions F) : Type 0 where
  pub opening : left.opening ≡ was.opening
  pub machine : over.bare.machine ≡ left.machine
  pub whole : over.is_whole ≡ left.whole
  pub all : left.whole ≡ true → left.durable ≡ left.history
  pub text : IfSome over.stream (λ file. IsStreamed before (contents file) was.history left.durable
      left.history left.whole)
  pub entries : IfSome over.stream (λ file. over.entries ≡ numbered (length left.history))

-- the same from their beginning: they have a stream where that has one
abbrev pub IsOverFrom : {F : Type 0} → (F → Option (List ℕ)) → SessionsStart F → BookView
    → FinishedSessions F → Type 0
IsOverFrom contents start left over =
    (is_some over.stream ≡ is_some start.stream)
    × ((before : Option (List ℕ)) → IfSome start.stream (λ file. contents file ≡ before)
    → IsFinishedBookAt contents before start.book left over)

-- the same where the stream had what the record tells of the book
abbrev pub IsFinishedBook : {F : Type 0} → (F → Option (List ℕ)) → List Text → BookView → BookView
    → FinishedSessions F
    → Type 0
IsFinishedBook contents names was left over =
    IsFinishedBookAt contents (Some (record_front names was)) was left over

-- a host's clients had their sessions over a book, which ended so; or it is as sessions leave it
-- that asked nothing, and none ended
abbrev pub IsHostOver : Bool → BookView → KnownClients → List (Ending (List ℕ))
    → List (Ending (List ℕ)) → Result Printed Refusal → BookView → Type 0
IsHostOver loses was clients before after (Ok end) left =
    AreHosted loses was clients (ends_of after) end left
IsHostOver loses was clients before after (Err refusal) left =
    IsUnhosted refusal × HaveOneHistory loses was.opening was.history [] left × (after ≡ before)

-- the clients of these names were admitted to their sessions, or none was
abbrev pub AreAdmittedBy : List Text → Result Printed Refusal → List Text → Type 0
AreAdmittedBy names (Ok end) admitted = admitted ≡ names
AreAdmittedBy names (Err refusal) admitted = admitted ≡ []

-- a client had its session over a book, and was told this; or there was no memory for it
abbrev pub IsTalkOver : Bool → BookView → (before after : Option (List ℕ)) → List ℕ
    → Result Printed Refusal → BookView → Type 0
IsTalkOver loses was before after told (Ok end) left =
    HasTalked loses was before after told end left
IsTalkOver loses was before after told (Err refusal) left =
    (refusal ≡ NoMemory) × (left ≡ was) × IsUntouched before after told

-- the book that is left where sessions have ended; none where they were refused
abbrev pub left_by : {X E : Type 0} → Result X E → BookView → Option BookView
left_by (Ok x) left = Some left
left_by (Err e) left = None

-- what was cut off from their record is told where sessions left a book
abbrev pub IsCutTold : Holding → Option RecordFile → List Text → Option BookView → Option CutEntry
    → Type 0
IsCutTold holds record_out names None cut = Unit {0}
IsCutTold holds record_out names (Some left) cut =
    (opening : Store) × (was : BookView) × BeginsWith holds record_out opening names was
    × IsCutFromRecord holds record_out names was cut

-- What is left of sessions, from their beginning to what is told of them: they have ended and were
-- kept, or none began.
pub record IsLived {C : Type 0} (holds : Holding) (received : C → Closed) (rack : SharedRack)
    (names : List Text) (image : Option (List ℕ)) (sessions : Printed → Sessions) (none : Type 0)
    (kept : SessionsResult C) : Type 0 where
  pub answer : IfOk kept.end (λ found. (left : Option BookView)
      × IsLiveAnswer holds rack names image (sessions found.answer) found.answer left
      × AreLiveKept holds received rack names left kept.receipts kept.lost
      × IsCutTold holds rack.record_out names left kept.cut)
  pub missed : IfErr kept.end (λ missed. IsRefused missed × none
      × AreLiveKept holds received rack names None kept.receipts no_write_failures)
