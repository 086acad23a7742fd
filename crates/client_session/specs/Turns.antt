-- One command with its lines, what it did, and its reply line.
use Rattle.std.specs.Prelude.{◌≡◌, ◌≢◌, ℕ, ◌<◌, ◌≤◌, ◌⊎◌, nat_lt, if◌then◌else◌, List, [], ◌∷◌}
use Rattle.std.specs.Prelude.{◌++◌, length, map, flat_map, codes, Option, Some, None}
use Rattle.std.specs.List.{AllByRecursion}
use Rattle.batch.specs.declared.limits.TheConstants.{MAX_TRANSFERS}
use Rattle.batch.specs.declared.fault.BatchFault.{BatchFault}
use Rattle.batch.specs.declared.fault.BatchFault.TheVariants.{NoMemory}
use Rattle.batch.specs.declared.transfer.Transfer.{Transfer}
use Rattle.batch.specs.ShapeView.{ShapeView}
use Rattle.batch.specs.Text.{Denotes}
use Rattle.batch.specs.Faults.{IsFirstFault}
use Rattle.schedule_certificate.specs.Plans.{Plan}
use Rattle.batch_book.specs.declared.entry.Entry.{Entry}
use Rattle.batch_book.specs.declared.call.Call.{Call}
use Rattle.batch_book.specs.declared.call.Call.TheVariants as call
use Rattle.batch_book.specs.declared.refusal.BookRefusal.{BookRefusal}
use Rattle.batch_book.specs.declared.reply.Reply.{Reply}
use Rattle.batch_book.specs.declared.reply.Reply.TheVariants.{Fetched, Refused}
use Rattle.batch_book.specs.History.{entry}
use Rattle.batch_book.specs.Values.{value_of}
use Rattle.batch_book.specs.declared.limits.TheConstants.{RUN_STEP}
use Rattle.refusals.specs.declared.refusal.Refusal.{Refusal}
use Rattle.refusals.specs.declared.refusal.Refusal.TheVariants as refusal
use Rattle.refusals.specs.Refusals.{refusal_line}
use Rattle.refusals.specs.Sources.{of_batch}
use Rattle.client_session.specs.declared.command.SessionCommand.{SessionCommand}
use Rattle.client_session.specs.declared.command.SessionCommand.TheVariants.{Batch, Plan as PlanOf}
use Rattle.client_session.specs.declared.command.SessionCommand.TheVariants.{Run, Show, Drop, Peek}
use Rattle.client_session.specs.declared.command.SessionCommand.TheVariants.{Poke, Progress, Bye}
use Rattle.batch_book.specs.declared.reading.Reading.{Reading}
use Rattle.client_session.specs.Bytes.{IsSessionLine}
use Rattle.client_session.specs.Commands.{Means}
use Rattle.client_session.specs.Replies.{with_feed, reply_line, progress_line}
use Rattle.client_session.specs.Seats.{logged, reading_value}

-- ---- what a command did

-- the entries that it added, the progress that it read, and its reply line
pub record CommandOutcome : Type 0 where
  pub entries : List Entry
  pub reading : Option Reading
  pub line : List ℕ

abbrev pub plain_answer : List Entry → List ℕ → CommandOutcome
plain_answer entries line = record { entries = entries; reading = None; line = line }

-- it is refused so, without a call
abbrev pub refuses : Refusal → CommandOutcome
refuses why = plain_answer [] (refusal_line why)

-- a call was made, and this was its reply, which is the line
abbrev pub tells : ℕ → ℕ → Call → Reply → CommandOutcome
tells by id call reply = plain_answer (logged by call reply) (reply_line id reply)

-- A call was made, and its reply is the line. The book's history says which reply it is, unless it
-- is one of the two that no history has.
abbrev pub TellsReply : ℕ → ℕ → Call → CommandOutcome → Type 0
TellsReply by id call a = (reply : Reply) × (a ≡ tells by id call reply)

-- The lines of a batch: what they denote was submitted, or their first fault is the line, or there
-- was no memory for them.
abbrev pub Submits : ShapeView → ℕ → List ℕ → CommandOutcome → Type 0
Submits shape by text a =
    ((batch : List Transfer) × Denotes shape text batch × TellsReply by 0 (call.Submit batch) a)
    ⊎ ((fault : BatchFault) × (fault ≢ NoMemory) × IsFirstFault shape text fault
    × (a ≡ refuses (of_batch fault)))
    ⊎ (a ≡ refuses refusal.NoMemory)

-- a batch was fetched, and a plan of it was settled: this was the reply, which is the line
abbrev pub settles : ℕ → ℕ → List Transfer → Plan → Reply → CommandOutcome
settles by id batch plan reply =
    plain_answer (entry by (call.Fetch id) (Fetched batch) ∷ logged by (call.Settle id plan) reply)
    (reply_line id reply)

-- A batch was fetched: a plan of it was settled, and the reply is the line, or there was no memory
-- to plan it.
abbrev pub Settles : ℕ → ℕ → List Transfer → CommandOutcome → Type 0
Settles by id batch a =
    ((plan : Plan) × (reply : Reply) × (plan.batch ≡ batch) × (a ≡ settles by id batch plan reply))
    ⊎ (a ≡ plain_answer (entry by (call.Fetch id) (Fetched batch) ∷ [])
    (refusal_line refusal.NoMemory))

-- `plan`: fetching was refused, and that is the line; or a batch was fetched
abbrev pub Plans : ℕ → ℕ → CommandOutcome → Type 0
Plans by id a =
    ((why : BookRefusal) × (a ≡ tells by id (call.Fetch id) (Refused why)))
    ⊎ ((batch : List Transfer) × Settles by id batch a)

-- `progress`: the word was read
abbrev pub ReadsProgress : CommandOutcome → Type 0
ReadsProgress a =
    (r : Reading) × (r.done < RUN_STEP)
    × (a ≡ record { entries = []; reading = Some r; line = progress_line r })

-- What a command may do: this is the whole table of a session. The text is that of its lines.
abbrev pub DoesCommand : ShapeView → ℕ → Option SessionCommand → List ℕ → CommandOutcome → Type 0
DoesCommand shape by None text a = a ≡ refuses refusal.Line
DoesCommand shape by (Some (Batch count)) text a =
    ((MAX_TRANSFERS < count) × (a ≡ refuses refusal.TooMany))
    ⊎ ((count ≤ MAX_TRANSFERS) × Submits shape by text a)
DoesCommand shape by (Some (PlanOf id)) text a = Plans by id a
DoesCommand shape by (Some (Run id)) text a = TellsReply by id (call.Run id) a
DoesCommand shape by (Some (Show id)) text a = TellsReply by id (call.Show id) a
DoesCommand shape by (Some (Drop id)) text a = TellsReply by id (call.Discard id) a
DoesCommand shape by (Some (Peek «module» address)) text a =
    TellsReply by 0 (call.Peek «module» address) a
DoesCommand shape by (Some (Poke «module» address word)) text a =
    TellsReply by 0 (call.Poke «module» address word) a
DoesCommand shape by (Some Progress) text a = ReadsProgress a
DoesCommand shape by (Some Bye) text a = a ≡ plain_answer [] (with_feed (codes "bye"))

-- ---- a turn

-- the line of a command, those after it that belong to it, what it means, and what the command did
pub record Turn : Type 0 where
  pub head : List ℕ
  pub body : List (List ℕ)
  pub command : Option SessionCommand
  pub did : CommandOutcome

abbrev pub lines_text : List (List ℕ) → List ℕ
lines_text lines = flat_map with_feed lines

abbrev pub turn_text : Turn → List ℕ
turn_text t = with_feed t.head ++ lines_text t.body

-- how many lines belong to a command after its own
abbrev pub lines_after : Option SessionCommand → ℕ
lines_after (Some (Batch count)) = if nat_lt MAX_TRANSFERS count then 0 else count
lines_after command = 0

pub record IsTurn (shape : ShapeView) (by : ℕ) (t : Turn) : Type 0 where
  pub head : IsSessionLine t.head
  pub body : AllByRecursion IsSessionLine t.body
  pub means : Means t.head t.command
  pub whole : length t.body ≡ lines_after t.command
  pub does : DoesCommand shape by t.command (turn_text t) t.did

-- ---- a command of which a call wasn't made

-- for `plan` its batch was fetched, or nothing was done
abbrev pub IsFetching : ℕ → ℕ → List Entry → Type 0
IsFetching by id entries =
    (entries ≡ []) ⊎ ((batch : List Transfer)
    × (entries ≡ entry by (call.Fetch id) (Fetched batch) ∷ []))

-- the entries that a command may have added before that
abbrev pub MayHaveAdded : ℕ → Option SessionCommand → List Entry → Type 0
MayHaveAdded by (Some (PlanOf id)) entries = IsFetching by id entries
MayHaveAdded by command entries = entries ≡ []

-- the line of the command, those after it that belong to it, what it means, and what it added
pub record LostTurn : Type 0 where
  pub head : List ℕ
  pub body : List (List ℕ)
  pub command : Option SessionCommand
  pub entries : List Entry

abbrev pub lost_text : LostTurn → List ℕ
lost_text t = with_feed t.head ++ lines_text t.body

pub record IsLostTurn (by : ℕ) (t : LostTurn) : Type 0 where
  pub head : IsSessionLine t.head
  pub body : AllByRecursion IsSessionLine t.body
  pub means : Means t.head t.command
  pub whole : length t.body ≡ lines_after t.command
  pub begun : MayHaveAdded by t.command t.entries

-- ---- whether the session goes on

-- the session goes on after it
abbrev pub SessionGoesOn : Option SessionCommand → Type 0
SessionGoesOn (Some Bye) = ⊥
SessionGoesOn command = Unit {0}

-- ---- the progress that turns tell

abbrev pub readings_of : Option Reading → List ℕ
readings_of None = []
readings_of (Some r) = reading_value r ∷ []

-- a reading, and the values of the entries
abbrev pub shown : CommandOutcome → List ℕ
shown a = readings_of a.reading ++ map (λ (e : Entry). value_of e.reply) a.entries

-- no reading of these turns is after the value
abbrev pub IsBelowReadings : List Turn → ℕ → Type 0
IsBelowReadings turns v =
    AllByRecursion (λ t. AllByRecursion (λ r. v ≤ r) (readings_of t.did.reading)) turns

-- no reading of these turns is ahead of the value
abbrev pub IsAboveReadings : List Turn → ℕ → Type 0
IsAboveReadings turns v =
    AllByRecursion (λ t. AllByRecursion (λ r. r ≤ v) (readings_of t.did.reading)) turns

-- no reading is after what an earlier turn has shown
abbrev pub AreRising : List Turn → Type 0
AreRising [] = Unit {0}
AreRising (t ∷ turns) = AllByRecursion (IsBelowReadings turns) (shown t.did) × AreRising turns

-- and all are between what was seen before the turns and after them
pub record AreReadings (before after : ℕ) (turns : List Turn) : Type 0 where
  pub low : IsBelowReadings turns before
  pub high : IsAboveReadings turns after
  pub rising : AreRising turns
