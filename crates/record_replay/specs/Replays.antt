-- How far a record is right, and what is first wrong with it. The numbers of its sessions are below
-- a limit, which its head says.
use Rattle.std.specs.Prelude.{◌≡◌, ◌≢◌, ◌⊎◌, ℕ, ◌<◌, ◌≤◌, List, [], ◌++◌, drop, length, All, Option}
use Rattle.std.specs.Prelude.{Some, None, option_map}
use Rattle.batch.specs.Text.{IsNumber, number, space}
use Rattle.module_memory.specs.Store.{Store}
use Rattle.schedule_certificate.specs.Plans.{Plan}
use Rattle.batch_book.specs.declared.call.Call.{Call}
use Rattle.batch_book.specs.declared.call.Call.TheVariants.{Settle}
use Rattle.batch_book.specs.declared.entry.Entry.{Entry}
use Rattle.batch_book.specs.declared.stored_batch.StoredBatch.{StoredBatch}
use Rattle.batch_book.specs.declared.reply.Reply.{Reply}
use Rattle.batch_book.specs.History.{BookView, IsGrown}
use Rattle.batch_book.specs.Machine.{Machine, batch_of, opened}
use Rattle.batch_book.specs.Told.{told}
use Rattle.book_record.specs.RecordText.{id_of, call_text, reply_text, entry_lines, texts, CanSay}
use Rattle.book_record.specs.RecordText.{CanBeReplied, CanTell}
use Rattle.book_record.specs.Fronts.{IsDamaged, IsSummed, IsTorn, end_line, last_lines}
use Rattle.book_record.specs.Reading.{BeginsWithNoEntry}
use Rattle.book_record.specs.Sums.{sum_at, sum_line}
use Rattle.record_replay.specs.Steps.{AreSeenSteps, IsSeenStep}
use Rattle.record_replay.specs.declared.fault.EntryFault.{EntryFault}
use Rattle.record_replay.specs.declared.fault.EntryFault.TheVariants as entry_fault
use Rattle.record_replay.specs.declared.replaying.Next.{Next}
use Rattle.record_replay.specs.declared.replaying.Next.TheVariants as next
use Rattle.record_replay.specs.declared.fault.RecordError.{RecordError}
use Rattle.record_replay.specs.declared.fault.RecordFault.{RecordFault}
use Rattle.record_replay.specs.declared.fault.RecordFault.TheVariants.{Call as NoCall}
use Rattle.record_replay.specs.declared.fault.RecordFault.TheVariants.{Reply as OtherReply}
use Rattle.record_replay.specs.declared.fault.RecordFault.TheVariants.{Sum as OtherSum, More}

-- ---- one entry

-- a plan of what is held, if anything is
abbrev pub IsPlanFor : Plan → Option StoredBatch → Type 0
IsPlanFor plan None = Unit {0}
IsPlanFor plan (Some h) = plan.batch ≡ h.batch

-- a plan that the call settles is one of the session's batch of this number, if it has one
abbrev pub HasOwnPlanIn : Machine → ℕ → Call → Type 0
HasOwnPlanIn m session (Settle id plan) = IsPlanFor plan (batch_of m session id)
HasOwnPlanIn m session call = Unit {0}

-- the text is that of an entry that a record can hold, of a session below this, and the book has it
pub record GoesOnBy (limit : ℕ) (old new : BookView) (body : List ℕ) : Type 0 where
  pub entry : Entry
  pub can : CanTell entry
  pub below : entry.session < limit
  pub grown : IsGrown old entry.session entry.call entry.reply new
  pub body_is : body ≡ entry_lines entry

-- it begins with a call by a session below this, and goes on with something else than the line of
-- the reply that this gets
pub record IsOtherReply (limit : ℕ) (m : Machine) (body replied due : List ℕ) : Type 0 where
  pub session : ℕ
  pub call : Call
  pub reply : Reply
  pub next : Machine
  pub number_fits : IsNumber session
  pub below : session < limit
  pub can_say : CanSay (told call)
  pub can_reply : CanBeReplied reply
  pub step : IsSeenStep m session call reply next
  pub asks : body ≡ number session space ++ (call_text (told call) ++ replied)
  pub due_is : due ≡ reply_text (id_of (told call)) reply
  pub differs : replied ≢ due

-- why the lines of an entry, whose sum is right, aren't those of the one that comes
abbrev pub IsEntryFault : ℕ → Machine → List ℕ → EntryFault → Type 0
IsEntryFault limit m body entry_fault.Call = BeginsWithNoEntry limit body
IsEntryFault limit m body (entry_fault.Reply replied due) =
    IsOtherReply limit m body replied.now due.items
IsEntryFault limit m body entry_fault.NoMemory = Unit {0}

-- ---- the entries of a record

-- it begins with these entries of sessions below this, which lead from this store to this machine,
-- and goes on with the rest
pub record IsReplayed (limit : ℕ) (text : List ℕ) (opening : Store) (es : List Entry)
    (end : Machine) (rest : List ℕ) : Type 0 where
  pub front : text ≡ texts 0 es ++ rest
  pub each : All CanTell es
  pub sessions : All (λ e. e.session < limit) es
  pub steps : AreSeenSteps (opened opening) es end

-- n entries are fewer than are wanted, where these are limited
abbrev pub AreFewer : ℕ → Option ℕ → Type 0
AreFewer n None = Unit {0}
AreFewer n (Some first) = n < first

-- after n entries the record ends: by its last lines, or since it was torn off
abbrev pub Ends : ℕ → List ℕ → Type 0
Ends n rest = (rest ≡ last_lines n) ⊎ IsTorn rest

-- It begins with all entries that are wanted, or with all that it has, and ends after them.
pub record IsRemade (limit : ℕ) (text : List ℕ) (opening : Store) (first : Option ℕ)
    (es : List Entry) (end : Machine) (rest : List ℕ) : Type 0 where
  pub replayed : IsReplayed limit text opening es end rest
  pub ends : (first ≡ Some (length es)) ⊎ (AreFewer (length es) first × Ends (length es) rest)

-- how a record goes on after n entries
abbrev pub IsNext : ℕ → List ℕ → Next → Type 0
IsNext n rest (next.Entry body more) = IsSummed n rest body.now more.now × (body.now ≢ end_line n)
IsNext n rest next.End = Ends n rest

-- ---- what is first wrong

-- What is wrong after n entries, which led to this machine, with what follows them; the text from
-- there on, and the line that is due there.
pub data IsWrongAt (limit n : ℕ) (m : Machine) (last : List ℕ) (fault : RecordFault)
    (rest : List ℕ) (due : Option (List ℕ)) : Type 0 where
  damaged : IsDamaged n last → fault ≡ OtherSum n → rest ≡ last → due ≡ None
      → IsWrongAt limit n m last fault rest due
  no_call : (body more : List ℕ) → IsSummed n last body more → BeginsWithNoEntry limit body
      → body ≢ end_line n → fault ≡ NoCall n → rest ≡ last → due ≡ None
      → IsWrongAt limit n m last fault rest due
  other_reply : (body more replied line : List ℕ) → IsSummed n last body more
      → IsOtherReply limit m body replied line → fault ≡ OtherReply n
      → rest ≡ replied ++ (sum_line (sum_at n body) ++ more) → due ≡ Some line
      → IsWrongAt limit n m last fault rest due
  more_after : last ≡ last_lines n ++ rest → rest ≢ [] → fault ≡ More → due ≡ None
      → IsWrongAt limit n m last fault rest due

-- what is first wrong with the entries, the text from there on, and the line that is due there
pub record IsRecordFault (limit : ℕ) (text : List ℕ) (opening : Store) (first : Option ℕ)
    (fault : RecordFault) (rest : List ℕ) (due : Option (List ℕ)) : Type 0 where
  pub es : List Entry
  pub end : Machine
  pub last : List ℕ
  pub replayed : IsReplayed limit text opening es end last
  pub fewer : AreFewer (length es) first
  pub wrong : IsWrongAt limit (length es) end last fault rest due

-- the same, where the error has the number of bytes before it
pub record IsRecordError (limit : ℕ) (text : List ℕ) (opening : Store) (first : Option ℕ)
    (error : RecordError) : Type 0 where
  pub within : error.offset ≤ length text
  pub wrong : IsRecordFault limit text opening first error.fault (drop error.offset text)
      (option_map (λ line. line.items) error.due)
