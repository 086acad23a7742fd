-- The text of a record: an entry for each call of a history, with the session's number, the call in
-- the words of a session's line, and its reply line. Each entry ends with the line of its sum.
-- Plans are left out: a call that settles one has the number of its batch. The form is this
-- project's choice.
use Rattle.std.specs.Prelude.{◌≢◌, ℕ, suc, List, [], ◌∷◌, ◌++◌, codes, length}
use Rattle.std.specs.Fmt.{decimal}
use Rattle.batch.specs.Batches.{IsBatch}
use Rattle.batch.specs.Text.{IsNumber, number, batch_text, space}
use Rattle.line_words.specs.HexWords.{IsWord}
use Rattle.batch_book.specs.declared.entry.Entry.{Entry}
use Rattle.batch_book.specs.declared.recorded_call.RecordedCall.{RecordedCall}
use Rattle.batch_book.specs.declared.recorded_call.RecordedCall.TheVariants as recorded_call
use Rattle.batch_book.specs.Told.{PlanlessCall, told}
use Rattle.batch_book.specs.declared.refusal.BookRefusal.TheVariants.{Stranger}
use Rattle.batch_book.specs.declared.reply.Reply.{Reply}
use Rattle.batch_book.specs.declared.reply.Reply.TheVariants.{Fetched, Refused}
use Rattle.batch_book.specs.Replies.{IsUnstopped}
use Rattle.client_session.specs.declared.command.SessionCommand.TheVariants as command
use Rattle.client_session.specs.Commands.{line_of}
use Rattle.client_session.specs.Replies.{reply_line, with_feed}
use Rattle.client_session.specs.Steps.{CanBeTold}
use Rattle.book_record.specs.Sums.{summed}

-- ---- the texts

-- the batch that a call names, or 0
abbrev pub id_of : {B : Type 0} → RecordedCall B → ℕ
id_of (recorded_call.Fetch id) = id
id_of (recorded_call.Settle id) = id
id_of (recorded_call.Run id) = id
id_of (recorded_call.Show id) = id
id_of (recorded_call.Discard id) = id
id_of call = 0

-- the line of a call, without its line feed: that of the session's command, or the first of a batch
-- text; `plan ID` is two calls
abbrev pub call_line : PlanlessCall → List ℕ
call_line (recorded_call.Submit batch) = line_of (command.Batch (length batch))
call_line (recorded_call.Fetch id) = codes "fetch " ++ decimal id
call_line (recorded_call.Settle id) = codes "settle " ++ decimal id
call_line (recorded_call.Run id) = line_of (command.Run id)
call_line (recorded_call.Show id) = line_of (command.Show id)
call_line (recorded_call.Discard id) = line_of (command.Drop id)
call_line (recorded_call.Peek «module» address) = line_of (command.Peek «module» address)
call_line (recorded_call.Poke «module» address word) =
    line_of (command.Poke «module» address word)

-- the lines of a call: a batch text, or that line
abbrev pub call_text : PlanlessCall → List ℕ
call_text (recorded_call.Submit batch) = batch_text batch
call_text call = with_feed (call_line call)

-- the line of a reply to a call that names this batch; a batch that was fetched isn't there again
abbrev pub reply_text : ℕ → Reply → List ℕ
reply_text id (Fetched batch) = with_feed (codes "fetched")
reply_text id reply = reply_line id reply

-- `S CALL` and the reply
abbrev pub entry_lines : Entry → List ℕ
entry_lines e =
    number e.session space
    ++ (call_text (told e.call) ++ reply_text (id_of (told e.call)) e.reply)

-- the same of the entry that follows n others, and `=SUM`
abbrev pub entry_text : ℕ → Entry → List ℕ
entry_text n e = summed n (entry_lines e)

-- those of entries that follow n others
abbrev pub texts : ℕ → List Entry → List ℕ
texts n [] = []
texts n (e ∷ es) = entry_text n e ++ texts (suc n) es

-- what the writer wants of a reply: one to a call of a legal history has it
abbrev pub CanBePut : Reply → Type 0
CanBePut (Fetched batch) = Unit {0}
CanBePut reply = CanBeTold reply

-- ---- what a record can tell

-- its numbers are such as a line can hold
abbrev pub CanSay : PlanlessCall → Type 0
CanSay (recorded_call.Submit batch) = IsBatch batch
CanSay (recorded_call.Fetch id) = IsNumber id
CanSay (recorded_call.Settle id) = IsNumber id
CanSay (recorded_call.Run id) = IsNumber id
CanSay (recorded_call.Show id) = IsNumber id
CanSay (recorded_call.Discard id) = IsNumber id
CanSay (recorded_call.Peek «module» address) = IsNumber «module» × IsWord address
CanSay (recorded_call.Poke «module» address word) = IsNumber «module» × IsWord address × IsWord word

-- The reply is of no run that stopped, since over a port and wires that never fail none does; and
-- of no plan of another batch, since plans are left out.
abbrev pub CanBeReplied : Reply → Type 0
CanBeReplied reply = IsUnstopped reply × (reply ≢ Refused Stranger)

pub record CanTell (e : Entry) : Type 0 where
  pub session : IsNumber e.session
  pub call : CanSay (told e.call)
  pub reply : CanBeReplied e.reply
