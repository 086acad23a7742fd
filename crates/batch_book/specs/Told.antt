-- What the history keeps of a call and of a reply.
use Rattle.std.specs.Prelude.{◌≡◌, ◌≢◌, List, Option, Some, None}
use Rattle.batch.specs.declared.transfer.Transfer.{Transfer}
use Rattle.batch_book.specs.declared.call.Call.{Call}
use Rattle.batch_book.specs.declared.call.Call.TheVariants.{Submit, Fetch, Settle, Run, Show}
use Rattle.batch_book.specs.declared.call.Call.TheVariants.{Discard, Peek, Poke}
use Rattle.batch_book.specs.declared.reply.Reply.{Reply}
use Rattle.batch_book.specs.declared.reply.Reply.TheVariants.{Fetched}
use Rattle.batch_book.specs.declared.recorded_call.RecordedCall.{RecordedCall}
use Rattle.batch_book.specs.declared.recorded_call.RecordedCall.TheVariants as told_call

-- a call without its plan
abbrev pub PlanlessCall : Type 0
PlanlessCall = RecordedCall (List Transfer)

-- what the history tells of a call
abbrev pub told : Call → PlanlessCall
told (Submit batch) = told_call.Submit batch
told (Fetch id) = told_call.Fetch id
told (Settle id plan) = told_call.Settle id
told (Run id) = told_call.Run id
told (Show id) = told_call.Show id
told (Discard id) = told_call.Discard id
told (Peek «module» address) = told_call.Peek «module» address
told (Poke «module» address word) = told_call.Poke «module» address word

-- what the history keeps of a reply: all of it, but nothing of a batch that was fetched
abbrev pub IsKeptOf : Option Reply → Reply → Type 0
IsKeptOf None (Fetched batch) = Unit {0}
IsKeptOf None reply = ⊥
IsKeptOf (Some kept) reply =
    (kept ≡ reply) × ((batch : List Transfer) → reply ≢ Fetched batch)
