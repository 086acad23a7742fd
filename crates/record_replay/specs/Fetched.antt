-- Plans that are settled right after the fetching of their batches, as sessions do it.
use Rattle.std.specs.Prelude.{◌≡◌, ℕ, List, [], ◌∷◌, All, Option, Some, None}
use Rattle.batch.specs.declared.transfer.Transfer.{Transfer}
use Rattle.batch_book.specs.declared.call.Call.{Call}
use Rattle.batch_book.specs.declared.call.Call.TheVariants.{Fetch, Settle}
use Rattle.batch_book.specs.declared.entry.Entry.{Entry}
use Rattle.batch_book.specs.declared.reply.Reply.{Reply}
use Rattle.batch_book.specs.declared.reply.Reply.TheVariants.{Fetched}
use Rattle.batch_book.specs.Told.{told}
use Rattle.book_record.specs.RecordText.{CanSay}

-- the number and the transfers of the batch that a call has fetched, if it has
abbrev pub fetched_by : Call → Reply → Option (ℕ × List Transfer)
fetched_by (Fetch id) (Fetched batch) = Some (id, batch)
fetched_by call reply = None

-- a plan that the call settles is one of the batch that was fetched
abbrev pub SettlesFetched : Option (ℕ × List Transfer) → Call → Type 0
SettlesFetched None (Settle id plan) = ⊥
SettlesFetched (Some batch) (Settle id plan) = (id ≡ batch.0) × (plan.batch ≡ batch.1)
SettlesFetched last call = Unit {0}

-- each plan is settled right after the fetching of its batch; this was fetched before
abbrev pub SettleFetched : Option (ℕ × List Transfer) → List Entry → Type 0
SettleFetched last [] = Unit {0}
SettleFetched last (e ∷ es) =
    SettlesFetched last e.call × SettleFetched (fetched_by e.call e.reply) es

-- the calls of a session have the numbers and words of lines, and each plan that is settled is one
-- of the batch that was fetched right before
pub record AreOfLines (es : List Entry) : Type 0 where
  pub calls : All (λ e. CanSay (told e.call)) es
  pub settle : SettleFetched None es
