-- What a book's holdings keep, and what is done with them for a call beside the machine's step.
use Rattle.std.specs.Prelude.{◌≡◌, ℕ, ◌+◌, ◌<◌, ◌≤◌, nat_eq, List, [], length, Option, Some, None}
use Rattle.std.specs.Prelude.{IsSome, Result, Ok, IsErr}
use Rattle.std.specs.Map.{lookup}
use Rattle.batch.specs.ShapeView.{extent}
use Rattle.batch.specs.declared.transfer.Transfer.{Transfer}
use Rattle.module_memory.specs.Store.{Store}
use Rattle.setting_runner.specs.declared.outcome.Outcome.{Outcome}
use Rattle.setting_runner.specs.declared.outcome.Outcome.TheVariants as outcome
use Rattle.setting_runner.specs.declared.outcome.RunRefusal.TheVariants as run_refusal
use Rattle.batch_book.specs.declared.limits.TheConstants.{MAX_BATCHES}
use Rattle.batch_book.specs.declared.reply.Reply.{Reply}
use Rattle.batch_book.specs.declared.reply.Reply.TheVariants.{Ran, Stopped, RunRefused}
use Rattle.batch_book.specs.declared.stored_batch.BatchStage.TheVariants as stage
use Rattle.batch_book.specs.declared.stored_batch.StoredBatch.{StoredBatch}
use Rattle.batch_book.specs.Machine.{Machine, run_to}

-- what stands for the words while a run has them
abbrev pub no_store : Store
no_store = record { shape = extent 0 0 0; blocks = [] }

-- numbers above those that were given are free
abbrev pub IsFreeAbove : List (ℕ × StoredBatch) → ℕ → Type 0
IsFreeAbove batches given = (id : ℕ) → given < id → lookup (nat_eq id) batches ≡ None

-- the rack is there, no number is kept that wasn't given, and there are no more batches than may be
pub record AreStored (rack : Option Store) (batches : List (ℕ × StoredBatch)) (given : ℕ) : Type 0
  where
    pub there : IsSome rack
    pub free : IsFreeAbove batches given
    pub few : length batches ≤ MAX_BATCHES

-- the batch of a reply to this call
abbrev pub batch_in : Option StoredBatch → Option (List Transfer)
batch_in None = None
batch_in (Some h) = Some h.batch

-- After a run that left the machine's words: the reply that tells of it, and the next machine.
-- Where there was no memory for the run, there is no reply.
abbrev pub EndsRun : {E : Type 0} → Machine → ℕ → Outcome → Result Reply E → Machine → Type 0
EndsRun m id (outcome.Completed settings words) r next =
    (r ≡ Ok (Ran (m.runs + 1) settings words)) × (next ≡ run_to m id stage.Ran m.store)
EndsRun m id (outcome.Stopped setting cause moved) r next =
    (r ≡ Ok (Stopped (m.runs + 1) setting cause moved)) × (next ≡ run_to m id stage.Stopped m.store)
EndsRun m id (outcome.Refused run_refusal.NoMemory) r next = IsErr r × (next ≡ m)
EndsRun m id (outcome.Refused why) r next = (r ≡ Ok (RunRefused why)) × (next ≡ m)
