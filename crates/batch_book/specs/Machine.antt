-- The book as a machine: what it holds, and the steps that it makes. A step is the call of a
-- session, the reply, and the machine after them. The calls, their refusals and the order in which
-- these are tested are this project's choice.
use Rattle.std.specs.Prelude.{◌≡◌, ℕ, ◌+◌, ◌==◌, nat_eq, nat_lt, if◌then◌else◌, List, [], ◌∷◌, ◌++◌}
use Rattle.std.specs.Prelude.{length, Option, Some, None}
use Rattle.std.specs.Map.{lookup, set_value, remove_entry}
use Rattle.batch.specs.Equal.{same_transfers}
use Rattle.batch.specs.Overlap.{IsApart, IsFirstOverlap}
use Rattle.batch.specs.declared.transfer.Transfer.{Transfer}
use Rattle.module_memory.specs.Store.{Store}
use Rattle.module_memory.specs.Address.{fault_of, word_at, write_at}
use Rattle.module_memory.specs.declared.fault.MemoryFault.{MemoryFault}
use Rattle.schedule_certificate.specs.Plans.{Plan, IsPlan}
use Rattle.setting_runner.specs.Runs.{CanMove, IsCompleted, HasStoppedIn, IsMisfit}
use Rattle.setting_runner.specs.declared.outcome.RunRefusal.TheVariants as run_refusal
use Rattle.batch_book.specs.declared.limits.TheConstants.{MAX_BATCHES}
use Rattle.batch_book.specs.declared.call.Call.{Call}
use Rattle.batch_book.specs.declared.call.Call.TheVariants.{Submit, Fetch, Settle, Run, Show}
use Rattle.batch_book.specs.declared.call.Call.TheVariants.{Discard, Peek, Poke}
use Rattle.batch_book.specs.declared.reply.Reply.{Reply}
use Rattle.batch_book.specs.declared.reply.Reply.TheVariants.{Accepted, Fetched, Settled, Ran}
use Rattle.batch_book.specs.declared.reply.Reply.TheVariants.{Stopped, RunRefused, Shown, Discarded}
use Rattle.batch_book.specs.declared.reply.Reply.TheVariants.{Word, Poked, Refused}
use Rattle.batch_book.specs.declared.refusal.BookRefusal.{BookRefusal}
use Rattle.batch_book.specs.declared.refusal.BookRefusal.TheVariants.{BookFull, Unknown, Unplanned}
use Rattle.batch_book.specs.declared.refusal.BookRefusal.TheVariants.{Stranger, Already, Memory}
use Rattle.batch_book.specs.declared.stored_batch.BatchState.{BatchState}
use Rattle.batch_book.specs.declared.stored_batch.BatchState.TheVariants as state
use Rattle.batch_book.specs.declared.stored_batch.BatchStage.{BatchStage}
use Rattle.batch_book.specs.declared.stored_batch.BatchStage.TheVariants as stage
use Rattle.batch_book.specs.declared.stored_batch.StoredBatch.{StoredBatch}

-- the batches that are kept with their numbers, in order of acceptance; how many numbers batches
-- and runs were given so far; and the words
pub record Machine : Type 0 where
  pub batches : List (ℕ × StoredBatch)
  pub given : ℕ
  pub runs : ℕ
  pub store : Store

-- nothing kept, no number given, and these words
abbrev pub opened : Store → Machine
opened store = record { batches = []; given = 0; runs = 0; store = store }

-- ---- what is kept

abbrev pub stored_batch : ℕ → List Transfer → BatchStage → StoredBatch
stored_batch owner batch stage = record { owner = owner; batch = batch; stage = stage }

-- what is kept, where this session has it
abbrev pub owned : ℕ → Option StoredBatch → Option StoredBatch
owned session None = None
owned session (Some h) = if h.owner == session then Some h else None

-- the session's batch of this number
abbrev pub batch_of : Machine → ℕ → ℕ → Option StoredBatch
batch_of m session id = owned session (lookup (nat_eq id) m.batches)

-- the stage without its plan
abbrev pub state_of : BatchStage → BatchState
state_of stage.Waiting = state.Waiting
state_of (stage.Planned plan) = state.Planned
state_of stage.Ran = state.Ran
state_of stage.Stopped = state.Stopped

-- the batches, of which the one that was found under a number is at another stage
abbrev pub staged : ℕ → BatchStage → List (ℕ × StoredBatch) → Option StoredBatch
    → List (ℕ × StoredBatch)
staged id s batches None = batches
staged id s batches (Some h) = set_value (nat_eq id) batches (stored_batch h.owner h.batch s)

-- the batches, of which the one of this number is at another stage
abbrev pub set_stage : ℕ → BatchStage → List (ℕ × StoredBatch) → List (ℕ × StoredBatch)
set_stage id s batches = staged id s batches (lookup (nat_eq id) batches)

-- ---- the refusals of each call, in the order in which they are tested
--
--   Submit          BookFull
--   Fetch           Unknown
--   Settle          Unknown, Stranger, Already
--   Run             Unknown, Unplanned, Already, then those of a run: Overlap, Shape
--   Show, Discard   Unknown
--   Peek, Poke      Memory: NoModule, Misaligned, Outside

-- ---- all calls but a run: the one reply, and the machine after it

-- that reply, and that machine
abbrev pub Gives : Reply × Machine → Reply → Machine → Type 0
Gives answer reply next = (reply ≡ answer.0) × (next ≡ answer.1)

-- nothing changes
abbrev pub refuse : Machine → BookRefusal → Reply × Machine
refuse m why = (Refused why, m)

-- the batch goes last, and waits for its plan
abbrev pub accept : Machine → ℕ → List Transfer → Reply × Machine
accept m session batch = (
  Accepted (m.given + 1),
  record m {
    batches = m.batches ++ (m.given + 1, stored_batch session batch stage.Waiting) ∷ [];
    given = m.given + 1;
  },
)

abbrev pub submit : Machine → ℕ → List Transfer → Reply × Machine
submit m session batch =
    if nat_lt (length m.batches) MAX_BATCHES then accept m session batch else refuse m BookFull

abbrev pub fetch : Machine → Option StoredBatch → Reply × Machine
fetch m None = refuse m Unknown
fetch m (Some h) = (Fetched h.batch, m)

abbrev pub settle_at : Machine → ℕ → Plan → BatchStage → Reply × Machine
settle_at m id plan stage.Waiting = (
  Settled (length plan.settings),
  record m { batches = set_stage id (stage.Planned plan) m.batches },
)
settle_at m id plan s = refuse m Already

abbrev pub settle : Machine → ℕ → Plan → Option StoredBatch → Reply × Machine
settle m id plan None = refuse m Unknown
settle m id plan (Some h) =
    if same_transfers h.batch plan.batch then settle_at m id plan h.stage else refuse m Stranger

abbrev pub show : Machine → Option StoredBatch → Reply × Machine
show m None = refuse m Unknown
show m (Some h) = (Shown (length h.batch) (state_of h.stage), m)

abbrev pub discard : Machine → ℕ → Option StoredBatch → Reply × Machine
discard m id None = refuse m Unknown
discard m id (Some h) = (Discarded, record m { batches = remove_entry (nat_eq id) m.batches })

abbrev pub peek_unless : Option MemoryFault → Machine → ℕ → ℕ → Reply × Machine
peek_unless None m «module» address = (Word (word_at m.store «module» address), m)
peek_unless (Some fault) m «module» address = refuse m (Memory fault)

abbrev pub peek : Machine → ℕ → ℕ → Reply × Machine
peek m «module» address = peek_unless (fault_of m.store.shape «module» address) m «module» address

abbrev pub poke_unless : Option MemoryFault → Machine → ℕ → ℕ → ℕ → Reply × Machine
poke_unless None m «module» address word =
    (Poked, record m { store = write_at m.store «module» address word })
poke_unless (Some fault) m «module» address word = refuse m (Memory fault)

abbrev pub poke : Machine → ℕ → ℕ → ℕ → Reply × Machine
poke m «module» address word =
    poke_unless (fault_of m.store.shape «module» address) m «module» address word

-- ---- runs

-- what a run leaves that began: its batch is at this stage, and these are the words
abbrev pub run_to : Machine → ℕ → BatchStage → Store → Machine
run_to m id s store =
    record { batches = set_stage id s m.batches; given = m.given; runs = m.runs + 1; store = store }

-- a run that began: its transfers can be moved on this rack, and its number is the next one
pub record HasBegun (m : Machine) (plan : Plan) (run : ℕ) : Type 0 where
  pub can_move : CanMove m.store.shape plan.batch
  pub number : run ≡ m.runs + 1

-- the run of a plan is refused for the first cause that there is, and nothing changes; else it
-- completes or stops, and leaves the words that such a run leaves
abbrev pub IsRunOf : Machine → ℕ → Plan → Reply → Machine → Type 0
IsRunOf m id plan (RunRefused (run_refusal.Overlap i j)) next =
    IsFirstOverlap plan.batch i j × (next ≡ m)
IsRunOf m id plan (RunRefused run_refusal.Shape) next =
    IsApart plan.batch × IsMisfit m.store.shape plan.batch × (next ≡ m)
IsRunOf m id plan (Ran run settings words) next =
    HasBegun m plan run × IsCompleted m.store plan.batch plan.settings settings words next.store
    × (next ≡ run_to m id stage.Ran next.store)
IsRunOf m id plan (Stopped run setting cause moved) next =
    HasBegun m plan run × HasStoppedIn m.store plan.batch plan.settings setting moved next.store
    × (next ≡ run_to m id stage.Stopped next.store)
IsRunOf m id plan reply next = ⊥

abbrev pub IsRunAt : Machine → ℕ → BatchStage → Reply → Machine → Type 0
IsRunAt m id stage.Waiting reply next = Gives (refuse m Unplanned) reply next
IsRunAt m id (stage.Planned plan) reply next = IsRunOf m id plan reply next
IsRunAt m id s reply next = Gives (refuse m Already) reply next

abbrev pub IsRunStep : Machine → ℕ → Option StoredBatch → Reply → Machine → Type 0
IsRunStep m id None reply next = Gives (refuse m Unknown) reply next
IsRunStep m id (Some h) reply next = IsRunAt m id h.stage reply next

-- ---- the steps

-- the machine may answer this call of this session so, and is the next one then
abbrev pub IsMachineStep : Machine → ℕ → Call → Reply → Machine → Type 0
IsMachineStep m session (Submit batch) reply next = Gives (submit m session batch) reply next
IsMachineStep m session (Fetch id) reply next = Gives (fetch m (batch_of m session id)) reply next
IsMachineStep m session (Settle id plan) reply next =
    IsPlan plan × Gives (settle m id plan (batch_of m session id)) reply next
IsMachineStep m session (Run id) reply next = IsRunStep m id (batch_of m session id) reply next
IsMachineStep m session (Show id) reply next = Gives (show m (batch_of m session id)) reply next
IsMachineStep m session (Discard id) reply next =
    Gives (discard m id (batch_of m session id)) reply next
IsMachineStep m session (Peek «module» address) reply next =
    Gives (peek m «module» address) reply next
IsMachineStep m session (Poke «module» address word) reply next =
    Gives (poke m «module» address word) reply next
