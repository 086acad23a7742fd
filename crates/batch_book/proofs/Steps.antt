-- What every step of the machine keeps.
use Rattle.std.proofs.Common.{◌≡◌, ℕ, ◌+◌, ◌≤◌, List, Bool, true, false, length, Option, None, Some, refl, ap, ◌∙◌, arith, length-set, if◌then◌else◌, nat_lt}
use Rattle.batch.specs.declared.transfer.Transfer.{Transfer}
use Rattle.batch.specs.Equal.{same_transfers}
use Rattle.module_memory.specs.Address.{fault_of}
use Rattle.module_memory.specs.declared.fault.MemoryFault.{MemoryFault}
use Rattle.schedule_certificate.specs.Plans.{Plan}
use Rattle.setting_runner.specs.declared.outcome.RunRefusal.TheVariants as run_refusal
use Rattle.batch_book.specs.declared.limits.TheConstants.{MAX_BATCHES}
use Rattle.batch_book.specs.declared.stored_batch.StoredBatch.{StoredBatch}
use Rattle.batch_book.specs.declared.stored_batch.BatchStage.{BatchStage}
use Rattle.batch_book.specs.declared.stored_batch.BatchStage.TheVariants as stage
use Rattle.batch_book.specs.declared.refusal.BookRefusal.TheVariants.{BookFull, Unknown, Unplanned, Stranger, Already}
use Rattle.batch_book.specs.declared.reply.Reply.{Reply}
use Rattle.batch_book.specs.declared.reply.Reply.TheVariants as reply
use Rattle.batch_book.specs.declared.call.Call.{Call}
use Rattle.batch_book.specs.declared.call.Call.TheVariants.{Submit, Fetch, Settle, Run, Show, Discard, Peek, Poke}
use Rattle.batch_book.specs.Machine.{Machine, batch_of, Gives, accept, submit, fetch, settle_at, settle, show, discard, peek_unless, poke_unless, refuse, IsRunOf, IsRunAt, IsRunStep, IsMachineStep}
use Rattle.batch_book.specs.Replies.{is_logged}

-- the reply goes into the history; one number at most is given to batches, and one to runs; and the
-- rack keeps its shape
pub record IsSmall (m : Machine) (r : Reply) (n : Machine) : Type 0 where
  pub logged : is_logged r ≡ true
  pub given : n.given ≤ m.given + 1
  pub runs : n.runs ≤ m.runs + 1
  pub shape : n.store.shape ≡ m.store.shape
  pub blocks : length n.store.blocks ≡ length m.store.blocks

abbrev IsSmallAnswer : Machine → Reply × Machine → Type 0
IsSmallAnswer m a = IsSmall m a.0 a.1

gives : (m : Machine) (a : Reply × Machine) (r : Reply) (n : Machine) → IsSmallAnswer m a → Gives a r n → IsSmall m r n
gives m a r n small is = record {
  logged = ap is_logged is.0 ∙ small.logged;
  given = let e = ap (λ (x : Machine). x.given) is.1 in let f = small.given in omega arith;
  runs = let e = ap (λ (x : Machine). x.runs) is.1 in let f = small.runs in omega arith;
  shape = ap (λ (x : Machine). x.store.shape) is.1 ∙ small.shape;
  blocks = ap (λ (x : Machine). length x.store.blocks) is.1 ∙ small.blocks;
}

moves : (m : Machine) (r : Reply) (n : Machine) → is_logged r ≡ true → n.given ≤ m.given + 1 → n.runs ≤ m.runs + 1 → n.store.shape ≡ m.store.shape
    → length n.store.blocks ≡ length m.store.blocks → IsSmall m r n
moves m r n logged given runs shape blocks = record { logged = logged; given = given; runs = runs; shape = shape; blocks = blocks }

stays : (m : Machine) (r : Reply) (n : Machine) → is_logged r ≡ true → n ≡ m → IsSmall m r n
stays m r n logged is = record {
  logged = logged;
  given = let e = ap (λ (x : Machine). x.given) is in omega arith;
  runs = let e = ap (λ (x : Machine). x.runs) is in omega arith;
  shape = ap (λ (x : Machine). x.store.shape) is;
  blocks = ap (λ (x : Machine). length x.store.blocks) is;
}

submit_if : (m : Machine) (session : ℕ) (batch : List Transfer) (b : Bool) → IsSmallAnswer m (if b then accept m session batch else refuse m BookFull)
submit_if m session batch true = moves m _ _ refl (omega arith) (omega arith) refl refl
submit_if m session batch false = stays m _ m refl refl

small_submit : (m : Machine) (session : ℕ) (batch : List Transfer) → IsSmallAnswer m (submit m session batch)
small_submit m session batch = submit_if m session batch (nat_lt (length m.batches) MAX_BATCHES)

small_fetch : (m : Machine) (h : Option StoredBatch) → IsSmallAnswer m (fetch m h)
small_fetch m None = stays m _ m refl refl
small_fetch m (Some h) = stays m _ m refl refl

small_settle_at : (m : Machine) (id : ℕ) (plan : Plan) (s : BatchStage) → IsSmallAnswer m (settle_at m id plan s)
small_settle_at m id plan stage.Waiting = moves m _ _ refl (omega arith) (omega arith) refl refl
small_settle_at m id plan (stage.Planned other) = stays m _ m refl refl
small_settle_at m id plan stage.Ran = stays m _ m refl refl
small_settle_at m id plan stage.Stopped = stays m _ m refl refl

settle_if : (m : Machine) (id : ℕ) (plan : Plan) (s : BatchStage) (b : Bool) → IsSmallAnswer m (if b then settle_at m id plan s else refuse m Stranger)
settle_if m id plan s true = small_settle_at m id plan s
settle_if m id plan s false = stays m _ m refl refl

small_settle : (m : Machine) (id : ℕ) (plan : Plan) (h : Option StoredBatch) → IsSmallAnswer m (settle m id plan h)
small_settle m id plan None = stays m _ m refl refl
small_settle m id plan (Some h) = settle_if m id plan h.stage (same_transfers h.batch plan.batch)

small_show : (m : Machine) (h : Option StoredBatch) → IsSmallAnswer m (show m h)
small_show m None = stays m _ m refl refl
small_show m (Some h) = stays m _ m refl refl

small_discard : (m : Machine) (id : ℕ) (h : Option StoredBatch) → IsSmallAnswer m (discard m id h)
small_discard m id None = stays m _ m refl refl
small_discard m id (Some h) = moves m _ _ refl (omega arith) (omega arith) refl refl

small_peek : (m : Machine) («module» address : ℕ) (f : Option MemoryFault) → IsSmallAnswer m (peek_unless f m «module» address)
small_peek m «module» address None = stays m _ m refl refl
small_peek m «module» address (Some f) = stays m _ m refl refl

small_poke : (m : Machine) («module» address word : ℕ) (f : Option MemoryFault) → IsSmallAnswer m (poke_unless f m «module» address word)
small_poke m «module» address word None = moves m _ _ refl (omega arith) (omega arith) refl (length-set m.store.blocks _ _)
small_poke m «module» address word (Some f) = stays m _ m refl refl

small_run_of : (m : Machine) (id : ℕ) (plan : Plan) (r : Reply) (n : Machine) → IsRunOf m id plan r n → IsSmall m r n
small_run_of m id plan (reply.RunRefused (run_refusal.Overlap i j)) n is = stays m _ n refl is.1
small_run_of m id plan (reply.RunRefused run_refusal.Shape) n is = stays m _ n refl is.2
small_run_of m id plan (reply.Ran run settings words) n is =
    let given = ap (λ (x : Machine). x.given) is.2 in
    let runs = ap (λ (x : Machine). x.runs) is.2 in
    moves m _ n refl (omega arith) (omega arith) is.1.placed.same_shape is.1.placed.same_length
small_run_of m id plan (reply.Stopped run setting cause moved) n is =
    let given = ap (λ (x : Machine). x.given) is.2 in
    let runs = ap (λ (x : Machine). x.runs) is.2 in
    moves m _ n refl (omega arith) (omega arith) is.1.store.same_shape is.1.store.same_length
small_run_of m id plan r n is = absurd is

small_run_at : (m : Machine) (id : ℕ) (s : BatchStage) (r : Reply) (n : Machine) → IsRunAt m id s r n → IsSmall m r n
small_run_at m id stage.Waiting r n is = gives m (refuse m Unplanned) r n (stays m _ m refl refl) is
small_run_at m id (stage.Planned plan) r n is = small_run_of m id plan r n is
small_run_at m id stage.Ran r n is = gives m (refuse m Already) r n (stays m _ m refl refl) is
small_run_at m id stage.Stopped r n is = gives m (refuse m Already) r n (stays m _ m refl refl) is

small_run : (m : Machine) (id : ℕ) (h : Option StoredBatch) (r : Reply) (n : Machine) → IsRunStep m id h r n → IsSmall m r n
small_run m id None r n is = gives m (refuse m Unknown) r n (stays m _ m refl refl) is
small_run m id (Some h) r n is = small_run_at m id h.stage r n is

pub small_step : (m : Machine) (session : ℕ) (c : Call) (r : Reply) (n : Machine) → IsMachineStep m session c r n → IsSmall m r n
small_step m session (Submit batch) r n is = gives m _ r n (small_submit m session batch) is
small_step m session (Fetch id) r n is = gives m _ r n (small_fetch m (batch_of m session id)) is
small_step m session (Settle id plan) r n is = gives m _ r n (small_settle m id plan (batch_of m session id)) is.1
small_step m session (Run id) r n is = small_run m id (batch_of m session id) r n is
small_step m session (Show id) r n is = gives m _ r n (small_show m (batch_of m session id)) is
small_step m session (Discard id) r n is = gives m _ r n (small_discard m id (batch_of m session id)) is
small_step m session (Peek «module» address) r n is = gives m _ r n (small_peek m «module» address (fault_of m.store.shape «module» address)) is
small_step m session (Poke «module» address word) r n is = gives m _ r n (small_poke m «module» address word (fault_of m.store.shape «module» address)) is
