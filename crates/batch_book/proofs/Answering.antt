-- What a step of the machine says of its reply: it is one of its call's, and a run has the next
-- number.
use Rattle.std.proofs.Common.{◌≡◌, ℕ, ◌+◌, ◌*◌, ◌<◌, ◌≤◌, List, Bool, true, false, nat_eq, nat_lt, if◌then◌else◌, ◌==◌, length, Option, None, Some, IfSome, ◌≢◌, refl, sym, subst, arith}
use Rattle.std.proofs.lemmas.Nat.{mul-le}
use Rattle.std.proofs.lemmas.Map.Entries.{All-lookup}
use Rattle.std.specs.Map.{lookup}
use Rattle.batch.specs.declared.limits.TheConstants.{MAX_TRANSFERS, MAX_WORDS}
use Rattle.batch.specs.declared.transfer.Transfer.{Transfer}
use Rattle.batch.specs.Equal.{same_transfers}
use Rattle.batch.specs.ShapeView.{IsShape}
use Rattle.module_memory.specs.Address.{fault_of}
use Rattle.module_memory.specs.Store.{Store}
use Rattle.module_memory.specs.declared.fault.MemoryFault.{MemoryFault}
use Rattle.schedule_certificate.specs.Plans.{Plan, IsPlan}
use Rattle.setting_runner.specs.declared.outcome.RunRefusal.TheVariants as run_refusal
use Rattle.batch_book.specs.declared.limits.TheConstants.{MAX_BATCHES, MAX_NUMBER, RUN_STEP}
use Rattle.batch_book.specs.declared.entry.Entry.{Entry}
use Rattle.batch_book.specs.declared.stored_batch.StoredBatch.{StoredBatch}
use Rattle.batch_book.specs.declared.stored_batch.BatchStage.{BatchStage}
use Rattle.batch_book.specs.declared.stored_batch.BatchStage.TheVariants as stage
use Rattle.batch_book.specs.declared.refusal.BookRefusal.TheVariants.{HistoryFull, NoMemory, BookFull, Unknown, Unplanned, Stranger, Already}
use Rattle.batch_book.specs.declared.reply.Reply.{Reply}
use Rattle.batch_book.specs.declared.reply.Reply.TheVariants as reply
use Rattle.batch_book.specs.declared.call.Call.{Call}
use Rattle.batch_book.specs.declared.call.Call.TheVariants.{Submit, Fetch, Settle, Run, Show, Discard, Peek, Poke}
use Rattle.batch_book.specs.Machine.{Machine, opened, owned, batch_of, Gives, accept, refuse, fetch, settle_at, settle, show, discard, peek_unless, poke_unless, IsRunOf, IsRunAt, IsRunStep}
use Rattle.batch_book.specs.Machine.{IsMachineStep}
use Rattle.batch_book.specs.History.{BookView, IsReplay, IsGrown, HasOwnPlan, HaveOwnPlans, IsSound}
use Rattle.batch_book.specs.Replies.{is_logged}
use Rattle.batch_book.specs.Answering.{IsReplyTo}
use Rattle.batch_book.specs.Values.{value_of}
use Rattle.batch_book.proofs.OwnPlans.{plans_stay}

-- a reply that tells of a run has this number
abbrev pub IsNumbered : ℕ → Reply → Type 0
IsNumbered n (reply.Ran run settings words) = run ≡ n
IsNumbered n (reply.Stopped run setting cause moved) = run ≡ n
IsNumbered n r = Unit {0}

pub record IsAnswer (m : Machine) (call : Call) (r : Reply) : Type 0 where
  pub fits : IsReplyTo call r
  pub number : IsNumbered (m.runs + 1) r

-- ---- a batch that is found has its own plan

owned_if : (P : StoredBatch → Type 0) (h : StoredBatch) (b : Bool) → P h → IfSome (if b then Some h else None) P
owned_if P h true is = is
owned_if P h false is = tt

owned_keeps : (P : StoredBatch → Type 0) (session : ℕ) (o : Option StoredBatch) → IfSome o P → IfSome (owned session o) P
owned_keeps P session None is = tt
owned_keeps P session (Some h) is = owned_if P h (h.owner == session) is

own_found : (m : Machine) (session id : ℕ) → HaveOwnPlans m → IfSome (batch_of m session id) HasOwnPlan
own_found m session id all = owned_keeps HasOwnPlan session (lookup (nat_eq id) m.batches) (All-lookup HasOwnPlan (nat_eq id) m.batches all)

-- ---- all calls but a run

quiet : (m : Machine) (call : Call) (r : Reply) → IsReplyTo call r → IsNumbered (m.runs + 1) r → IsAnswer m call r
quiet m call r fits number = record { fits = fits; number = number }

gives : (m : Machine) (call : Call) (answer : Reply × Machine) (r : Reply) (n : Machine) → IsAnswer m call answer.0 → Gives answer r n → IsAnswer m call r
gives m call answer r n is given = subst (IsAnswer m call) (sym given.0) is

submit_if : (m : Machine) (session : ℕ) (batch : List Transfer) (b : Bool)
    → IsAnswer m (Submit batch) (if b then accept m session batch else refuse m BookFull).0
submit_if m session batch true = quiet m (Submit batch) _ (omega arith) tt
submit_if m session batch false = quiet m (Submit batch) _ tt tt

fetch_of : (m : Machine) (id : ℕ) (h : Option StoredBatch) → IsAnswer m (Fetch id) (fetch m h).0
fetch_of m id None = quiet m (Fetch id) _ tt tt
fetch_of m id (Some h) = quiet m (Fetch id) _ tt tt

settle_stage : (m : Machine) (id : ℕ) (plan : Plan) (s : BatchStage) → IsAnswer m (Settle id plan) (settle_at m id plan s).0
settle_stage m id plan stage.Waiting = quiet m (Settle id plan) _ refl tt
settle_stage m id plan (stage.Planned other) = quiet m (Settle id plan) _ tt tt
settle_stage m id plan stage.Ran = quiet m (Settle id plan) _ tt tt
settle_stage m id plan stage.Stopped = quiet m (Settle id plan) _ tt tt

settle_if : (m : Machine) (id : ℕ) (plan : Plan) (s : BatchStage) (b : Bool)
    → IsAnswer m (Settle id plan) (if b then settle_at m id plan s else refuse m Stranger).0
settle_if m id plan s true = settle_stage m id plan s
settle_if m id plan s false = quiet m (Settle id plan) _ tt tt

settle_of : (m : Machine) (id : ℕ) (plan : Plan) (h : Option StoredBatch) → IsAnswer m (Settle id plan) (settle m id plan h).0
settle_of m id plan None = quiet m (Settle id plan) _ tt tt
settle_of m id plan (Some h) = settle_if m id plan h.stage (same_transfers h.batch plan.batch)

show_of : (m : Machine) (id : ℕ) (h : Option StoredBatch) → IsAnswer m (Show id) (show m h).0
show_of m id None = quiet m (Show id) _ tt tt
show_of m id (Some h) = quiet m (Show id) _ tt tt

discard_of : (m : Machine) (id : ℕ) (h : Option StoredBatch) → IsAnswer m (Discard id) (discard m id h).0
discard_of m id None = quiet m (Discard id) _ tt tt
discard_of m id (Some h) = quiet m (Discard id) _ tt tt

peek_of : (m : Machine) («module» address : ℕ) (f : Option MemoryFault) → IsAnswer m (Peek «module» address) (peek_unless f m «module» address).0
peek_of m «module» address None = quiet m (Peek «module» address) _ tt tt
peek_of m «module» address (Some f) = quiet m (Peek «module» address) _ tt tt

poke_of : (m : Machine) («module» address word : ℕ) (f : Option MemoryFault) → IsAnswer m (Poke «module» address word) (poke_unless f m «module» address word).0
poke_of m «module» address word None = quiet m (Poke «module» address word) _ tt tt
poke_of m «module» address word (Some f) = quiet m (Poke «module» address word) _ tt tt

-- ---- runs

no_memory≢overlap : (i j : ℕ) → run_refusal.Overlap i j ≢ run_refusal.NoMemory
no_memory≢overlap i j is = absurd (cc)

no_memory≢shape : run_refusal.Shape ≢ run_refusal.NoMemory
no_memory≢shape is = absurd (cc)

run_of : (m : Machine) (id : ℕ) (plan : Plan) (r : Reply) (n : Machine) → IsShape m.store.shape → IsPlan plan → IsRunOf m id plan r n → IsAnswer m (Run id) r
run_of m id plan (reply.RunRefused (run_refusal.Overlap i j)) n shape good is = quiet m (Run id) _ (no_memory≢overlap i j) tt
run_of m id plan (reply.RunRefused run_refusal.Shape) n shape good is = quiet m (Run id) _ no_memory≢shape tt
run_of m id plan (reply.Ran run settings words) n shape good is =
    let number = is.0.number in
    let few = good.few in
    let batch = good.fits.few in
    let all = is.1.all_settings in
    quiet m (Run id) _
    (record {
      number = omega arith;
      few_settings = omega arith;
      few_words = subst (λ w. w ≤ MAX_TRANSFERS * MAX_WORDS) (sym is.1.all_moved) (mul-le (length plan.batch) m.store.shape.words MAX_TRANSFERS MAX_WORDS batch
          shape.few_words);
    })
    number
run_of m id plan (reply.Stopped run setting cause moved) n shape good is =
    let number = is.0.number in
    let few = good.few in
    let batch = good.fits.few in
    let within = is.1.within in
    quiet m (Run id) _ (record { number = omega arith; few_settings = omega arith }) number
run_of m id plan r n shape good is = absurd is

run_at : (m : Machine) (id : ℕ) (s : BatchStage) (r : Reply) (n : Machine) → IsShape m.store.shape → ((plan : Plan) → s ≡ stage.Planned plan → IsPlan plan)
    → IsRunAt m id s r n → IsAnswer m (Run id) r
run_at m id stage.Waiting r n shape good is = gives m (Run id) (refuse m Unplanned) r n (quiet m (Run id) _ tt tt) is
run_at m id (stage.Planned plan) r n shape good is = run_of m id plan r n shape (good plan refl) is
run_at m id stage.Ran r n shape good is = gives m (Run id) (refuse m Already) r n (quiet m (Run id) _ tt tt) is
run_at m id stage.Stopped r n shape good is = gives m (Run id) (refuse m Already) r n (quiet m (Run id) _ tt tt) is

run : (m : Machine) (id : ℕ) (h : Option StoredBatch) (r : Reply) (n : Machine) → IsShape m.store.shape → IfSome h HasOwnPlan → IsRunStep m id h r n
    → IsAnswer m (Run id) r
run m id None r n shape good is = gives m (Run id) (refuse m Unknown) r n (quiet m (Run id) _ tt tt) is
run m id (Some h) r n shape good is = run_at m id h.stage r n shape (λ plan staged. (good plan staged).0) is

-- ---- a step

pub answered : (m : Machine) (session : ℕ) (c : Call) (r : Reply) (n : Machine) → IsSound m → IsMachineStep m session c r n → IsAnswer m c r
answered m session (Submit batch) r n sound is = gives m (Submit batch) _ r n (submit_if m session batch (nat_lt (length m.batches) MAX_BATCHES)) is
answered m session (Fetch id) r n sound is = gives m (Fetch id) _ r n (fetch_of m id (batch_of m session id)) is
answered m session (Settle id plan) r n sound is = gives m (Settle id plan) _ r n (settle_of m id plan (batch_of m session id)) is.1
answered m session (Run id) r n sound is = run m id (batch_of m session id) r n sound.shape (own_found m session id sound.plans) is
answered m session (Show id) r n sound is = gives m (Show id) _ r n (show_of m id (batch_of m session id)) is
answered m session (Discard id) r n sound is = gives m (Discard id) _ r n (discard_of m id (batch_of m session id)) is
answered m session (Peek «module» address) r n sound is = gives m (Peek «module» address) _ r n
    (peek_of m «module» address (fault_of m.store.shape «module» address)) is
answered m session (Poke «module» address word) r n sound is = gives m (Poke «module» address word) _ r n
    (poke_of m «module» address word (fault_of m.store.shape «module» address)) is

-- the value of the reply is no greater than that of the next run can be
pub value_below : (m : Machine) (c : Call) (r : Reply) → IsAnswer m c r → m.runs ≤ MAX_NUMBER → value_of r < RUN_STEP * (MAX_NUMBER + 2)
value_below m (Run id) (reply.Ran run settings words) is few = omega (arith, is.number, is.fits.few_settings, few)
value_below m (Run id) (reply.Stopped run setting cause moved) is few = omega (arith, is.number, is.fits.few_settings, few)
value_below m c (reply.Ran run settings words) is few = absurd is.fits
value_below m c (reply.Stopped run setting cause moved) is few = absurd is.fits
value_below m c r is few = omega arith

-- ---- replies that the history hasn't

unlogged : (c : Call) (r : Reply) → is_logged r ≡ false → IsReplyTo c r
unlogged c (reply.Refused HistoryFull) is = tt
unlogged c (reply.Refused NoMemory) is = tt
unlogged c r is = absurd (cc)

replied_by : (old : BookView) (session : ℕ) (c : Call) (r : Reply) (new : BookView) (b : Bool) → is_logged r ≡ b → IsSound old.machine
    → (is_logged r ≡ true → IsGrown old session c r new) → IsReplyTo c r
replied_by old session c r new true is sound grown = (answered old.machine session c r new.machine sound (grown is).step).fits
replied_by old session c r new false is sound grown = unlogged c r is

-- the reply is one of its call's, whether the history has it or not
pub replied : (old : BookView) (session : ℕ) (c : Call) (r : Reply) (new : BookView) → IsSound old.machine → (is_logged r ≡ true → IsGrown old session c r new)
    → IsReplyTo c r
replied old session c r new = replied_by old session c r new (is_logged r) refl

-- ---- every machine of a book

pub sound : (opening : Store) (es : List Entry) (m : Machine) → IsShape m.store.shape → IsReplay (opened opening) es m → IsSound m
sound opening es m shape led = record { plans = plans_stay (opened opening) es m nothing led; shape = shape }
  where
    nothing : HaveOwnPlans (opened opening)
    nothing k d below = absurd (omega arith)
