-- Each batch that can be run has a plan of its own transfers.
use Rattle.std.proofs.Common.{◌≡◌, ℕ, ◌+◌, List, [], ◌∷◌, Bool, true, false, cond, nat_eq, nat_lt, if◌then◌else◌, ◌==◌, length, Option, None, Some, All, refl, sym, ap, ◌∙◌, subst}
use Rattle.std.proofs.lemmas.Bool.{false≢true}
use Rattle.std.proofs.lemmas.List.Elements.{All-cons, All-head, All-tail, All-push}
use Rattle.std.specs.Map.{lookup, set_value, remove_entry}
use Rattle.batch.specs.declared.transfer.Transfer.{Transfer}
use Rattle.batch.specs.Equal.{same_transfers}
use Rattle.batch.proofs.Equal.{same_transfers-Decides}
use Rattle.module_memory.specs.Address.{fault_of}
use Rattle.module_memory.specs.declared.fault.MemoryFault.{MemoryFault}
use Rattle.schedule_certificate.specs.Plans.{Plan, IsPlan}
use Rattle.setting_runner.specs.declared.outcome.RunRefusal.TheVariants as run_refusal
use Rattle.batch_book.specs.declared.limits.TheConstants.{MAX_BATCHES}
use Rattle.batch_book.specs.declared.stored_batch.StoredBatch.{StoredBatch}
use Rattle.batch_book.specs.declared.stored_batch.BatchStage.{BatchStage}
use Rattle.batch_book.specs.declared.stored_batch.BatchStage.TheVariants as stage
use Rattle.batch_book.specs.declared.refusal.BookRefusal.TheVariants.{BookFull, Stranger}
use Rattle.batch_book.specs.declared.reply.Reply.{Reply}
use Rattle.batch_book.specs.declared.reply.Reply.TheVariants as reply
use Rattle.batch_book.specs.declared.call.Call.{Call}
use Rattle.batch_book.specs.declared.call.Call.TheVariants.{Submit, Fetch, Settle, Run, Show, Discard, Peek, Poke}
use Rattle.batch_book.specs.Machine.{Machine, stored_batch, owned, batch_of, staged, accept, refuse, fetch, settle_at, settle, show, discard, peek_unless, poke_unless, IsRunOf, IsRunAt, IsRunStep}
use Rattle.batch_book.specs.Machine.{IsMachineStep}
use Rattle.batch_book.specs.History.{HasOwnPlan, HaveOwnPlans}
use Rattle.batch_book.specs.Laws.{PlansStay}

-- ---- stages

abbrev is_planned : BatchStage → Bool
is_planned (stage.Planned plan) = true
is_planned s = false

abbrev plan_or : Plan → BatchStage → Plan
plan_or plan (stage.Planned other) = other
plan_or plan s = plan

unplanned : (s : BatchStage) (owner : ℕ) (batch : List Transfer) → is_planned s ≡ false → HasOwnPlan (stored_batch owner batch s)
unplanned s owner batch none = λ plan is. absurd (false≢true (sym none ∙ ap is_planned is))

planned : (plan : Plan) (owner : ℕ) (batch : List Transfer) → IsPlan plan → plan.batch ≡ batch → HasOwnPlan (stored_batch owner batch (stage.Planned plan))
planned plan owner batch good same = λ other is. subst (λ (p : Plan). IsPlan p × (p.batch ≡ batch)) (ap (plan_or plan) is) (good, same)

-- ---- entries

abbrev Own : ℕ × StoredBatch → Type 0
Own e = HasOwnPlan e.1

set_step : (x : ℕ × StoredBatch) (xs ys : List (ℕ × StoredBatch)) (w : StoredBatch) → HasOwnPlan w → All Own (x ∷ xs) → All Own ys → (b : Bool)
    → All Own (cond b ((x.0, w) ∷ xs) (x ∷ ys))
set_step x xs ys w good all rest true = All-cons Own (x.0, w) xs good (All-tail Own x xs all)
set_step x xs ys w good all rest false = All-cons Own x ys (All-head Own x xs all) rest

own_set : (k : ℕ → Bool) (es : List (ℕ × StoredBatch)) (w : StoredBatch) → HasOwnPlan w → All Own es → All Own (set_value k es w)
own_set k [] w good all = all
own_set k (x ∷ xs) w good all = set_step x xs (set_value k xs w) w good all (own_set k xs w good (All-tail Own x xs all)) (k x.0)

removed_step : (x : ℕ × StoredBatch) (xs ys : List (ℕ × StoredBatch)) → All Own (x ∷ xs) → All Own ys → (b : Bool) → All Own (cond b xs (x ∷ ys))
removed_step x xs ys all rest true = All-tail Own x xs all
removed_step x xs ys all rest false = All-cons Own x ys (All-head Own x xs all) rest

own_removed : (k : ℕ → Bool) (es : List (ℕ × StoredBatch)) → All Own es → All Own (remove_entry k es)
own_removed k [] all = all
own_removed k (x ∷ xs) all = removed_step x xs (remove_entry k xs) all (own_removed k xs (All-tail Own x xs all)) (k x.0)

own_staged : (id : ℕ) (s : BatchStage) (es : List (ℕ × StoredBatch)) (h : Option StoredBatch) → is_planned s ≡ false → All Own es → All Own (staged id s es h)
own_staged id s es None none all = all
own_staged id s es (Some h) none all = own_set (nat_eq id) es (stored_batch h.owner h.batch s) (unplanned s h.owner h.batch none) all

-- ---- steps

settled_at : (m : Machine) (id : ℕ) (plan : Plan) (h : StoredBatch) (s : BatchStage) → lookup (nat_eq id) m.batches ≡ Some h → IsPlan plan → h.batch
    ≡ plan.batch → HaveOwnPlans m → HaveOwnPlans (settle_at m id plan s).1
settled_at m id plan h stage.Waiting found good same all =
    subst (λ (o : Option StoredBatch). All Own (staged id (stage.Planned plan) m.batches o)) (sym found)
    (own_set (nat_eq id) m.batches (stored_batch h.owner h.batch (stage.Planned plan)) (planned plan h.owner h.batch good (sym same)) all)
settled_at m id plan h (stage.Planned other) found good same all = all
settled_at m id plan h stage.Ran found good same all = all
settled_at m id plan h stage.Stopped found good same all = all

settled_if : (m : Machine) (id : ℕ) (plan : Plan) (h : StoredBatch) (b : Bool) → same_transfers h.batch plan.batch ≡ b → lookup (nat_eq id) m.batches ≡ Some h
    → IsPlan plan → HaveOwnPlans m
    → HaveOwnPlans (if b then settle_at m id plan h.stage else refuse m Stranger).1
settled_if m id plan h true same found good all = settled_at m id plan h h.stage found good ((same_transfers-Decides h.batch plan.batch).0 same) all
settled_if m id plan h false same found good all = all

settled_by : (m : Machine) (id : ℕ) (plan : Plan) (h : StoredBatch) (b : Bool) → lookup (nat_eq id) m.batches ≡ Some h → IsPlan plan → HaveOwnPlans m
    → HaveOwnPlans (settle m id plan (if b then Some h else None)).1
settled_by m id plan h true found good all = settled_if m id plan h (same_transfers h.batch plan.batch) refl found good all
settled_by m id plan h false found good all = all

settled : (m : Machine) (session id : ℕ) (plan : Plan) (o : Option StoredBatch) → lookup (nat_eq id) m.batches ≡ o → IsPlan plan → HaveOwnPlans m
    → HaveOwnPlans (settle m id plan (owned session o)).1
settled m session id plan None found good all = all
settled m session id plan (Some h) found good all = settled_by m id plan h (h.owner == session) found good all

submitted : (m : Machine) (session : ℕ) (batch : List Transfer) (b : Bool) → HaveOwnPlans m
    → HaveOwnPlans (if b then accept m session batch else refuse m BookFull).1
submitted m session batch true all = All-push Own m.batches (m.given + 1, stored_batch session batch stage.Waiting) all
    (unplanned stage.Waiting session batch refl)
submitted m session batch false all = all

fetched : (m : Machine) (h : Option StoredBatch) → HaveOwnPlans m → HaveOwnPlans (fetch m h).1
fetched m None all = all
fetched m (Some h) all = all

shown : (m : Machine) (h : Option StoredBatch) → HaveOwnPlans m → HaveOwnPlans (show m h).1
shown m None all = all
shown m (Some h) all = all

discarded : (m : Machine) (id : ℕ) (h : Option StoredBatch) → HaveOwnPlans m → HaveOwnPlans (discard m id h).1
discarded m id None all = all
discarded m id (Some h) all = own_removed (nat_eq id) m.batches all

peeked : (m : Machine) («module» address : ℕ) (f : Option MemoryFault) → HaveOwnPlans m → HaveOwnPlans (peek_unless f m «module» address).1
peeked m «module» address None all = all
peeked m «module» address (Some f) all = all

poked : (m : Machine) («module» address word : ℕ) (f : Option MemoryFault) → HaveOwnPlans m → HaveOwnPlans (poke_unless f m «module» address word).1
poked m «module» address word None all = all
poked m «module» address word (Some f) all = all

behind : (n k : Machine) → n ≡ k → HaveOwnPlans k → HaveOwnPlans n
behind n k is all = subst HaveOwnPlans (sym is) all

run_of : (m : Machine) (id : ℕ) (plan : Plan) (r : Reply) (n : Machine) → HaveOwnPlans m → IsRunOf m id plan r n → HaveOwnPlans n
run_of m id plan (reply.RunRefused (run_refusal.Overlap i j)) n all is = behind n _ is.1 all
run_of m id plan (reply.RunRefused run_refusal.Shape) n all is = behind n _ is.2 all
run_of m id plan (reply.Ran run settings words) n all is = behind n _ is.2 (own_staged id stage.Ran m.batches (lookup (nat_eq id) m.batches) refl all)
run_of m id plan (reply.Stopped run setting cause moved) n all is =
    behind n _ is.2 (own_staged id stage.Stopped m.batches (lookup (nat_eq id) m.batches) refl all)
run_of m id plan r n all is = absurd is

run_at : (m : Machine) (id : ℕ) (s : BatchStage) (r : Reply) (n : Machine) → HaveOwnPlans m → IsRunAt m id s r n → HaveOwnPlans n
run_at m id stage.Waiting r n all is = behind n _ is.1 all
run_at m id (stage.Planned plan) r n all is = run_of m id plan r n all is
run_at m id stage.Ran r n all is = behind n _ is.1 all
run_at m id stage.Stopped r n all is = behind n _ is.1 all

run : (m : Machine) (id : ℕ) (h : Option StoredBatch) (r : Reply) (n : Machine) → HaveOwnPlans m → IsRunStep m id h r n → HaveOwnPlans n
run m id None r n all is = behind n _ is.1 all
run m id (Some h) r n all is = run_at m id h.stage r n all is

step : (m : Machine) (session : ℕ) (c : Call) (r : Reply) (n : Machine) → HaveOwnPlans m → IsMachineStep m session c r n → HaveOwnPlans n
step m session (Submit batch) r n all is = behind n _ is.1 (submitted m session batch (nat_lt (length m.batches) MAX_BATCHES) all)
step m session (Fetch id) r n all is = behind n _ is.1 (fetched m (batch_of m session id) all)
step m session (Settle id plan) r n all is = behind n _ is.1.1 (settled m session id plan (lookup (nat_eq id) m.batches) refl is.0 all)
step m session (Run id) r n all is = run m id (batch_of m session id) r n all is
step m session (Show id) r n all is = behind n _ is.1 (shown m (batch_of m session id) all)
step m session (Discard id) r n all is = behind n _ is.1 (discarded m id (batch_of m session id) all)
step m session (Peek «module» address) r n all is = behind n _ is.1 (peeked m «module» address (fault_of m.store.shape «module» address) all)
step m session (Poke «module» address word) r n all is = behind n _ is.1 (poked m «module» address word (fault_of m.store.shape «module» address) all)

pub plans_stay : PlansStay
plans_stay m [] n all is = subst HaveOwnPlans (sym is) all
plans_stay m (e ∷ es) n all is = plans_stay is.0 es n (step m e.session e.call e.reply is.0 all is.1) is.2
