-- Where plans are settled right after the fetching of their batches, none is another's.
use Rattle.std.proofs.Common.{◌≡◌, ◌≢◌, ℕ, List, [], ◌∷◌, length, Bool, true, false, cond, nat_eq, nat_lt, if◌then◌else◌, ◌==◌, Option, None, Some, refl, sym, ap, ◌∙◌, subst, eq-eqb}
use Rattle.std.specs.List.{AllByRecursion}
use Rattle.std.specs.Map.{lookup}
use Rattle.std.proofs.lemmas.List.Elements.{All-from_recursion}
use Rattle.batch.specs.declared.transfer.Transfer.{Transfer}
use Rattle.module_memory.specs.Address.{fault_of}
use Rattle.module_memory.specs.declared.fault.MemoryFault.{MemoryFault}
use Rattle.schedule_certificate.specs.Plans.{Plan}
use Rattle.batch_book.specs.declared.limits.TheConstants.{MAX_BATCHES}
use Rattle.batch_book.specs.declared.stored_batch.StoredBatch.{StoredBatch}
use Rattle.batch_book.specs.declared.stored_batch.BatchStage.{BatchStage}
use Rattle.batch_book.specs.declared.stored_batch.BatchStage.TheVariants as stage
use Rattle.batch_book.specs.declared.call.Call.{Call}
use Rattle.batch_book.specs.declared.call.Call.TheVariants.{Submit, Fetch, Settle, Run, Show, Discard, Peek, Poke}
use Rattle.batch_book.specs.declared.entry.Entry.{Entry}
use Rattle.batch_book.specs.declared.refusal.BookRefusal.TheVariants.{BookFull, Stranger, Unknown, Unplanned, Already}
use Rattle.batch_book.specs.declared.reply.Reply.{Reply}
use Rattle.batch_book.specs.declared.reply.Reply.TheVariants as reply
use Rattle.batch_book.specs.Machine.{Machine, opened, owned, batch_of, accept, refuse, fetch, show, discard, peek_unless, poke_unless, IsRunAt, IsRunStep, IsMachineStep}
use Rattle.batch_book.specs.History.{IsReplay}
use Rattle.batch_book.specs.Seats.{own}
use Rattle.record_replay.specs.Replays.{IsPlanFor}
use Rattle.record_replay.proofs.Entries.{no_stranger}
use Rattle.record_replay.specs.Fetched.{fetched_by, SettlesFetched, SettleFetched}
use Rattle.record_replay.specs.SessionLaws.{NoStrangers}
use Rattle.record_replay.proofs.Kept.{AreNumbered, Holds, IsOnly, Keeps, found, holds_found, step_keeps}

-- ---- what was fetched

abbrev HoldsFetched : Machine → Option (ℕ × List Transfer) → Type 0
HoldsFetched m None = Unit {0}
HoldsFetched m (Some batch) = Holds m batch.0 batch.1

still : (m n : Machine) (last : Option (ℕ × List Transfer)) → Keeps m n → HoldsFetched m last → HoldsFetched n last
still m n None keeps holds = tt
still m n (Some batch) keeps holds = keeps.1 batch.0 batch.1 holds

owned_if : (h g : StoredBatch) (b : Bool) → (if b then Some h else None) ≡ Some g → Some h ≡ Some g
owned_if h g true is = is
owned_if h g false is = absurd cc

owned_found : (session : ℕ) (o : Option StoredBatch) (g : StoredBatch) → owned session o ≡ Some g → o ≡ Some g
owned_found session None g is = absurd cc
owned_found session (Some h) g is = owned_if h g (h.owner == session) is

abbrev batch_in_reply : Reply → List Transfer
batch_in_reply (reply.Fetched batch) = batch
batch_in_reply r = []

fetched_from : (m n : Machine) (session id : ℕ) (batch : List Transfer) (o : Option StoredBatch) → batch_of m session id ≡ o → AreNumbered m
    → reply.Fetched batch ≡ (fetch m o).0 → Holds m id batch
fetched_from m n session id batch None at numbered is = absurd cc
fetched_from m n session id batch (Some h) at numbered is =
    subst (Holds m id) (sym (ap batch_in_reply is)) (holds_found m id h numbered (owned_found session (lookup (nat_eq id) m.batches) h at))

after_fetch : (m n : Machine) (session : ℕ) (c : Call) (r : Reply) → AreNumbered m → IsMachineStep m session c r n → HoldsFetched n (fetched_by c r)
after_fetch m n session (Fetch id) (reply.Fetched batch) numbered step =
    (step_keeps m session (Fetch id) (reply.Fetched batch) n numbered step).1 id batch (fetched_from m n session id batch (batch_of m session id) refl numbered
    step.0)
after_fetch m n session c r numbered step = tt

-- ---- no other call has that reply

submit_no : (m : Machine) (session : ℕ) (batch : List Transfer) (b : Bool) → reply.Refused Stranger
    ≡ (if b then accept m session batch else refuse m BookFull).0 → ⊥
submit_no m session batch true is = absurd cc
submit_no m session batch false is = absurd cc

fetch_no : (m : Machine) (o : Option StoredBatch) → reply.Refused Stranger ≡ (fetch m o).0 → ⊥
fetch_no m None is = absurd cc
fetch_no m (Some h) is = absurd cc

show_no : (m : Machine) (o : Option StoredBatch) → reply.Refused Stranger ≡ (show m o).0 → ⊥
show_no m None is = absurd cc
show_no m (Some h) is = absurd cc

discard_no : (m : Machine) (id : ℕ) (o : Option StoredBatch) → reply.Refused Stranger ≡ (discard m id o).0 → ⊥
discard_no m id None is = absurd cc
discard_no m id (Some h) is = absurd cc

peek_no : (m : Machine) (mo ad : ℕ) (f : Option MemoryFault) → reply.Refused Stranger ≡ (peek_unless f m mo ad).0 → ⊥
peek_no m mo ad None is = absurd cc
peek_no m mo ad (Some f) is = absurd cc

poke_no : (m : Machine) (mo ad w : ℕ) (f : Option MemoryFault) → reply.Refused Stranger ≡ (poke_unless f m mo ad w).0 → ⊥
poke_no m mo ad w None is = absurd cc
poke_no m mo ad w (Some f) is = absurd cc

run_at_no : (m : Machine) (id : ℕ) (s : BatchStage) (n : Machine) → IsRunAt m id s (reply.Refused Stranger) n → ⊥
run_at_no m id stage.Waiting n is = let never : reply.Refused Stranger ≡ reply.Refused Unplanned = is.0 in absurd cc
run_at_no m id (stage.Planned plan) n is = is
run_at_no m id s n is = let never : reply.Refused Stranger ≡ reply.Refused Already = is.0 in absurd cc

run_no : (m : Machine) (id : ℕ) (o : Option StoredBatch) (n : Machine) → IsRunStep m id o (reply.Refused Stranger) n → ⊥
run_no m id None n is = let never : reply.Refused Stranger ≡ reply.Refused Unknown = is.0 in absurd cc
run_no m id (Some h) n is = run_at_no m id h.stage n is

own_plan : (m : Machine) (session id : ℕ) (batch : List Transfer) (o : Option StoredBatch) → batch_of m session id ≡ o → Holds m id batch → (plan : Plan)
    → plan.batch ≡ batch → IsPlanFor plan o
own_plan m session id batch None at holds plan same = tt
own_plan m session id batch (Some h) at holds plan same = same
    ∙ sym (found (IsOnly id batch) id m.batches h holds.1 (owned_found session (lookup (nat_eq id) m.batches) h at) refl)

settle_no : (m n : Machine) (session : ℕ) (c : Call) (last : Option (ℕ × List Transfer)) → HoldsFetched m last → SettlesFetched last c
    → IsMachineStep m session c (reply.Refused Stranger) n → ⊥
settle_no m n session (Settle id plan) None holds settles step = settles
settle_no m n session (Settle id plan) (Some batch) holds settles step =
    let mine : Holds m id batch.1 = subst (λ (i : ℕ). Holds m i batch.1) (sym settles.0) holds in
    no_stranger m session (Settle id plan) n (own_plan m session id batch.1 (batch_of m session id) refl mine plan settles.1) tt step
settle_no m n session (Submit batch) last holds settles step = submit_no m session batch (nat_lt (length m.batches) MAX_BATCHES) step.0
settle_no m n session (Fetch id) last holds settles step = fetch_no m (batch_of m session id) step.0
settle_no m n session (Run id) last holds settles step = run_no m id (batch_of m session id) n step
settle_no m n session (Show id) last holds settles step = show_no m (batch_of m session id) step.0
settle_no m n session (Discard id) last holds settles step = discard_no m id (batch_of m session id) step.0
settle_no m n session (Peek mo ad) last holds settles step = peek_no m mo ad (fault_of m.store.shape mo ad) step.0
settle_no m n session (Poke mo ad w) last holds settles step = poke_no m mo ad w (fault_of m.store.shape mo ad) step.0

-- ---- histories

-- what each session fetched last
abbrev Last : Type 0
Last = ℕ → Option (ℕ × List Transfer)

abbrev next_fetched : Option (ℕ × List Transfer) → Option (ℕ × List Transfer) → Bool → Option (ℕ × List Transfer)
next_fetched before now true = now
next_fetched before now false = before

holds_next : (n : Machine) (before now : Option (ℕ × List Transfer)) → HoldsFetched n before → HoldsFetched n now → (b : Bool)
    → HoldsFetched n (next_fetched before now b)
holds_next n before now old new true = new
holds_next n before now old new false = old

settle_next : (before : Option (ℕ × List Transfer)) (e : Entry) (es : List Entry) (b : Bool) → SettleFetched before (cond b (e ∷ es) es)
    → SettleFetched (next_fetched before (fetched_by e.call e.reply) b) es
settle_next before e es true settle = settle.1
settle_next before e es false settle = settle

settles_here : (before : Option (ℕ × List Transfer)) (e : Entry) (es : List Entry) (b : Bool) → b ≡ true → SettleFetched before (cond b (e ∷ es) es)
    → SettlesFetched before e.call
settles_here before e es true at settle = settle.0
settles_here before e es false at settle = absurd cc

none_strange : (m : Machine) (es : List Entry) (end : Machine) (last : Last) → AreNumbered m → ((session : ℕ) → HoldsFetched m (last session))
    → ((session : ℕ) → SettleFetched (last session) (own session es)) → IsReplay m es end
    → AllByRecursion (λ e. e.reply ≢ reply.Refused Stranger) es
none_strange m [] end last numbered holds settle led = tt
none_strange m (e ∷ es) end last numbered holds settle led =
    let n = led.0 in
    let by = e.session in
    let keeps = step_keeps m by e.call e.reply n numbered led.1 in
    let here = settles_here (last by) e (own by es) (nat_eq by by) (eq-eqb by by refl) (settle by) in
    let new = after_fetch m n by e.call e.reply numbered led.1 in (
      (λ is. settle_no m n by e.call (last by) (holds by) here (subst (λ (r : Reply). IsMachineStep m by e.call r n) is led.1)),
      none_strange n es end (λ s. next_fetched (last s) (fetched_by e.call e.reply) (nat_eq by s)) keeps.0
          (λ s. holds_next n (last s) (fetched_by e.call e.reply) (still m n (last s) keeps (holds s)) new (nat_eq by s))
          (λ s. settle_next (last s) e (own s es) (nat_eq by s) (settle s)) led.2,
    )

numbered_along : (m : Machine) (es : List Entry) (n : Machine) → AreNumbered m → IsReplay m es n → AreNumbered n
numbered_along m [] n numbered led = subst AreNumbered (sym led) numbered
numbered_along m (e ∷ es) n numbered led = numbered_along led.0 es n (step_keeps m e.session e.call e.reply led.0 numbered led.1).0 led.2

pub no_strangers : NoStrangers
no_strangers opening earlier es mid end before led settle =
    All-from_recursion (λ e. e.reply ≢ reply.Refused Stranger) es
    (none_strange mid es end (λ s. None) (numbered_along (opened opening) earlier mid (tt, λ id. ([], tt)) before) (λ s. tt) settle led)
