-- The transfers of a batch that is kept under a number stay the same.
use Rattle.std.proofs.Common.{◌≡◌, ℕ, ◌+◌, ◌≤◌, List, [], ◌∷◌, inl, inr, length, Bool, true, false, cond, nat_eq, nat_lt, if◌then◌else◌, Option, None, Some, refl, sym, ap, ◌∙◌, subst, arith, eq-eqb}
use Rattle.std.specs.Prelude.{unwrap_or}
use Rattle.std.specs.List.{AllByRecursion}
use Rattle.std.proofs.lemmas.Bool.{cases_eq, ne_eqb}
use Rattle.std.specs.Map.{lookup, set_value, remove_entry}
use Rattle.client_session.proofs.Lists.{every-push, every_both}
use Rattle.batch.specs.declared.transfer.Transfer.{Transfer}
use Rattle.batch.specs.Equal.{same_transfers}
use Rattle.module_memory.specs.Address.{fault_of}
use Rattle.module_memory.specs.Store.{Store}
use Rattle.module_memory.specs.declared.fault.MemoryFault.{MemoryFault}
use Rattle.schedule_certificate.specs.Plans.{Plan}
use Rattle.setting_runner.specs.declared.outcome.RunRefusal.TheVariants as run_refusal
use Rattle.batch_book.specs.declared.limits.TheConstants.{MAX_BATCHES}
use Rattle.batch_book.specs.declared.stored_batch.StoredBatch.{StoredBatch}
use Rattle.batch_book.specs.declared.stored_batch.BatchStage.{BatchStage}
use Rattle.batch_book.specs.declared.stored_batch.BatchStage.TheVariants as stage
use Rattle.batch_book.specs.declared.refusal.BookRefusal.TheVariants.{BookFull, Stranger}
use Rattle.batch_book.specs.declared.reply.Reply.{Reply}
use Rattle.batch_book.specs.declared.reply.Reply.TheVariants as reply
use Rattle.batch_book.specs.declared.call.Call.{Call}
use Rattle.batch_book.specs.declared.call.Call.TheVariants.{Submit, Fetch, Settle, Run, Show, Discard, Peek, Poke}
use Rattle.batch_book.specs.Machine.{Machine, stored_batch, batch_of, staged, set_stage, Gives, accept, refuse, fetch, settle_at, settle, show, discard, peek_unless, poke_unless, IsRunOf, IsRunAt}
use Rattle.batch_book.specs.Machine.{IsRunStep, IsMachineStep}

abbrev pub Batches : Type 0
Batches = List (ℕ × StoredBatch)

-- so it is of each number and its transfers
abbrev pub Each : (ℕ → List Transfer → Type 0) → Batches → Type 0
Each P es = AllByRecursion (λ e. P e.0 e.1.batch) es

one_of : (a b : StoredBatch) → Some a ≡ Some b → a ≡ b
one_of a b is = ap (λ (o : Option StoredBatch). unwrap_or o a) is

by_test : (P : Batches → Type 0) (xs ys : Batches) (b : Bool) → (b ≡ true → P xs) → (b ≡ false → P ys) → P (cond b xs ys)
by_test P xs ys true is_so not_so = is_so refl
by_test P xs ys false is_so not_so = not_so refl

removed : (P : ℕ → List Transfer → Type 0) (t : ℕ → Bool) (es : Batches) → Each P es → Each P (remove_entry t es)
removed P t [] all = tt
removed P t (e ∷ es) all = by_test (Each P) es (e ∷ remove_entry t es) (t e.0) (λ _. all.1) (λ _. (all.0, removed P t es all.1))

replaced : (P : ℕ → List Transfer → Type 0) (t : ℕ → Bool) (es : Batches) (h w : StoredBatch) → w.batch ≡ h.batch → lookup t es ≡ Some h → Each P es
    → Each P (set_value t es w)
replaced P t [] h w same is all = tt
replaced P t (e ∷ es) h w same is all =
    by_test (Each P) ((e.0, w) ∷ es) (e ∷ set_value t es w) (t e.0)
    (λ is_so. (subst (P e.0) (ap (λ (k : StoredBatch). k.batch) (one_of e.1 h (rw is_so at is)) ∙ sym same) all.0, all.1))
    (λ not_so. (all.0, replaced P t es h w same (rw not_so at is) all.1))

pub found : (P : ℕ → List Transfer → Type 0) (id : ℕ) (es : Batches) (h : StoredBatch) → Each P es → lookup (nat_eq id) es ≡ Some h → P id h.batch
found P id [] h all is = absurd cc
found P id (e ∷ es) h all is = elim (cases_eq id e.0) [
  | inl same ↦ subst (λ (n : ℕ). P n h.batch) (sym same) (subst (P e.0) (ap (λ (k : StoredBatch). k.batch) (one_of e.1 h (rw (eq-eqb id e.0 same) at is)))
      all.0)
  | inr other ↦ found P id es h all.1 (rw (ne_eqb id e.0 other) at is)
]

-- ---- steps

-- under the number these transfers are kept, if any
abbrev pub IsOnly : ℕ → List Transfer → ℕ → List Transfer → Type 0
IsOnly id batch n other = n ≡ id → other ≡ batch

-- no number is above the last that was given, and under each just some transfers are kept
abbrev pub AreNumbered : Machine → Type 0
AreNumbered m = Each (λ n batch. n ≤ m.given) m.batches × ((id : ℕ) → (batch : List Transfer) × Each (IsOnly id batch) m.batches)

-- this is all that the number was given to
abbrev pub Holds : Machine → ℕ → List Transfer → Type 0
Holds m id batch = (id ≤ m.given) × Each (IsOnly id batch) m.batches

pub holds_found : (m : Machine) (id : ℕ) (h : StoredBatch) → AreNumbered m → lookup (nat_eq id) m.batches ≡ Some h → Holds m id h.batch
holds_found m id h numbered is =
    let only = numbered.1 id in
    let same = found (IsOnly id only.0) id m.batches h only.1 is refl in
    (found (λ n batch. n ≤ m.given) id m.batches h numbered.0 is, subst (λ (b : List Transfer). Each (IsOnly id b) m.batches) (sym same) only.1)

-- what the one holds the other holds
abbrev pub Keeps : Machine → Machine → Type 0
Keeps m n = AreNumbered n × ((id : ℕ) (batch : List Transfer) → Holds m id batch → Holds n id batch)

stays : (m n : Machine) → AreNumbered m → n ≡ m → Keeps m n
stays m n numbered is = subst (Keeps m) (sym is) (numbered, λ id batch holds. holds)

gives : (m n : Machine) (a : Reply × Machine) (r : Reply) → Keeps m a.1 → Gives a r n → Keeps m n
gives m n a r keeps is = subst (Keeps m) (sym is.1) keeps

-- no number is given
keeps_each : (m : Machine) (batches : Batches) (runs : ℕ) (store : Store) → AreNumbered m
    → ((P : ℕ → List Transfer → Type 0) → Each P m.batches → Each P batches)
    → Keeps m (record { batches = batches; given = m.given; runs = runs; store = store })
keeps_each m batches runs store numbered f = (
  (f (λ n batch. n ≤ m.given) numbered.0, λ id. let only = numbered.1 id in (only.0, f (IsOnly id only.0) only.1)),
  λ id batch holds. (holds.0, f (IsOnly id batch) holds.1),
)

staged_each : (P : ℕ → List Transfer → Type 0) (id : ℕ) (s : BatchStage) (es : Batches) (o : Option StoredBatch) → lookup (nat_eq id) es ≡ o → Each P es
    → Each P (staged id s es o)
staged_each P id s es None is all = all
staged_each P id s es (Some h) is all = replaced P (nat_eq id) es h (stored_batch h.owner h.batch s) refl is all

staging : (m : Machine) (id : ℕ) (s : BatchStage) → AreNumbered m → (runs : ℕ) (store : Store)
    → Keeps m (record { batches = set_stage id s m.batches; given = m.given; runs = runs; store = store })
staging m id s numbered runs store = keeps_each m (set_stage id s m.batches) runs store numbered
    (λ P all. staged_each P id s m.batches (lookup (nat_eq id) m.batches) refl all)

pushed : (P : ℕ → List Transfer → Type 0) (m : Machine) (session : ℕ) (batch : List Transfer) → Each P m.batches → P (m.given + 1) batch
    → Each P (accept m session batch).1.batches
pushed P m session batch all here = every-push (λ (e : ℕ × StoredBatch). P e.0 e.1.batch) m.batches (m.given + 1, stored_batch session batch stage.Waiting) all
    here

weaker : (P : ℕ → List Transfer → Type 0) (m : Machine) → AreNumbered m → ((n : ℕ) (batch : List Transfer) → n ≤ m.given → P n batch) → Each P m.batches
weaker P m numbered f =
    let few = λ (e : ℕ × StoredBatch). e.0 ≤ m.given in
    every_both few few (λ (e : ℕ × StoredBatch). P e.0 e.1.batch) m.batches (λ e le again. f e.0 e.1.batch le) numbered.0 numbered.0

pushed_only : (m : Machine) (session : ℕ) (batch : List Transfer) (id : ℕ) → AreNumbered m → (some : List Transfer)
    × Each (IsOnly id some) (accept m session batch).1.batches
pushed_only m session batch id numbered =
    let old = numbered.1 id in
    elim (cases_eq id (m.given + 1)) [
      | inl last ↦ (
        batch,
        pushed (IsOnly id batch) m session batch
            (weaker (IsOnly id batch) m numbered (λ n other le at. absurd (omega (arith, le, at, last)))) (λ at. refl),
      )
      | inr other ↦ (old.0, pushed (IsOnly id old.0) m session batch old.1 (λ at. absurd (other (sym at))))
    ]

submitted : (m : Machine) (session : ℕ) (batch : List Transfer) (b : Bool) → AreNumbered m → Keeps m (if b then accept m session batch else refuse m BookFull).1
submitted m session batch false numbered = stays m m numbered refl
submitted m session batch true numbered = (
  (
    pushed (λ n some. n ≤ m.given + 1) m session batch (weaker (λ n some. n ≤ m.given + 1) m numbered (λ n some le. omega (arith, le))) (omega arith),
    λ id. pushed_only m session batch id numbered,
  ),
  λ id old holds. (omega (arith, holds.0), pushed (IsOnly id old) m session batch holds.1 (λ at. absurd (omega (arith, holds.0, at)))),
)

fetched : (m : Machine) (o : Option StoredBatch) → AreNumbered m → Keeps m (fetch m o).1
fetched m None numbered = stays m m numbered refl
fetched m (Some h) numbered = stays m m numbered refl

settled_at : (m : Machine) (id : ℕ) (plan : Plan) (s : BatchStage) → AreNumbered m → Keeps m (settle_at m id plan s).1
settled_at m id plan stage.Waiting numbered = staging m id (stage.Planned plan) numbered m.runs m.store
settled_at m id plan s numbered = stays m m numbered refl

settled_if : (m : Machine) (id : ℕ) (plan : Plan) (s : BatchStage) (b : Bool) → AreNumbered m
    → Keeps m (if b then settle_at m id plan s else refuse m Stranger).1
settled_if m id plan s true numbered = settled_at m id plan s numbered
settled_if m id plan s false numbered = stays m m numbered refl

settled : (m : Machine) (id : ℕ) (plan : Plan) (o : Option StoredBatch) → AreNumbered m → Keeps m (settle m id plan o).1
settled m id plan None numbered = stays m m numbered refl
settled m id plan (Some h) numbered = settled_if m id plan h.stage (same_transfers h.batch plan.batch) numbered

shown : (m : Machine) (o : Option StoredBatch) → AreNumbered m → Keeps m (show m o).1
shown m None numbered = stays m m numbered refl
shown m (Some h) numbered = stays m m numbered refl

discarded : (m : Machine) (id : ℕ) (o : Option StoredBatch) → AreNumbered m → Keeps m (discard m id o).1
discarded m id None numbered = stays m m numbered refl
discarded m id (Some h) numbered = keeps_each m (remove_entry (nat_eq id) m.batches) m.runs m.store numbered (λ P all. removed P (nat_eq id) m.batches all)

peeked : (m : Machine) (mo ad : ℕ) (f : Option MemoryFault) → AreNumbered m → Keeps m (peek_unless f m mo ad).1
peeked m mo ad None numbered = stays m m numbered refl
peeked m mo ad (Some f) numbered = stays m m numbered refl

poked : (m : Machine) (mo ad w : ℕ) (f : Option MemoryFault) → AreNumbered m → Keeps m (poke_unless f m mo ad w).1
poked m mo ad w None numbered = stays m m numbered refl
poked m mo ad w (Some f) numbered = stays m m numbered refl

run_of : (m : Machine) (id : ℕ) (plan : Plan) (r : Reply) (n : Machine) → AreNumbered m → IsRunOf m id plan r n → Keeps m n
run_of m id plan (reply.RunRefused (run_refusal.Overlap i j)) n numbered is = stays m n numbered is.1
run_of m id plan (reply.RunRefused run_refusal.Shape) n numbered is = stays m n numbered is.2
run_of m id plan (reply.Ran run settings words) n numbered is = subst (Keeps m) (sym is.2) (staging m id stage.Ran numbered (m.runs + 1) n.store)
run_of m id plan (reply.Stopped run setting cause moved) n numbered is = subst (Keeps m) (sym is.2) (staging m id stage.Stopped numbered (m.runs + 1) n.store)
run_of m id plan r n numbered is = absurd is

run_at : (m : Machine) (id : ℕ) (s : BatchStage) (r : Reply) (n : Machine) → AreNumbered m → IsRunAt m id s r n → Keeps m n
run_at m id (stage.Planned plan) r n numbered is = run_of m id plan r n numbered is
run_at m id s r n numbered is = stays m n numbered is.1

run : (m : Machine) (id : ℕ) (o : Option StoredBatch) (r : Reply) (n : Machine) → AreNumbered m → IsRunStep m id o r n → Keeps m n
run m id None r n numbered is = stays m n numbered is.1
run m id (Some h) r n numbered is = run_at m id h.stage r n numbered is

pub step_keeps : (m : Machine) (session : ℕ) (c : Call) (r : Reply) (n : Machine) → AreNumbered m → IsMachineStep m session c r n → Keeps m n
step_keeps m session (Submit batch) r n numbered is = gives m n _ r (submitted m session batch (nat_lt (length m.batches) MAX_BATCHES) numbered) is
step_keeps m session (Fetch id) r n numbered is = gives m n _ r (fetched m (batch_of m session id) numbered) is
step_keeps m session (Settle id plan) r n numbered is = gives m n _ r (settled m id plan (batch_of m session id) numbered) is.1
step_keeps m session (Run id) r n numbered is = run m id (batch_of m session id) r n numbered is
step_keeps m session (Show id) r n numbered is = gives m n _ r (shown m (batch_of m session id) numbered) is
step_keeps m session (Discard id) r n numbered is = gives m n _ r (discarded m id (batch_of m session id) numbered) is
step_keeps m session (Peek mo ad) r n numbered is = gives m n _ r (peeked m mo ad (fault_of m.store.shape mo ad) numbered) is
step_keeps m session (Poke mo ad w) r n numbered is = gives m n _ r (poked m mo ad w (fault_of m.store.shape mo ad) numbered) is
