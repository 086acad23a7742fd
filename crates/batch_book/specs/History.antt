-- Histories of the book.
use Rattle.std.specs.Prelude.{◌≡◌, ℕ, ◌≤◌, ◌⊎◌, nat_lt, if◌then◌else◌, Bool, true, false, List, []}
use Rattle.std.specs.Prelude.{◌∷◌, ◌++◌, length, take, All}
use Rattle.batch.specs.ShapeView.{IsShape}
use Rattle.module_memory.specs.Store.{Store}
use Rattle.schedule_certificate.specs.Plans.{Plan, IsPlan}
use Rattle.batch_book.specs.declared.limits.TheConstants.{MAX_ENTRIES, MAX_NUMBER}
use Rattle.batch_book.specs.declared.stored_batch.StoredBatch.{StoredBatch}
use Rattle.batch_book.specs.declared.stored_batch.BatchStage.TheVariants.{Planned}
use Rattle.batch_book.specs.declared.entry.Entry.{Entry}
use Rattle.batch_book.specs.declared.reply.Reply.{Reply}
use Rattle.batch_book.specs.declared.call.Call.{Call}
use Rattle.batch_book.specs.Machine.{Machine, opened, IsMachineStep}
use Rattle.batch_book.specs.Replies.{IsUnstopped}

-- the entries lead from one machine to another: each reply is one that the machine may give where
-- those before it lead
abbrev pub IsReplay : Machine → List Entry → Machine → Type 0
IsReplay m [] n = n ≡ m
IsReplay m (e ∷ es) n = (k : Machine) × IsMachineStep m e.session e.call e.reply k × IsReplay k es n

-- a book that was opened with these words may have these entries
abbrev pub IsLegal : Store → List Entry → Type 0
IsLegal opening es = (n : Machine) × IsReplay (opened opening) es n

abbrev pub entry : ℕ → Call → Reply → Entry
entry session call reply = record { session = session; call = call; reply = reply }

-- one list is a front of the other
abbrev pub IsPrefix : {A : Type 0} → List A → List A → Type 0
IsPrefix xs ys = xs ≡ take (length xs) ys

-- What contracts see of a book: the words that it was opened with, its history, the first entries
-- of it, which stand where they belong, the machine as it is, and whether the others can still be
-- put there.
pub record BookView : Type 0 where
  pub opening : Store
  pub history : List Entry
  pub durable : List Entry
  pub machine : Machine
  pub whole : Bool

abbrev pub book_view : Store → (history durable : List Entry) → Machine → Bool → BookView
book_view opening history durable machine whole = record {
  opening = opening;
  history = history;
  durable = durable;
  machine = machine;
  whole = whole;
}

-- what they see of one without its history: how far its runs have come, too
pub record BareBookView : Type 0 where
  pub opening : Store
  pub machine : Machine
  pub furthest : ℕ

-- what contracts see of a new book of these words
abbrev pub new_book_view : Store → BookView
new_book_view store = book_view store [] [] (opened store) true

-- ---- room; entries are limited in number, or they aren't

-- there is room for an entry after so many
abbrev pub has_room : Bool → ℕ → Bool
has_room true n = nat_lt n MAX_ENTRIES
has_room false n = true

-- there is a number for another batch, and one for another run
abbrev pub has_numbers : Machine → Bool
has_numbers m = if nat_lt m.given MAX_NUMBER then nat_lt m.runs MAX_NUMBER else false

-- there is room for another entry, whatever it tells
abbrev pub has_book_room : Bool → BookView → Bool
has_book_room limited a =
    if has_room limited (length a.history) then has_numbers a.machine else false

-- there are no more entries than may be
abbrev pub AreFewEntries : Bool → ℕ → Type 0
AreFewEntries true n = n ≤ MAX_ENTRIES
AreFewEntries false n = Unit {0}

-- No call is made: there is no room for its entry. Where entries aren't limited, there is no number
-- for another batch, or for another run.
abbrev pub IsFull : Bool → BookView → Type 0
IsFull true a = length a.history ≡ MAX_ENTRIES
IsFull false a = (a.machine.given ≡ MAX_NUMBER) ⊎ (a.machine.runs ≡ MAX_NUMBER)

-- The machine is the history's replay. There are no more entries than may be, nor more numbers than
-- entries, or than a line can hold. The first entries stand where they belong. An entry can wait or
-- be lost only where the history's kind says so.
pub record IsSoundBook (limited loses : Bool) (a : BookView) : Type 0 where
  pub replay : IsReplay (opened a.opening) a.history a.machine
  pub few : AreFewEntries limited (length a.history)
  pub given : a.machine.given ≤ length a.history
  pub runs : a.machine.runs ≤ length a.history
  pub few_given : a.machine.given ≤ MAX_NUMBER
  pub few_runs : a.machine.runs ≤ MAX_NUMBER
  pub front : IsPrefix a.durable a.history
  pub all : loses ≡ false → a.durable ≡ a.history
  pub lost : a.whole ≡ false → loses ≡ true

-- ---- growth

-- one step of the machine, and one entry more; what stood where it belongs still does
pub record IsGrown (old : BookView) (session : ℕ) (call : Call) (reply : Reply)
    (new : BookView) : Type 0 where
  pub step : IsMachineStep old.machine session call reply new.machine
  pub history : new.history ≡ old.history ++ entry session call reply ∷ []
  pub durable : IsPrefix old.durable new.durable
  pub opening : new.opening ≡ old.opening

-- ---- laws

-- no run stopped
abbrev pub AreUnstopped : List Entry → Type 0
AreUnstopped es = All (λ e. IsUnstopped e.reply) es

-- a batch that can be run has a shortest plan of its own transfers
abbrev pub HasOwnPlan : StoredBatch → Type 0
HasOwnPlan h = (plan : Plan) → h.stage ≡ Planned plan → IsPlan plan × (plan.batch ≡ h.batch)

abbrev pub HaveOwnPlans : Machine → Type 0
HaveOwnPlans m = All (λ e. HasOwnPlan e.1) m.batches

-- what every machine keeps that a book leads to
pub record IsSound (m : Machine) : Type 0 where
  pub plans : HaveOwnPlans m
  pub shape : IsShape m.store.shape
