-- The book as its history shows it to whoever reads it. No run stops, as over a port and wires that
-- never fail, and of a plan nothing is seen but that it is a shortest one. Each history of the book
-- in which no run stopped is such a one (`IsReplay` of `batch_book`).
use Rattle.std.specs.Prelude.{◌≡◌, ℕ, ◌+◌, ◌*◌, List, [], ◌∷◌, Option, Some, None, length}
use Rattle.std.specs.Prelude.{option_map}
use Rattle.batch.specs.Overlap.{IsApart, IsFirstOverlap}
use Rattle.link_graph.specs.Certificates.{IsShortest}
use Rattle.module_memory.specs.Core.{IsPlaced}
use Rattle.schedule_certificate.specs.Plans.{Plan}
use Rattle.setting_runner.specs.Runs.{CanMove, IsMisfit}
use Rattle.setting_runner.specs.declared.outcome.RunRefusal.TheVariants as run_refusal
use Rattle.batch_book.specs.declared.call.Call.{Call}
use Rattle.batch_book.specs.declared.call.Call.TheVariants.{Submit, Fetch, Settle, Run, Show}
use Rattle.batch_book.specs.declared.call.Call.TheVariants.{Discard, Peek, Poke}
use Rattle.batch_book.specs.declared.entry.Entry.{Entry}
use Rattle.batch_book.specs.declared.refusal.BookRefusal.TheVariants.{Already, Unknown, Unplanned}
use Rattle.batch_book.specs.declared.reply.Reply.{Reply}
use Rattle.batch_book.specs.declared.reply.Reply.TheVariants.{Ran, RunRefused}
use Rattle.batch_book.specs.declared.stored_batch.BatchStage.{BatchStage}
use Rattle.batch_book.specs.declared.stored_batch.BatchStage.TheVariants as stage
use Rattle.batch_book.specs.Machine.{Machine, Gives, batch_of, discard, fetch, peek, poke}
use Rattle.batch_book.specs.Machine.{refuse, run_to, settle, show, submit}

-- the run of a plan is refused for the first cause that there is, and nothing changes; else it has
-- the next number, and all transfers of all its settings are made
abbrev pub IsSeenRun : Machine → ℕ → Plan → Reply → Machine → Type 0
IsSeenRun m id plan (RunRefused (run_refusal.Overlap i j)) next =
    IsFirstOverlap plan.batch i j × (next ≡ m)
IsSeenRun m id plan (RunRefused run_refusal.Shape) next =
    IsApart plan.batch × IsMisfit m.store.shape plan.batch × (next ≡ m)
IsSeenRun m id plan (Ran run settings words) next =
    CanMove m.store.shape plan.batch × (run ≡ m.runs + 1) × (settings ≡ length plan.settings)
    × (words ≡ length plan.batch * m.store.shape.words) × IsPlaced m.store plan.batch next.store
    × (next ≡ run_to m id stage.Ran next.store)
IsSeenRun m id plan reply next = ⊥

-- the run of a batch at this stage, if there is one
abbrev pub IsSeenRunAt : Machine → ℕ → Option BatchStage → Reply → Machine → Type 0
IsSeenRunAt m id None reply next = Gives (refuse m Unknown) reply next
IsSeenRunAt m id (Some stage.Waiting) reply next = Gives (refuse m Unplanned) reply next
IsSeenRunAt m id (Some (stage.Planned plan)) reply next = IsSeenRun m id plan reply next
IsSeenRunAt m id (Some s) reply next = Gives (refuse m Already) reply next

-- the machine may answer this call of this session so, and is the next one then
abbrev pub IsSeenStep : Machine → ℕ → Call → Reply → Machine → Type 0
IsSeenStep m session (Submit batch) reply next = Gives (submit m session batch) reply next
IsSeenStep m session (Fetch id) reply next = Gives (fetch m (batch_of m session id)) reply next
IsSeenStep m session (Settle id plan) reply next =
    IsShortest plan.batch plan.settings
    × Gives (settle m id plan (batch_of m session id)) reply next
IsSeenStep m session (Run id) reply next =
    IsSeenRunAt m id (option_map (λ h. h.stage) (batch_of m session id)) reply next
IsSeenStep m session (Show id) reply next = Gives (show m (batch_of m session id)) reply next
IsSeenStep m session (Discard id) reply next =
    Gives (discard m id (batch_of m session id)) reply next
IsSeenStep m session (Peek «module» address) reply next = Gives (peek m «module» address) reply next
IsSeenStep m session (Poke «module» address word) reply next =
    Gives (poke m «module» address word) reply next

-- the entries lead from one machine to another: each reply is one that the machine may give where
-- those before it lead
abbrev pub AreSeenSteps : Machine → List Entry → Machine → Type 0
AreSeenSteps m [] n = n ≡ m
AreSeenSteps m (e ∷ es) n =
    (k : Machine) × IsSeenStep m e.session e.call e.reply k × AreSeenSteps k es n
