-- What a run's contract says, as a step of the machine.
use Rattle.std.proofs.Common.{◌≡◌, ◌+◌, ℕ, List, Option, Some, Result, Ok, Err, IfOk, refl, sym, ap, ◌∙◌, subst}
use Rattle.std.specs.Prelude.{◌↔◌}
use Rattle.std.proofs.lemmas.Bool.{false≢true}
use Rattle.batch.specs.ShapeView.{ShapeView}
use Rattle.batch.specs.declared.transfer.Transfer.{Transfer}
use Rattle.batch.specs.Overlap.{IsApart, IsFirstOverlap}
use Rattle.module_memory.specs.Store.{Store}
use Rattle.crossbar.specs.declared.port.ConfigPort.{Ghosts}
use Rattle.schedule_certificate.specs.Plans.{Plan}
use Rattle.setting_runner.specs.Plants.{LeavesPlant, RunSchedule}
use Rattle.setting_runner.specs.Runs.{LeavesMemories, IsMisfit, IsRefusedRun, CanMove}
use Rattle.setting_runner.specs.declared.outcome.Outcome.{Outcome}
use Rattle.setting_runner.specs.declared.outcome.Outcome.TheVariants as outcome
use Rattle.setting_runner.specs.declared.outcome.RunRefusal.{RunRefusal}
use Rattle.setting_runner.specs.declared.plant.Plant.{Plant}
use Rattle.setting_runner.specs.declared.outcome.RunRefusal.TheVariants as run_refusal
use Rattle.batch_book.specs.declared.reply.Reply.{Reply}
use Rattle.batch_book.specs.declared.reply.Reply.TheVariants as reply
use Rattle.batch_book.specs.declared.stored_batch.StoredBatch.{StoredBatch}
use Rattle.batch_book.specs.declared.stored_batch.BatchStage.{BatchStage}
use Rattle.batch_book.specs.declared.stored_batch.BatchStage.TheVariants as stage
use Rattle.batch_book.specs.BatchStore.{EndsRun}
use Rattle.batch_book.specs.Replies.{outcome_in}
use Rattle.batch_book.specs.Machine.{Machine, HasBegun, batch_of, IsRunStep, IsRunAt, IsRunOf}

-- what the contract of a run says of refusals
pub record AreRefusals (extent : ShapeView) (batch : List Transfer) (o : Outcome) : Type 0 where
  pub overlap : (i j : ℕ) → (o ≡ outcome.Refused (run_refusal.Overlap i j)) ↔ IsFirstOverlap batch i j
  pub shape : (o ≡ outcome.Refused run_refusal.Shape) ↔ (IsApart batch × IsMisfit extent batch)
  pub free : (IsRefusedRun o → ⊥) → CanMove extent batch

-- ---- the step

-- the machine with the words that a run leaves
abbrev pub worded : Machine → Store → Machine
worded m s = record m { store = s }

same_words : (m : Machine) (s : Store) (next : Machine) → s ≡ m.store → next ≡ worded m s → next ≡ m
same_words m s next same is = is ∙ ap (worded m) same

begun : (m : Machine) (plan : Plan) → CanMove m.store.shape plan.batch → HasBegun m plan (m.runs + 1)
begun m plan can_move = record { can_move = can_move; number = refl }

pub ended : {E : Type 0} (m : Machine) (s : Store) (id : ℕ) (plan : Plan) (o : Outcome) (r : Result Reply E) (next : Machine)
    → AreRefusals m.store.shape plan.batch o → LeavesMemories m.store plan.batch plan.settings o s → EndsRun (worded m s) id o r next
    → IfOk r (λ reply. IsRunOf m id plan reply next)
ended m s id plan (outcome.Completed settings words) r next are left is =
    subst (λ (x : Result Reply _). IfOk x (λ reply. IsRunOf m id plan reply next)) (sym is.0)
    (subst (λ (n : Machine). IsRunOf m id plan (reply.Ran (m.runs + 1) settings words) n) (sym is.1) (
      begun m plan (are.free (λ no_refusal. no_refusal)),
      left,
      refl,
    ))
ended m s id plan (outcome.Stopped setting cause moved) r next are left is =
    subst (λ (x : Result Reply _). IfOk x (λ reply. IsRunOf m id plan reply next)) (sym is.0)
    (subst (λ (n : Machine). IsRunOf m id plan (reply.Stopped (m.runs + 1) setting cause moved) n) (sym is.1)
    (begun m plan (are.free (λ no_refusal. no_refusal)), left, refl))
ended m s id plan (outcome.Refused (run_refusal.Overlap i j)) r next are left is =
    subst (λ (x : Result Reply _). IfOk x (λ reply. IsRunOf m id plan reply next)) (sym is.0) ((are.overlap i j).0 refl, same_words m s next left is.1)
ended m s id plan (outcome.Refused run_refusal.Shape) r next are left is =
    let why = are.shape.0 refl in
    subst (λ (x : Result Reply _). IfOk x (λ reply. IsRunOf m id plan reply next)) (sym is.0) (why.0, why.1, same_words m s next left is.1)
ended m s id plan (outcome.Refused run_refusal.NoMemory) (Ok x) next are left is = absurd (false≢true is.0)
ended m s id plan (outcome.Refused run_refusal.NoMemory) (Err e) next are left is = tt

-- what holds of how a run ended, holds of what the reply tells of it, if it makes no difference why
-- a run was refused
pub as_told : {E : Type 0} (P : Outcome → Type 0) (m : Machine) (id : ℕ) (o : Outcome) (r : Result Reply E) (next : Machine)
    → ((why other : RunRefusal) → P (outcome.Refused why) → P (outcome.Refused other)) → EndsRun m id o r next → P o → P (outcome_in r)
as_told P m id (outcome.Completed settings words) r next any is holds = subst (λ (x : Result Reply _). P (outcome_in x)) (sym is.0) holds
as_told P m id (outcome.Stopped setting cause moved) r next any is holds = subst (λ (x : Result Reply _). P (outcome_in x)) (sym is.0) holds
as_told P m id (outcome.Refused (run_refusal.Overlap i j)) r next any is holds =
    subst (λ (x : Result Reply _). P (outcome_in x)) (sym is.0) (any (run_refusal.Overlap i j) run_refusal.NoMemory holds)
as_told P m id (outcome.Refused run_refusal.Shape) r next any is holds =
    subst (λ (x : Result Reply _). P (outcome_in x)) (sym is.0) (any run_refusal.Shape run_refusal.NoMemory holds)
as_told P m id (outcome.Refused run_refusal.NoMemory) (Ok x) next any is holds = absurd (false≢true is.0)
as_told P m id (outcome.Refused run_refusal.NoMemory) (Err e) next any is holds = holds

-- ---- the plant

-- it makes no difference to the plant why a run was refused
pub refused_so : {P W G : Type 0} (seen : Ghosts P) (sure : W → ℕ → Type 0) (shape : ShapeView) (ran : Option RunSchedule) (old new : Plant P W G)
    (why other : RunRefusal)
    → LeavesPlant seen sure shape ran (outcome.Refused why) old new → LeavesPlant seen sure shape ran (outcome.Refused other) old new
refused_so seen sure shape ran old new why other is =
    record {
      cause = is.cause;
      switches = is.switches;
      traffic = is.traffic;
      refused = is.refused;
      uncalled = is.uncalled;
      others = is.others;
      counted =
          is.counted;
      honesty = is.honesty;
    }

-- ---- the step of a run

-- the run of a batch that is held and planned
pub ran_step : {E : Type 0} (m : Machine) (session id : ℕ) (h : StoredBatch) (plan : Plan) (r : Result Reply E) (next : Machine)
    → batch_of m session id ≡ Some h → h.stage ≡ stage.Planned plan → IfOk r (λ reply. IsRunOf m id plan reply next)
    → IfOk r (λ reply. IsRunStep m id (batch_of m session id) reply next)
ran_step m session id h plan r next own staged step =
    subst (λ (x : Option StoredBatch). IfOk r (λ reply. IsRunStep m id x reply next)) (sym own)
    (subst (λ (x : BatchStage). IfOk r (λ reply. IsRunAt m id x reply next)) (sym staged) step)
