-- Where a schedule of a batch comes from: a plan of the batch, or a text that says it.
use Rattle.std.specs.Prelude.{◌≡◌, ℕ, List, ⊤}
use Rattle.std.specs.Borrow.{Bor}
use Rattle.batch.specs.ShapeView.{ShapeView}
use Rattle.batch.specs.Faults.{IsFirstFault}
use Rattle.batch.specs.Text.{Denotes}
use Rattle.batch.specs.declared.fault.BatchFault.{BatchFault}
use Rattle.batch.specs.declared.transfer.Transfer.{Transfer}
use Rattle.link_graph.specs.Certificates.{Naming}
use Rattle.refusals.specs.Sources.{of_batch}
use Rattle.refusals.specs.declared.refusal.Refusal.{Refusal}
use Rattle.schedule_certificate.specs.Plans.{IsMadePlan}
use Rattle.steady_schedule.specs.Plans.{IsSteady, steady_plan}
use Rattle.plan_answers.specs.Validities.{IsScheduleRead, IsInvalid}
use Rattle.plan_answers.specs.declared.source.Planning.{Planning}
use Rattle.plan_answers.specs.declared.source.Planning.TheVariants.{Plain, Steady}
use Rattle.plan_answers.specs.declared.source.ScheduleSource.{ScheduleSource}
use Rattle.plan_answers.specs.declared.source.ScheduleSource.TheVariants.{Plan, Text}

-- a batch, and the settings of a schedule of it
pub record BatchSchedule : Type 0 where
  pub batch : List Transfer
  pub settings : List (List ℕ)

-- the settings are those of such a plan of the batch, whose certificate names this
abbrev pub IsPlannedAs : Planning → List Transfer → List (List ℕ) → Naming → Type 0
IsPlannedAs Plain batch settings named =
    (reinserted : ℕ)
    × IsMadePlan (record {
      batch = batch;
      settings = settings;
      named = named;
      reinserted = reinserted;
    })
IsPlannedAs Steady batch settings named = IsSteady (steady_plan batch settings named)

-- this is taken of the text, where a schedule comes from one
abbrev pub source_map : {A B : Type 0} → (A → B) → ScheduleSource A → ScheduleSource B
source_map f (Plan planning) = Plan planning
source_map f (Text text) = Text (f text)

-- where a schedule comes from, with the bytes of a text that is lent
abbrev pub said_by : ScheduleSource (Bor (List ℕ)) → ScheduleSource (List ℕ)
said_by source = source_map (λ lent. lent.now) source

-- a text says the schedule
abbrev pub IsText : {T : Type 0} → ScheduleSource T → Type 0
IsText (Plan planning) = ⊥
IsText (Text text) = ⊤

-- The batch is the one that the text denotes, and the settings are those of a schedule of it from
-- this source.
abbrev pub IsScheduleFrom : ScheduleSource (List ℕ) → ShapeView → List ℕ → List Transfer
    → List (List ℕ)
    → Type 0
IsScheduleFrom (Plan planning) shape text batch settings =
    Denotes shape text batch × ((named : Naming) × IsPlannedAs planning batch settings named)
IsScheduleFrom (Text schedule) shape text batch settings =
    IsScheduleRead shape text schedule batch settings

-- the texts are those of such a batch, and of a schedule of it, where a text says one
abbrev pub AreRight : ScheduleSource (List ℕ) → ShapeView → List ℕ → List Transfer → Type 0
AreRight (Plan planning) shape text batch = Denotes shape text batch
AreRight (Text schedule) shape text batch =
    (settings : List (List ℕ)) × IsScheduleRead shape text schedule batch settings

-- this is what is first wrong: the text of the batch is looked at first, then that of a schedule
abbrev pub IsWrongFrom : ScheduleSource (List ℕ) → ShapeView → List ℕ → Refusal → Type 0
IsWrongFrom (Plan planning) shape text refusal =
    (fault : BatchFault) × IsFirstFault shape text fault × (refusal ≡ of_batch fault)
IsWrongFrom (Text schedule) shape text refusal = IsInvalid shape text schedule refusal
