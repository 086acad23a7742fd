-- Which plan a call runs, if any: its batch, and the settings of its schedule.
use Rattle.std.specs.Prelude.{ℕ, Option, Some, None}
use Rattle.setting_runner.specs.Plants.{RunSchedule}
use Rattle.batch_book.specs.declared.call.Call.{Call}
use Rattle.batch_book.specs.declared.call.Call.TheVariants.{Run}
use Rattle.batch_book.specs.declared.stored_batch.BatchStage.{BatchStage}
use Rattle.batch_book.specs.declared.stored_batch.BatchStage.TheVariants as stage
use Rattle.batch_book.specs.declared.stored_batch.StoredBatch.{StoredBatch}
use Rattle.batch_book.specs.Machine.{Machine, batch_of}

-- the plan by which a batch can be run
abbrev pub plan_at : BatchStage → Option RunSchedule
plan_at (stage.Planned plan) = Some (plan.batch, plan.settings)
plan_at s = None

abbrev pub plan_in : Option StoredBatch → Option RunSchedule
plan_in None = None
plan_in (Some h) = plan_at h.stage

-- the plan that a call runs
abbrev pub plan_to_run : Machine → ℕ → Call → Option RunSchedule
plan_to_run m session (Run id) = plan_in (batch_of m session id)
plan_to_run m session call = None
