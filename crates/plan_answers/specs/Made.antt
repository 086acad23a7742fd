-- What a value of `Scheduled` holds.
use Rattle.plan_answers.specs.Schedules.{BatchSchedule}
use Rattle.plan_answers.specs.declared.scheduled.PlannedBy.{PlannedBy}
use Rattle.plan_answers.specs.declared.scheduled.PlannedBy.TheVariants.{Plan, Steady, Text}

abbrev pub scheduled_in : PlannedBy → BatchSchedule
scheduled_in (Plan plan) = record { batch = plan.batch; settings = plan.settings }
scheduled_in (Steady batch plan) = record { batch = batch; settings = plan.settings }
scheduled_in (Text texts) = record { batch = texts.batch; settings = texts.schedule }
