use Rattle.std.proofs.Common.{◌≡◌, ◌∙◌, codes, sym, List, Some, None}
use Rattle.clap.specs.Words.{Row, Text as Words, first_of}
use Rattle.command_words.specs.Jobs.{HasPlanning, HasSource, rows_in}
use Rattle.plan_answers.specs.declared.source.Planning.{Planning}
use Rattle.plan_answers.specs.declared.source.ScheduleSource.{ScheduleSource}
use Rattle.plan_answers.specs.declared.source.ScheduleSource.TheVariants.{Plan, Text}
use Rattle.command_words.proofs.Wanted.{still_lacks}
use Rattle.command_words.proofs.reading.source_of.Goals as goal

-- without `--schedule` the batch is to be planned
planned : (rows : List Row) → first_of (codes "schedule") rows ≡ None → (source : ScheduleSource Words) → HasSource rows source → (planning : Planning)
    × HasPlanning rows planning
planned rows none (Plan planning) has = (planning, has.1)
planned rows none (Text file) has = absurd (let bad : None ≡ Some file = sym none ∙ has.0 in cc)

pub returns-in_err-planning_of : goal.returns-in_err-planning_of
returns-in_err-planning_of c =
    let rows = rows_in c.args.matches.now in
    still_lacks (HasSource rows) _ c.from_residual-in_err-planning_of.result c.from_residual-in_err-planning_of.ensures.1 (λ source has.
    let planned = planned rows (c.in_ok-file.ensures ∙ c.in_default.is) source has in c.in_err-planning_of.ensures planned.0 planned.1)
