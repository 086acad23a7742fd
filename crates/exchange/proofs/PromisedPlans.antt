-- The promises of `plan`, `check` and `direct`.
use Rattle.std.proofs.Common.{◌≡◌, ◌≤◌, ◌∙◌, ℕ, List, ap, arith}
use Rattle.std.proofs.lemmas.List.Elements.{All-weaker}
use Rattle.batch.specs.ShapeView.{ShapeView, widest}
use Rattle.batch.specs.declared.limits.TheConstants.{MAX_BLOCKS, MAX_MODULES}
use Rattle.batch.specs.Text.{Denotes, IsWithin}
use Rattle.batch.specs.declared.transfer.Transfer.{Transfer}
use Rattle.exchange.proofs.EndStatuses.{never_done}
use Rattle.exchange.specs.Promises.{HasChecked, HasDirected, HasPlanned, IsPlanOf}
use Rattle.link_graph.proofs.Koenig.{certified}
use Rattle.link_graph.specs.Certificates.{Naming}
use Rattle.move_directions.proofs.Bounds.{fewest}
use Rattle.plan_answers.proofs.PlanText.{certified_plan}
use Rattle.plan_answers.specs.Answers as answers
use Rattle.plan_answers.specs.Answers.{IsChecked, IsPlanned, shortest_line}
use Rattle.plan_answers.specs.Directing as directing
use Rattle.plan_answers.specs.Directing.{IsDirected}
use Rattle.plan_answers.specs.Refusals.{Printed}
use Rattle.plan_answers.specs.Schedules.{IsPlannedAs}
use Rattle.plan_answers.specs.declared.limits.TheConstants.{DONE}
use Rattle.plan_answers.specs.declared.source.Planning.{Planning}
use Rattle.plan_answers.specs.declared.source.Planning.TheVariants.{Plain, Steady}

-- ---- batches

-- a text that denotes a batch of a shape denotes it in the widest too
pub wider : (shape : ShapeView) (text : List ℕ) (batch : List Transfer) → shape.modules ≤ MAX_MODULES → shape.blocks ≤ MAX_BLOCKS → Denotes shape text batch
    → Denotes widest text batch
wider shape text batch few_modules few_blocks is = record {
  spelled = is.spelled;
  few = is.few;
  within = All-weaker (IsWithin shape) (IsWithin widest)
      (λ t in_it. (
        (omega (arith, in_it.0.0, few_modules), omega (arith, in_it.0.1, few_modules)),
        (omega (arith, in_it.1.0, few_blocks), omega (arith, in_it.1.1, few_blocks)),
      )) batch is.within;
}

-- ---- plans

pub plan_is : (planning : Planning) (batch : List Transfer) (settings : List (List ℕ)) (named : Naming) → IsPlannedAs planning batch settings named
    → IsPlanOf planning batch settings
plan_is Plain batch settings named is =
    let so = certified_plan Plain batch settings named is in
    record { shortest = certified batch settings named so.schedule so.certificate; at_need = λ steady. absurd (cc) }
plan_is Steady batch settings named is =
    let so = certified_plan Steady batch settings named is in
    record { shortest = certified batch settings named so.schedule so.certificate; at_need = λ steady. is.at_need }

pub planned : (planning : Planning) (text : List ℕ) (printed : Printed) → printed.status ≡ DONE → IsPlanned planning widest text printed
    → HasPlanned planning text printed.text
planned planning text printed status (answers.planned batch denotes plan done) = record {
  batch = batch;
  settings = plan.settings;
  named = plan.named;
  denotes = denotes;
  plan = plan_is planning batch plan.settings plan.named plan.is;
  certificate = (certified_plan planning batch plan.settings plan.named plan.is).certificate;
  says = plan.says;
}
planned planning text printed status (answers.refused fault first line) = absurd (never_done printed.status line.status status)

-- ---- checks

pub checked : (text other : List ℕ) (printed : Printed) → printed.status ≡ DONE → IsChecked widest text other printed → HasChecked text other printed.text
checked text other printed status (answers.shortest count shown line done) = record {
  batch = shown.transfers;
  settings = shown.settings;
  named = shown.named;
  says = shown.texts;
  shortest = shown.shortest;
  certificate = shown.certificate;
  prints = line ∙ ap (λ (n : ℕ). shortest_line n) shown.counted;
}
checked text other printed status (answers.refused refusal wrong line) = absurd (never_done printed.status line.status status)

-- ---- directions

pub directed : (text : List ℕ) (printed : Printed) → printed.status ≡ DONE → IsDirected text printed → HasDirected text printed.text
directed text printed status (directing.directed moves denotes says done) = record {
  moves = moves;
  batch = says.batch;
  denotes = denotes;
  directs = says.directs;
  fewest = λ settings named is. (fewest moves says.batch says.directs says.halves settings named is).1;
  says = says.says;
}
directed text printed status (directing.refused fault first line) = absurd (never_done printed.status line.status status)
