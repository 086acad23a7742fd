-- The promises of `run` and `apply`.
use Rattle.std.proofs.Common.{◌≡◌, ◌≤◌, ◌∙◌, ℕ, List, Option, Some, refl}
use Rattle.batch.specs.ShapeView.{ShapeView, widest}
use Rattle.batch.specs.Text.{Denotes}
use Rattle.batch.specs.declared.limits.TheConstants.{MAX_BLOCKS, MAX_MODULES}
use Rattle.batch.specs.declared.transfer.Transfer.{Transfer}
use Rattle.clap.specs.Words.{Text}
use Rattle.command_words.specs.Jobs.{Files}
use Rattle.exchange.proofs.EndStatuses.{never_done}
use Rattle.exchange.proofs.PromisedPlans.{plan_is, wider}
use Rattle.exchange.specs.Promises.{HasApplied, HasMoved, HasRunBatch, SaySchedule}
use Rattle.exchange.specs.Responses.{source_in, text_in}
use Rattle.module_memory.specs.Store.{Store}
use Rattle.plan_answers.specs.Refusals.{Printed}
use Rattle.plan_answers.specs.Schedules.{IsScheduleFrom}
use Rattle.plan_answers.specs.declared.limits.TheConstants.{DONE}
use Rattle.plan_answers.specs.declared.source.ScheduleSource.{ScheduleSource}
use Rattle.plan_answers.specs.declared.source.ScheduleSource.TheVariants as source
use Rattle.rack_answers.specs.Answers.{IsApplied, IsImage, IsReport, IsResult, IsRunAnswer, ran, run_refused}
use Rattle.rack_answers.specs.Reports.{report_for}

-- ---- schedules

pub scheduled : (from : ScheduleSource (List ℕ)) (text : List ℕ) (batch : List Transfer) (settings : List (List ℕ)) → IsScheduleFrom from widest text batch
    settings → SaySchedule from text batch settings
scheduled (source.Plan planning) text batch settings is = (is.0, plan_is planning batch settings is.1.0 is.1.1)
scheduled (source.Text schedule) text batch settings is = is

pub denoted : (from : ScheduleSource (List ℕ)) (shape : ShapeView) (text : List ℕ) (batch : List Transfer) (settings : List (List ℕ))
    → IsScheduleFrom from shape text batch settings → Denotes shape text batch
denoted (source.Plan planning) shape text batch settings is = is.0
denoted (source.Text schedule) shape text batch settings is = is.texts.batch_read

-- what is scheduled on a rack is so on any
widely : (from : ScheduleSource (List ℕ)) (shape : ShapeView) (text : List ℕ) (batch : List Transfer) (settings : List (List ℕ)) → shape.modules ≤ MAX_MODULES
    → shape.blocks ≤ MAX_BLOCKS → IsScheduleFrom from shape text batch settings → IsScheduleFrom from widest text batch settings
widely (source.Plan planning) shape text batch settings modules blocks is = (wider shape text batch modules blocks is.0, is.1)
widely (source.Text schedule) shape text batch settings modules blocks is =
    record {
      certificate = is.certificate;
      texts = record {
        batch_read = wider shape text batch modules blocks is.texts.batch_read;
        schedule_read =
            is.texts.schedule_read;
      };
      valid = is.valid;
    }

-- ---- runs

moved : (IsTold : ShapeView → List ℕ → List Transfer → Store → List ℕ → Type 0) (shape : Text) (text : List ℕ) (image : Option (List ℕ)) (printed : List ℕ)
    → (r : IsResult IsTold shape text image printed) → HasMoved shape image r.transfers r.left
moved IsTold shape text image printed r = record {
  extent = r.extent;
  opening = r.is_left.opening;
  shaped = r.shape_read;
  within = r.batch_read.within;
  apart = r.is_left.apart;
  begins = r.is_left.is_opening;
  placed = r.is_left.is_placed;
}

same_report : (from : ScheduleSource Text) (text : List ℕ) (batch : List Transfer) (settings : List (List ℕ)) (left : Store)
    → report_for (source_in from text) batch settings left ≡ report_for from batch settings left
same_report (source.Plan planning) text batch settings left = refl
same_report (source.Text file) text batch settings left = refl

pub ran_so : (shape : Text) (from : ScheduleSource Text) (texts : Files (List ℕ)) (printed : Printed) → printed.status ≡ DONE
    → IsRunAnswer (source_in from (text_in texts.schedule)) shape (text_in texts.list) texts.image printed → HasRunBatch shape from texts printed.text
ran_so shape from texts printed status (ran r done) =
    let source = source_in from (text_in texts.schedule) in
    let text = text_in texts.list in
    record {
      transfers = r.transfers;
      settings = r.told.settings;
      left = r.left;
      said = scheduled source text r.transfers r.told.settings (widely source r.extent text r.transfers r.told.settings r.shape_read.allowed.few_modules
          r.shape_read.allowed.few_blocks r.told.scheduled);
      moved = moved (IsReport source) shape text texts.image printed.text r;
      prints = r.told.printed ∙ same_report from (text_in texts.schedule) r.transfers r.told.settings r.left;
    }
ran_so shape from texts printed status (run_refused refusal wrong line) = absurd (never_done printed.status line.status status)

pub applied : (shape : Text) (text image : List ℕ) (printed : Printed) → printed.status ≡ DONE → IsApplied shape text image printed
    → HasApplied shape text image printed.text
applied shape text image printed status (ran r done) = record {
  transfers = r.transfers;
  left = r.left;
  denotes = wider r.extent text r.transfers r.shape_read.allowed.few_modules r.shape_read.allowed.few_blocks r.batch_read;
  moved = moved IsImage shape text (Some image) printed.text r;
  prints = r.told;
}
applied shape text image printed status (run_refused refusal wrong line) = absurd (never_done printed.status line.status status)
