-- What `run` and `apply` answer.
use Rattle.std.specs.Prelude.{◌≡◌, ℕ, List, Option, Some}
use Rattle.batch.specs.declared.transfer.Transfer.{Transfer}
use Rattle.batch.specs.ShapeView.{ShapeView}
use Rattle.batch.specs.Text.{Denotes}
use Rattle.batch.specs.Overlap.{IsApart, IsFirstOverlap}
use Rattle.batch.specs.ShapeText.{DenotesShape, IsBadShape}
use Rattle.module_memory.specs.declared.fault.ImageFault.{ImageFault}
use Rattle.module_memory.specs.Store.{Store}
use Rattle.module_memory.specs.Images.{image_of}
use Rattle.module_memory.specs.Core.{IsPlaced}
use Rattle.refusals.specs.declared.refusal.Refusal.{Refusal}
use Rattle.refusals.specs.declared.refusal.Refusal.TheVariants.{Shape, Overlap}
use Rattle.refusals.specs.Refusals.{refusal_words}
use Rattle.refusals.specs.Sources.{of_image}
use Rattle.plan_answers.specs.declared.limits.TheConstants.{DONE}
use Rattle.plan_answers.specs.Refusals.{Printed, IsRefused}
use Rattle.plan_answers.specs.Schedules.{AreRight, BatchSchedule, IsScheduleFrom, IsWrongFrom}
use Rattle.plan_answers.specs.declared.source.Planning.TheVariants.{Plain}
use Rattle.plan_answers.specs.declared.source.ScheduleSource.{ScheduleSource}
use Rattle.plan_answers.specs.declared.source.ScheduleSource.TheVariants.{Plan}
use Rattle.rack_answers.specs.Reports.{report_for}
use Rattle.rack_answers.specs.Openings.{IsOfImageOrMarked, IsWrongImage, IsRightImage}

-- what `apply` prints of a run that left this store: its image
abbrev pub IsImage : ShapeView → List ℕ → List Transfer → Store → List ℕ → Type 0
IsImage extent batch transfers left text = text ≡ image_of left

-- what `run` prints of it: its report, where the transfers moved by a schedule from this source
pub record IsReport (source : ScheduleSource (List ℕ)) (extent : ShapeView) (batch : List ℕ)
    (transfers : List Transfer) (left : Store) (text : List ℕ) : Type 0 where
  pub settings : List (List ℕ)
  pub scheduled : IsScheduleFrom source extent batch transfers settings
  pub printed : text ≡ report_for source transfers settings left

-- A run of transfers on a rack of the shape, whose words are first those of the image, or tell
-- where they stand where there is none: no transfers overlap, and they are placed in what is left.
pub record IsLeftBy (extent : ShapeView) (image : Option (List ℕ)) (transfers : List Transfer)
    (left : Store) : Type 0 where
  pub opening : Store
  pub apart : IsApart transfers
  pub is_opening : IsOfImageOrMarked extent image opening
  pub is_placed : IsPlaced opening transfers left

-- the texts are those of a shape and of a batch, and this is printed of a run of the batch on a
-- rack of the shape
pub record IsResult (IsTold : ShapeView → List ℕ → List Transfer → Store → List ℕ → Type 0)
    (shape batch : List ℕ) (image : Option (List ℕ)) (text : List ℕ) : Type 0 where
  pub extent : ShapeView
  pub transfers : List Transfer
  pub left : Store
  pub shape_read : DenotesShape shape extent
  pub batch_read : Denotes extent batch transfers
  pub is_left : IsLeftBy extent image transfers left
  pub told : IsTold extent batch transfers left text

-- such a run of the text's batch by a schedule from this source, on a rack of the text's shape
pub record HasRunFrom (source : ScheduleSource (List ℕ)) (shape batch : List ℕ)
    (image : Option (List ℕ))
    (ran : BatchSchedule) (left : Store) : Type 0 where
  pub extent : ShapeView
  pub shape_read : DenotesShape shape extent
  pub scheduled : IsScheduleFrom source extent batch ran.batch ran.settings
  pub is_left : IsLeftBy extent image ran.batch left

-- what is wrong with running transfers: the first two that overlap
abbrev pub IsOverlapOf : List Transfer → Refusal → Type 0
IsOverlapOf transfers refusal =
    (i : ℕ) × (j : ℕ) × IsFirstOverlap transfers i j × (refusal ≡ Overlap i j)

-- what is first wrong with running transfers that the rack has over an image: the image is looked
-- at first, then whether transfers overlap
pub data IsWrongOf (extent : ShapeView) (image : Option (List ℕ)) (transfers : List Transfer)
    (refusal : Refusal) : Type 0 where
  image_wrong : (fault : ImageFault) → IsWrongImage extent image fault
      → refusal ≡ of_image fault → IsWrongOf extent image transfers refusal
  overlapping : IsRightImage extent image → IsOverlapOf transfers refusal
      → IsWrongOf extent image transfers refusal

-- what is first wrong: the shape text is looked at first, then the texts of the batch and of the
-- schedule, where a text says it, then what is run
pub data IsFirstRunWrong (source : ScheduleSource (List ℕ)) (shape batch : List ℕ)
    (image : Option (List ℕ)) (refusal : Refusal) : Type 0 where
  shape_wrong : IsBadShape shape → refusal ≡ Shape
      → IsFirstRunWrong source shape batch image refusal
  texts_wrong : (extent : ShapeView) → DenotesShape shape extent
      → IsWrongFrom source extent batch refusal
      → IsFirstRunWrong source shape batch image refusal
  run_wrong : (extent : ShapeView) (transfers : List Transfer) → DenotesShape shape extent
      → AreRight source extent batch transfers → IsWrongOf extent image transfers refusal
      → IsFirstRunWrong source shape batch image refusal

-- what is printed of the run, or what is first wrong, each under its status
pub data IsAnswerBy (IsTold : ShapeView → List ℕ → List Transfer → Store → List ℕ → Type 0)
    (source : ScheduleSource (List ℕ)) (shape batch : List ℕ) (image : Option (List ℕ))
    (printed : Printed) : Type 0 where
  ran : IsResult IsTold shape batch image printed.text → printed.status ≡ DONE
      → IsAnswerBy IsTold source shape batch image printed
  run_refused : (refusal : Refusal) → IsFirstRunWrong source shape batch image refusal
      → IsRefused (refusal_words refusal) printed
      → IsAnswerBy IsTold source shape batch image printed

-- what `run` answers, by a schedule from this source
abbrev pub IsRunAnswer : ScheduleSource (List ℕ) → List ℕ → List ℕ → Option (List ℕ) → Printed
    → Type 0
IsRunAnswer source = IsAnswerBy (IsReport source) source

-- what `apply` answers: whatever schedule the transfers moved by, the image is the same
abbrev pub IsApplied : List ℕ → List ℕ → List ℕ → Printed → Type 0
IsApplied shape batch image = IsAnswerBy IsImage (Plan Plain) shape batch (Some image)
