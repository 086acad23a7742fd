-- Whether the texts of a batch and of a schedule are those of a schedule of the batch, whatever
-- certificate it has.
use Rattle.std.specs.Prelude.{◌≡◌, ℕ, List, Option, ⊤}
use Rattle.batch.specs.declared.transfer.Transfer.{Transfer}
use Rattle.batch.specs.ShapeView.{ShapeView, widest}
use Rattle.link_graph.specs.declared.check_fault.CheckFault.{CheckFault}
use Rattle.link_graph.specs.declared.link.Link.{Link}
use Rattle.link_graph.specs.Certificates.{Naming}
use Rattle.link_graph.specs.Checks.{IsSettingsFault}
use Rattle.link_graph.specs.Schedules.{IsScheduleOf}
use Rattle.refusals.specs.declared.refusal.Refusal.{Refusal}
use Rattle.refusals.specs.declared.validity.Validity.{Validity}
use Rattle.refusals.specs.declared.validity.Validity.TheVariants.{Unknown, Invalid, Valid}
use Rattle.refusals.specs.Sources.{of_check}
use Rattle.schedule_picture.specs.declared.verdict.Verdict.{Verdict}
use Rattle.schedule_picture.specs.Verdicts.{IsBusiestOf, uses_of, IsVerdict}
use Rattle.plan_answers.specs.Texts.{AreTexts, IsTextWrong}

-- the texts are those of this batch and of this schedule of it, with some certificate or with none
pub record IsScheduleRead (shape : ShapeView) (batch schedule : List ℕ) (transfers : List Transfer)
    (settings : List (List ℕ)) : Type 0 where
  pub certificate : Option Naming
  pub texts : AreTexts shape batch schedule transfers settings certificate
  pub valid : IsScheduleOf transfers settings

-- so it is, and this is known of the schedule
pub record IsValid (shape : ShapeView) (batch schedule : List ℕ) (transfers : List Transfer)
    (settings : List (List ℕ)) (verdict : Verdict) : Type 0 where
  pub read : IsScheduleRead shape batch schedule transfers settings
  pub known : IsVerdict transfers settings read.certificate verdict

-- what is first wrong with settings that are no schedule of the batch
abbrev pub IsUnscheduled : List Transfer → List (List ℕ) → Refusal → Type 0
IsUnscheduled transfers settings refusal =
    (fault : CheckFault) × IsSettingsFault transfers settings fault × (refusal ≡ of_check fault)

-- What is first wrong: the texts are looked at first, then whether they are those of a schedule of
-- the batch. A certificate that is missing or wrong is no fault.
pub data IsInvalid (shape : ShapeView) (batch schedule : List ℕ) (refusal : Refusal) : Type 0 where
  unread : IsTextWrong shape batch schedule refusal → IsInvalid shape batch schedule refusal
  unscheduled : (transfers : List Transfer) (settings : List (List ℕ))
      (certificate : Option Naming)
      → AreTexts shape batch schedule transfers settings certificate
      → IsUnscheduled transfers settings refusal → IsInvalid shape batch schedule refusal

-- the texts are those of a batch and of a schedule of it, and so many settings are enough: as many
-- as the busiest link has transfers
pub record AreEnough (shape : ShapeView) (batch schedule : List ℕ) (enough : ℕ) : Type 0 where
  pub transfers : List Transfer
  pub settings : List (List ℕ)
  pub link : Option Link
  pub read : IsScheduleRead shape batch schedule transfers settings
  pub busiest : IsBusiestOf transfers link
  pub uses : enough ≡ uses_of transfers link

-- the texts aren't those of a batch and of a schedule of it
abbrev pub IsNoSchedule : ShapeView → List ℕ → List ℕ → Type 0
IsNoSchedule shape batch schedule =
    (refusal : Refusal) × IsInvalid shape batch schedule refusal

-- that is so of these texts, if anything is known
abbrev pub IsKnown : List ℕ → List ℕ → Validity → Type 0
IsKnown batch schedule Unknown = ⊤
IsKnown batch schedule Invalid = IsNoSchedule widest batch schedule
IsKnown batch schedule (Valid enough) = AreEnough widest batch schedule enough
