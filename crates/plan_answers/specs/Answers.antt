-- What `plan` and `check` answer.
use Rattle.std.specs.Prelude.{◌≡◌, ◌≤◌, ◌+◌, ◌^◌, ℕ, List, ◌++◌, length, Option, Some, None, codes}
use Rattle.std.specs.Fmt.{decimal}
use Rattle.batch.specs.declared.fault.BatchFault.{BatchFault}
use Rattle.batch.specs.declared.transfer.Transfer.{Transfer}
use Rattle.batch.specs.ShapeView.{ShapeView, widest}
use Rattle.batch.specs.Text.{Denotes}
use Rattle.batch.specs.Faults.{IsFirstFault}
use Rattle.link_graph.specs.declared.check_fault.CheckFault.{CheckFault}
use Rattle.link_graph.specs.Certificates.{Naming, IsShortest, IsCertificate}
use Rattle.link_graph.specs.Checks.{IsFirstCheckFault}
use Rattle.link_graph.specs.ScheduleText.{said, Says}
use Rattle.refusals.specs.declared.refusal.Refusal.{Refusal}
use Rattle.refusals.specs.declared.refusal.Refusal.TheVariants.{NoCertificate}
use Rattle.refusals.specs.Refusals.{refusal_words}
use Rattle.refusals.specs.Sources.{of_batch, of_check}
use Rattle.schedule_certificate.specs.Steps.{UsesAtMost, most_steps}
use Rattle.plan_answers.specs.declared.limits.TheConstants.{DONE}
use Rattle.plan_answers.specs.declared.source.Planning.{Planning}
use Rattle.plan_answers.specs.declared.source.Planning.TheVariants.{Plain}
use Rattle.plan_answers.specs.Refusals.{Printed, IsRefused}
use Rattle.plan_answers.specs.Schedules.{IsPlannedAs}
use Rattle.plan_answers.specs.Texts.{AreTexts, IsTextWrong}

-- no other answer is such
abbrev pub IsOnly : (Printed → Type 0) → Printed → Type 0
IsOnly IsAnswer answer = (other : Printed) → IsAnswer other → other ≡ answer

-- ---- `plan`

-- the text says a schedule with its certificate
abbrev pub SaysCertified : List (List ℕ) → Naming → List ℕ → Type 0
SaysCertified settings named text = Says text (said settings (Some named))

-- the text says such a plan of the batch, with its certificate
pub record SaysPlan (planning : Planning) (batch : List Transfer) (text : List ℕ) : Type 0 where
  pub settings : List (List ℕ)
  pub named : Naming
  pub is : IsPlannedAs planning batch settings named
  pub says : SaysCertified settings named text

-- a text that says such a plan of the batch that the batch text denotes, or the refusal of that
-- text's first fault, each under its status
pub data IsPlanned (planning : Planning) (shape : ShapeView) (batch : List ℕ) (printed : Printed)
    : Type 0 where
  planned : (transfers : List Transfer) → Denotes shape batch transfers
      → SaysPlan planning transfers printed.text → printed.status ≡ DONE
      → IsPlanned planning shape batch printed
  refused : (fault : BatchFault) → IsFirstFault shape batch fault
      → IsRefused (refusal_words (of_batch fault)) printed → IsPlanned planning shape batch printed

-- A plain plan of the text's batch took no more steps, if none of its links has more than 2^k uses.
abbrev pub TakesFewSteps : Planning → List ℕ → (before after : ℕ) → Type 0
TakesFewSteps planning text before after =
    planning ≡ Plain → (batch : List Transfer) (k : ℕ) → Denotes widest text batch
    → UsesAtMost batch (2 ^ k) → after ≤ before + most_steps (length batch) k

-- ---- `check`

-- The texts are those of a batch and of a shortest schedule of it, which has so many settings, with
-- a certificate that shows it.
pub record IsShown (shape : ShapeView) (batch schedule : List ℕ) (count : ℕ) : Type 0 where
  pub transfers : List Transfer
  pub settings : List (List ℕ)
  pub named : Naming
  pub texts : AreTexts shape batch schedule transfers settings (Some named)
  pub shortest : IsShortest transfers settings
  pub certificate : IsCertificate transfers settings named
  pub counted : count ≡ length settings

-- what is first wrong with a schedule: it has no certificate, or else what the checker finds
abbrev pub IsUnshown : List Transfer → List (List ℕ) → Option Naming → Refusal → Type 0
IsUnshown transfers settings None refusal = refusal ≡ NoCertificate
IsUnshown transfers settings (Some named) refusal =
    (fault : CheckFault) × IsFirstCheckFault transfers settings named fault
    × (refusal ≡ of_check fault)

-- what is first wrong: the texts are looked at first, then the schedule
pub data IsFirstWrong (shape : ShapeView) (batch schedule : List ℕ) (refusal : Refusal) : Type 0
  where
    unread : IsTextWrong shape batch schedule refusal → IsFirstWrong shape batch schedule refusal
    unshown : (transfers : List Transfer) (settings : List (List ℕ)) (certificate : Option Naming)
        → AreTexts shape batch schedule transfers settings certificate
        → IsUnshown transfers settings certificate refusal
        → IsFirstWrong shape batch schedule refusal

-- `shortest S`
abbrev pub shortest_line : ℕ → List ℕ
shortest_line count = codes "shortest " ++ decimal count ++ codes "\n"

-- how many settings the shortest schedule has, or what is first wrong, each under its status
pub data IsChecked (shape : ShapeView) (batch schedule : List ℕ) (printed : Printed) : Type 0 where
  shortest : (count : ℕ) → IsShown shape batch schedule count → printed.text ≡ shortest_line count
      → printed.status ≡ DONE → IsChecked shape batch schedule printed
  refused : (refusal : Refusal) → IsFirstWrong shape batch schedule refusal
      → IsRefused (refusal_words refusal) printed → IsChecked shape batch schedule printed
