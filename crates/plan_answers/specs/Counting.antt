-- What is answered where it is asked how often the switch changes.
use Rattle.std.specs.Prelude.{◌≡◌, ℕ, List, ◌++◌, codes}
use Rattle.std.specs.Fmt.{decimal}
use Rattle.batch.specs.declared.transfer.Transfer.{Transfer}
use Rattle.batch.specs.ShapeView.{ShapeView}
use Rattle.refusals.specs.declared.refusal.Refusal.{Refusal}
use Rattle.refusals.specs.Refusals.{refusal_words}
use Rattle.schedule_picture.specs.declared.verdict.Verdict.{Verdict}
use Rattle.plan_answers.specs.declared.limits.TheConstants.{DONE}
use Rattle.plan_answers.specs.Refusals.{Printed, IsRefused}
use Rattle.plan_answers.specs.Validities.{IsValid, IsInvalid}

-- `changes C least L`
abbrev pub changes_line : ℕ → ℕ → List ℕ
changes_line changes least =
    codes "changes " ++ decimal changes ++ codes " least " ++ decimal least ++ codes "\n"

-- the line of the schedule that the texts say
pub record IsCounting (shape : ShapeView) (batch schedule text : List ℕ) : Type 0 where
  pub transfers : List Transfer
  pub settings : List (List ℕ)
  pub verdict : Verdict
  pub valid : IsValid shape batch schedule transfers settings verdict
  pub line : text ≡ changes_line verdict.changes verdict.least

-- that line, where so many changes are shown, or the refusal of what is first wrong, each under its
-- status
pub data IsCountedWith (shape : ShapeView) (batch schedule : List ℕ) (least : ℕ) (printed : Printed)
    : Type 0 where
  counted : (counting : IsCounting shape batch schedule printed.text)
      → counting.verdict.least ≡ least → printed.status ≡ DONE
      → IsCountedWith shape batch schedule least printed
  uncounted : (refusal : Refusal) → IsInvalid shape batch schedule refusal
      → IsRefused (refusal_words refusal) printed
      → IsCountedWith shape batch schedule least printed

-- so it is, however many changes are shown
abbrev pub IsCounted : ShapeView → List ℕ → List ℕ → Printed → Type 0
IsCounted shape batch schedule printed =
    (least : ℕ) × IsCountedWith shape batch schedule least printed
