-- What a call tells of the refusal that another call gives.
use Rattle.std.specs.Prelude.{◌≡◌, ◌⊎◌, ◌==◌, ℕ, List, [], Option, Some, None, if◌then◌else◌}
use Rattle.batch.specs.ShapeView.{widest}
use Rattle.exchange_c.specs.Switching.{IsOrderedBy, IsSwitchedBy, IsSwitchedOn}
use Rattle.exchange_c.specs.declared.why.LibraryCall.{LibraryCall}
use Rattle.exchange_c.specs.declared.why.LibraryCall.TheVariants.{Plan, Check, Switch, Apply, Draw}
use Rattle.exchange_c.specs.declared.why.LibraryCall.TheVariants.{Changes, Direct, SwitchWired}
use Rattle.exchange_c.specs.declared.why.LibraryCall.TheVariants.{Orders}
use Rattle.plan_answers.specs.Answers.{IsPlanned, IsChecked}
use Rattle.plan_answers.specs.Counting.{IsCounted}
use Rattle.plan_answers.specs.Directing.{IsDirected}
use Rattle.plan_answers.specs.Drawings.{IsDrawn}
use Rattle.plan_answers.specs.Refusals.{Printed, Refuses}
use Rattle.plan_answers.specs.declared.limits.TheConstants.{DONE}
use Rattle.plan_answers.specs.declared.source.Planning.TheVariants.{Plain}
use Rattle.rack_answers.specs.Answers.{IsApplied}
use Rattle.refusal_notes.specs.Told.{line_told}
use Rattle.refusals.specs.declared.refusal.Refusal.{Refusal}

-- the call of a number
abbrev pub asked_by : ℕ → Option LibraryCall
asked_by number =
    if number == 0 then Some Plan else
    (if number == 1 then Some Check else
    (if number == 2 then Some Switch else
    (if number == 3 then Some Apply else
    (if number == 4 then Some Draw else
    (if number == 5 then Some Changes else
    (if number == 6 then Some Direct else
    (if number == 7 then Some SwitchWired else
    (if number == 8 then Some Orders else None))))))))

-- what a call answers to its texts, in the order of its arguments
abbrev pub IsAnswerOf : LibraryCall → List ℕ → List ℕ → List ℕ → Printed → Type 0
IsAnswerOf Plan batch second third = IsPlanned Plain widest batch
IsAnswerOf Check batch schedule third = IsChecked widest batch schedule
IsAnswerOf Switch batch schedule third = IsSwitchedBy batch schedule
IsAnswerOf Apply shape batch image = IsApplied shape batch image
IsAnswerOf Draw batch schedule third = IsDrawn widest batch schedule None
IsAnswerOf Changes batch schedule third = IsCounted widest batch schedule
IsAnswerOf Direct moves second third = IsDirected moves
IsAnswerOf SwitchWired batch schedule wiring = IsSwitchedOn wiring batch schedule
IsAnswerOf Orders batch schedule third = IsOrderedBy batch schedule

-- a line beside the refusal that the call gives of these texts, or nothing
pub record IsWhy (asked : LibraryCall) (first second third : List ℕ) (told : Printed) : Type 0 where
  pub answer : Printed
  pub its_answer : IsAnswerOf asked first second third answer
  pub its_status : told.status ≡ DONE
  pub line : ((refusal : Refusal) × Refuses refusal answer
      × ((words : List ℕ) × (told.text ≡ line_told words))) ⊎ (told.text ≡ [])
