-- What the calls of `switch` and of `orders` answer: both take a schedule, or none.
use Rattle.std.specs.Prelude.{ℕ, List, [], ◌∷◌, Some, None, false}
use Rattle.plan_answers.specs.Refusals.{Printed}
use Rattle.plan_answers.specs.declared.source.Planning.TheVariants.{Plain}
use Rattle.plan_answers.specs.declared.source.ScheduleSource.{ScheduleSource}
use Rattle.plan_answers.specs.declared.source.ScheduleSource.TheVariants.{Plan, Text}
use Rattle.rack_answers.specs.Orders.{IsOrdered}
use Rattle.rack_answers.specs.Switching.{IsOn, IsSwitched}

-- where the schedule comes from: a plan where its text is empty, and else that text
abbrev pub source_for : List ℕ → ScheduleSource (List ℕ)
source_for [] = Plan Plain
source_for (byte ∷ bytes) = Text (byte ∷ bytes)

-- what `switch` answers so
abbrev pub IsSwitchedBy : List ℕ → List ℕ → Printed → Type 0
IsSwitchedBy batch schedule = IsSwitched (source_for schedule) false None batch

-- what `orders` answers so, of all modules
abbrev pub IsOrderedBy : List ℕ → List ℕ → Printed → Type 0
IsOrderedBy batch schedule = IsOrdered (source_for schedule) None batch

-- what `switch` answers on a wiring
abbrev pub IsSwitchedOn : List ℕ → List ℕ → List ℕ → Printed → Type 0
IsSwitchedOn wiring batch schedule =
    IsOn (λ board. IsSwitched (source_for schedule) false board batch) (Some wiring)
