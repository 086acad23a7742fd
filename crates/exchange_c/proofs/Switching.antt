-- What is answered, by where the schedule comes from.
use Rattle.std.proofs.Common.{◌≡◌, ℕ, List, Result, IfOk, Some, false, subst}
use Rattle.std.specs.Borrow.{Bor}
use Rattle.plan_answers.specs.Refusals.{Printed}
use Rattle.plan_answers.specs.Schedules.{said_by}
use Rattle.plan_answers.specs.declared.source.ScheduleSource.{ScheduleSource}
use Rattle.rack_answers.specs.Switching.{IsOn, IsSwitched}
use Rattle.exchange_c.specs.Switching.{IsSwitchedOn, source_for}

-- by a plan, or by the text that is given
pub answered_by : {E : Type 0} (r : Result Printed E) (Is : ScheduleSource (List ℕ) → Printed → Type 0) (schedule : List ℕ)
    (source : ScheduleSource (Bor (List ℕ))) → said_by source ≡ source_for schedule → IfOk r (Is (said_by source)) → IfOk r (Is (source_for schedule))
answered_by r Is schedule source same is = subst (λ s. IfOk r (Is s)) same is

-- and of `switch` on a wiring
pub switched_on : {E : Type 0} (r : Result Printed E) (wiring batch schedule : List ℕ) (source : ScheduleSource (List ℕ)) → source ≡ source_for schedule
    → IfOk r (IsOn (λ board. IsSwitched source false board batch) (Some wiring)) → IfOk r (IsSwitchedOn wiring batch schedule)
switched_on r wiring batch schedule source same is =
    subst (λ (s : ScheduleSource (List ℕ)). IfOk r (IsOn (λ board. IsSwitched s false board batch) (Some wiring))) same is
