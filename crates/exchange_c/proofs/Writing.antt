-- What a call leaves of an answer, or of none.
use Rattle.std.proofs.Common.{List, ℕ, Result, Ok, Err, IfOk, OnErr, inl, inr}
use Rattle.plan_answers.specs.Refusals.{Printed}
use Rattle.exchange_c.specs.Writing.{Puts, IsOutOfMemory, Leaves}

pub left : {E : Type 0} (r : Result Printed E) (IsAnswer : Printed → Type 0) (old new : List ℕ) (count status : ℕ) → IfOk r IsAnswer
    → IfOk r (λ a. Puts a old new count status) → OnErr r (IsOutOfMemory old new count status) → Leaves IsAnswer old new count status
left (Ok answer) IsAnswer old new count status is puts none = inl (answer, is, puts)
left (Err e) IsAnswer old new count status is puts none = inr none
