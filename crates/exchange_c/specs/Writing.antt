-- What a call leaves in the caller's bytes.
use Rattle.std.specs.Prelude.{◌≡◌, ℕ, ◌<◌, ◌≤◌, ◌⊎◌, List, ◌++◌, drop, length}
use Rattle.plan_answers.specs.Refusals.{Printed}
use Rattle.exchange_c.specs.declared.status.TheConstants.{NO_ROOM, NO_MEMORY}

-- the bytes of the answer stand in front, under its status, and those after are as they were
pub record IsPut (answer : Printed) (old new : List ℕ) (count status : ℕ) : Type 0 where
  pub fits : length answer.text ≤ length old
  pub counted : count ≡ length answer.text
  pub written : new ≡ answer.text ++ drop count old
  pub its_status : status ≡ answer.status

-- there are fewer bytes than the answer has: it is told how many it has, and nothing is written
pub record IsTooLong (answer : Printed) (old new : List ℕ) (count status : ℕ) : Type 0 where
  pub long : length old < length answer.text
  pub counted : count ≡ length answer.text
  pub kept : new ≡ old
  pub its_status : status ≡ NO_ROOM

-- what is left of an answer
abbrev pub Puts : Printed → List ℕ → List ℕ → ℕ → ℕ → Type 0
Puts answer old new count status =
    IsPut answer old new count status ⊎ IsTooLong answer old new count status

-- there was no memory for an answer, and nothing is written
pub record IsOutOfMemory (old new : List ℕ) (count status : ℕ) : Type 0 where
  pub none : count ≡ 0
  pub kept : new ≡ old
  pub its_status : status ≡ NO_MEMORY

-- what is left of an answer that is such, or there was no memory
abbrev pub Leaves : (Printed → Type 0) → List ℕ → List ℕ → ℕ → ℕ → Type 0
Leaves IsAnswer old new count status =
    ((answer : Printed) × IsAnswer answer × Puts answer old new count status)
    ⊎ IsOutOfMemory old new count status
