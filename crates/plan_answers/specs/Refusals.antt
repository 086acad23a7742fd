-- What is printed, and refusals among it.
use Rattle.std.specs.Prelude.{◌≡◌, ◌≢◌, ℕ, List, ◌++◌, codes}
use Rattle.refusals.specs.declared.refusal.Refusal.{Refusal}
use Rattle.refusals.specs.declared.refusal.Refusal.TheVariants.{NoMemory}
use Rattle.refusals.specs.Refusals.{refusal_words}
use Rattle.plan_answers.specs.declared.limits.TheConstants.{REFUSED}

-- what a command prints, and the status that the program ends with
pub record Printed : Type 0 where
  pub text : List ℕ
  pub status : ℕ

-- the line of a refusal, which says this, under its status
pub record IsRefused (words : List ℕ) (printed : Printed) : Type 0 where
  pub line : printed.text ≡ codes "refused " ++ words ++ codes "\n"
  pub status : printed.status ≡ REFUSED

-- this is refused, which isn't want of memory
abbrev pub Refuses : Refusal → Printed → Type 0
Refuses refusal printed = (refusal ≢ NoMemory) × IsRefused (refusal_words refusal) printed
