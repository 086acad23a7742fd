use Rattle.std.proofs.Common.{◌≡◌, [], ◌∷◌, ℕ, List, length, refl, arith}
use Rattle.std.proofs.lemmas.Grind.{common_steps}
use Rattle.plan_answers.specs.declared.source.Planning.TheVariants.{Plain}
use Rattle.plan_answers.specs.declared.source.ScheduleSource.TheVariants.{Plan, Text}
use Rattle.exchange_c.specs.Switching.{source_for}
use Rattle.exchange_c.proofs.source_of.Goals as goal

of_none : (bytes : List ℕ) → length bytes ≡ 0 → Plan Plain ≡ source_for bytes
of_none [] none = refl
of_none (byte ∷ bytes) none = absurd (omega (arith, none))

of_some : (bytes : List ℕ) → (length bytes ≡ 0 → ⊥) → Text bytes ≡ source_for bytes
of_some [] some = absurd (some refl)
of_some (byte ∷ bytes) some = refl

pub returns-then-is_empty : goal.returns-then-is_empty
returns-then-is_empty c = of_none c.args.schedule.now (grind (arith, common_steps, c.if-is_empty.ensures))

pub returns-else-is_empty : goal.returns-else-is_empty
returns-else-is_empty c = of_some c.args.schedule.now (λ none. grind (arith, common_steps, c.if-is_empty.ensures))
