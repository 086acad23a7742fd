-- What passes over several conversations with the switches, one after another.
use Rattle.std.proofs.Common.{◌≡◌, ◌++◌, ◌<◌, ◌+◌, ◌*◌, ◌⊎◌, inl, inr, ℕ, Bool, true, false, List, [], ◌∷◌, length, refl, ap, Option, Some, None, Result, Ok, Err, arith}
use Rattle.std.proofs.lemmas.Bool.Decides.{nat_tests}
use Rattle.std.proofs.lemmas.Grind.{common_steps}
use Rattle.std.specs.Prelude.{OnOk, nat_lt}
use Rattle.c004_commands.specs.declared.port.TheConstants.{PORTS}
use Rattle.crossbar.specs.Switch.{Switch}
use Rattle.crossbar.specs.Traffic.{Passes}
use Rattle.crossbar.specs.declared.chip.Chip.{Chip}
use Rattle.crossbar.specs.declared.chip.Chip.TheVariants.{A, B}
use Rattle.crossbar.specs.declared.pair.Pair.{Pair}
use Rattle.crossbar.specs.declared.switch.TheConstants.{JOINED_MODULES}
use Rattle.crossbar.specs.declared.traffic.Passing.{Passing}
use Rattle.switch_settings.specs.Answers.{Disagrees, HasOutput, first_output, number_of}
use Rattle.switch_settings.specs.Asking.{HasPassedFor, HavePassedFor}
use Rattle.switch_settings.specs.declared.fault.Disagreement.{Disagreement}
use Rattle.switch_settings.specs.declared.fault.SettingFault.TheVariants.{Switch as Disagreed}

pub no_items : (xs : List ℕ) → length xs ≡ 0 → xs ≡ []
no_items [] e = refl
no_items (x ∷ xs) e = absurd (omega arith)

pub passes_then : (a b c : Option (List Passing)) (xs ys : List Passing) → Passes a b xs → Passes b c ys → Passes a c (xs ++ ys)
passes_then None b c xs ys p q = tt
passes_then (Some a) None c xs ys p q = absurd p
passes_then (Some a) (Some b) None xs ys p q = absurd q
passes_then (Some a) (Some b) (Some c) xs ys p q = grind (arith, common_steps)

-- what follows of what an honest port did, where it answers Ok
pub ok_if : {T E H C D : Type 0} (r : Result T E) → (H → C → D) → (H → OnOk r C) → OnOk r (H → D)
ok_if (Ok x) f done = λ h. f h (done h)
ok_if (Err e) f done = tt

-- ---- the output that disagrees

numbered : (found : Disagreement) (chip : Chip) (switch : Switch) (replies : List ℕ) → Disagrees found chip switch replies
    → (number_of found ≡ first_output chip + found.output) × (found.output < PORTS)
numbered found chip switch replies d = (ap (λ (f : Disagreement). first_output f.chip + found.output) d.0, d.1.known)

some_output : (wide : Bool) (found : Disagreement) (standing : Option (List Pair)) (pairs : List Pair) (old new : Option (List Passing))
    → HasPassedFor wide (Disagreed found) standing pairs old new → (number_of found < PORTS) ⊎ ((wide ≡ true) × (number_of found < 2 * PORTS))
some_output false found standing pairs old new h = let n = numbered found A _ _ h.2.1.are in inl (omega (arith, n.0, n.1))
some_output true found standing pairs old new (inl h) = let n = numbered found A _ _ h.2.2.1.are in inl (omega (arith, n.0, n.1))
some_output true found standing pairs old new (inr h) = let n = numbered found B _ _ h.2.2.2.1.are in inr (refl, omega (arith, n.0, n.1))

-- a rack of so many modules has it
pub known_output : (modules : ℕ) (found : Disagreement) (standing : Option (List Pair)) (pairs : List Pair) (old new : Option (List Passing))
    → HavePassedFor modules (Disagreed found) standing pairs old new → HasOutput modules (number_of found)
known_output modules found standing pairs old new h = elim (some_output (nat_lt JOINED_MODULES modules) found standing pairs old new h) [
  | inl low ↦ inl low
  | inr high ↦ (let wide : nat_lt JOINED_MODULES modules ≡ true = high.0 in let two : JOINED_MODULES < modules = grind (arith, nat_tests) in inr (two, high.1))
]
