-- How many pairs masks have: a pair that is taken out is one fewer, and one that changes at most
-- one more.
use Rattle.std.proofs.Common.{◌≡◌, ℕ, zero, suc, ◌+◌, ◌<◌, ◌≤◌, ltb, List, Bool, true, false, not, ◌&&◌, refl, arith}
use Rattle.std.proofs.lemmas.Bool.Decides.{nat_tests}
use Rattle.batch.specs.declared.limits.TheConstants.{MAX_MODULES}
use Rattle.link_graph.specs.declared.link.End.TheVariants.{Zero}
use Rattle.link_graph.specs.Masks.{has_pair}
use Rattle.link_graph.proofs.Masks.{bit}
use Rattle.euler_split.specs.Masks.{AreToggled}
use Rattle.euler_split.specs.Trails.{end_of, pairs_of_module, pairs_upto, pairs_left}
use Rattle.euler_split.proofs.Masks.{pairs_toggled, none_at}
use Rattle.euler_split.proofs.Steps.{both_low}

module _ (a b : ℕ) (a_in : a < MAX_MODULES) (b_in : b < MAX_MODULES) (old new : List ℕ) (out : AreToggled old new a b) where
  upto : (n : ℕ) → pairs_upto (has_pair new) n + bit (has_pair old a b && ltb a n) ≡ pairs_upto (has_pair old) n + bit (not (has_pair old a b) && ltb a n)
  upto zero = grind (arith, nat_tests)
  upto (suc n) = grind (arith, nat_tests, upto n, pairs_toggled (end_of a b) (both_low a_in b_in) true (has_pair old) (has_pair new) out Zero n)

  pub one_fewer : has_pair old a b ≡ true → pairs_left new + 1 ≡ pairs_left old
  unfolding pairs_left
  one_fewer had = grind (arith, nat_tests, had, upto MAX_MODULES)

  pub one_more : pairs_left new ≤ pairs_left old + 1
  unfolding pairs_left
  one_more = grind (arith, nat_tests, upto MAX_MODULES)

none_upto : (f : ℕ → ℕ → Bool) → ((m : ℕ) → pairs_of_module f Zero m ≡ 0) → (n : ℕ) → pairs_upto f n ≡ 0
none_upto f none zero = refl
none_upto f none (suc n) = omega (arith, none n, none_upto f none n)

pub no_pairs : (masks : List ℕ) → ((u v : ℕ) → has_pair masks u v ≡ false) → pairs_left masks ≡ 0
unfolding pairs_left
no_pairs masks none = none_upto (has_pair masks) (λ m. none_at (has_pair masks) Zero m (λ u v _. none u v)) MAX_MODULES
