-- How many pairs there are at a link.
use Rattle.std.proofs.Common.{◌≡◌, ◌==◌, ℕ, zero, suc, ◌+◌, ◌<◌, ltb, List, get_or, Bool, false, not, ◌&&◌, cond, refl, sym, ◌∙◌, arith}
use Rattle.std.proofs.lemmas.Bool.Decides.{nat_tests}
use Rattle.batch.specs.declared.limits.TheConstants.{MAX_MODULES}
use Rattle.link_graph.specs.declared.link.End.{End}
use Rattle.link_graph.specs.declared.link.End.TheVariants.{Zero, Three}
use Rattle.link_graph.specs.Counts.{count_below}
use Rattle.link_graph.specs.Masks.{has_pair}
use Rattle.link_graph.proofs.Masks.{empty_mask, bit}
use Rattle.euler_split.specs.Masks.{AreMirrored}
use Rattle.euler_split.specs.Trails.{pairs_of_module, end_of}

-- ---- counts

count_sum : (n : ℕ) (p q r s : ℕ → Bool) → ((i : ℕ) → bit (p i) + bit (q i) ≡ bit (r i) + bit (s i)) → count_below n p + count_below n q
    ≡ count_below n r + count_below n s
count_sum zero p q r s h = refl
count_sum (suc n) p q r s h = omega (arith, h n, count_sum n p q r s h)

count_one : (n k : ℕ) (c : Bool) (p : ℕ → Bool) → ((i : ℕ) → p i ≡ (c && k == i)) → count_below n p ≡ bit (c && ltb k n)
count_one zero k c p is = grind (arith, nat_tests)
count_one (suc n) k c p is = grind (arith, nat_tests, is n, count_one n k c p is)

all_counted : (k n : ℕ) (c : Bool) → k < n → bit (c && ltb k n) ≡ bit c
all_counted k n c k_in = grind (arith, nat_tests)

-- ---- pairs at a link

pub pairs_sum : (f g h k : ℕ → ℕ → Bool) → ((u v : ℕ) → bit (f u v) + bit (g u v) ≡ bit (h u v) + bit (k u v)) → (e : End) (m : ℕ)
    → pairs_of_module f e m + pairs_of_module g e m ≡ pairs_of_module h e m + pairs_of_module k e m
unfolding pairs_of_module
pairs_sum f g h k is Zero m = count_sum MAX_MODULES (λ v. f m v) (λ v. g m v) (λ v. h m v) (λ v. k m v) (λ v. is m v)
pairs_sum f g h k is Three m = count_sum MAX_MODULES (λ u. f u m) (λ u. g u m) (λ u. h u m) (λ u. k u m) (λ u. is u m)

pub none_at : (f : ℕ → ℕ → Bool) (e : End) (m : ℕ) → ((u v : ℕ) → end_of u v e ≡ m → f u v ≡ false) → pairs_of_module f e m ≡ 0
unfolding pairs_of_module
none_at f Zero m none = count_one MAX_MODULES 0 false (λ v. f m v) (λ v. none m v refl)
none_at f Three m none = count_one MAX_MODULES 0 false (λ u. f u m) (λ u. none u m refl)

-- none where the mask of a link is empty
pub none_zero : (zeros : List ℕ) (m : ℕ) → get_or zeros m 0 ≡ 0 → pairs_of_module (has_pair zeros) Zero m ≡ 0
none_zero zeros m empty = none_at (has_pair zeros) Zero m (λ u v same. rw same (empty_mask zeros m v empty))

pub none_three : (zeros threes : List ℕ) (m : ℕ) → AreMirrored zeros threes → get_or threes m 0 ≡ 0 → pairs_of_module (has_pair zeros) Three m ≡ 0
none_three zeros threes m mirrored empty = none_at (has_pair zeros) Three m (λ u v same. sym (mirrored u v) ∙ rw same (empty_mask threes m u empty))

abbrev single : Bool → (End → ℕ) → ℕ → ℕ → Bool
single c at u v = (c && at Zero == u) && at Three == v

module _ (at : End → ℕ) (low : (e : End) → at e < MAX_MODULES) where
  single_at : (c : Bool) (e : End) (m : ℕ) → pairs_of_module (single c at) e m ≡ bit (c && at e == m)
  unfolding pairs_of_module
  single_at c Zero m = count_one MAX_MODULES (at Three) (c && at Zero == m) (λ v. single c at m v) (λ i. refl) ∙ all_counted (at Three) MAX_MODULES
      (c && at Zero == m) (low Three)
  single_at c Three m = count_one MAX_MODULES (at Zero) (c && at Three == m) (λ u. single c at u m) (λ i. grind (arith, nat_tests))
      ∙ all_counted (at Zero) MAX_MODULES (c && at Three == m) (low Zero)

  -- a pair that goes out or comes in is one at both of its links
  pub pairs_toggled : (c : Bool) (f g : ℕ → ℕ → Bool) → ((u v : ℕ) → g u v ≡ cond (c && (at Zero == u && at Three == v)) (not (f u v)) (f u v))
      → (e : End) (m : ℕ) → pairs_of_module g e m + bit ((c && f (at Zero) (at Three)) && at e == m)
      ≡ pairs_of_module f e m + bit ((c && not (f (at Zero) (at Three))) && at e == m)
  pairs_toggled c f g is e m =
      let was : Bool = f (at Zero) (at Three) in
      rw (← single_at (c && was) e m, ← single_at (c && not was) e m)
      (pairs_sum g (single (c && was) at) f (single (c && not was) at) (λ u v. grind (arith, nat_tests, is u v)) e m)
