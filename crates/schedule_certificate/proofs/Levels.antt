-- The steps of colouring a part: its own, and those of its halves one level below.
use Rattle.std.proofs.Common.{◌≡◌, ℕ, List, inl, inr, zero, suc, ◌+◌, ◌*◌, ◌^◌, ◌<◌, ◌≤◌, refl, arith, pow-suc, add-mul, mul-suc}
use Rattle.batch.specs.declared.transfer.Transfer.{Transfer}
use Rattle.batch.specs.declared.limits.TheConstants.{MAX_MODULES}
use Rattle.link_graph.specs.declared.limits.TheConstants.{LINKS}
use Rattle.schedule_certificate.specs.declared.degree.KnownDegree.{KnownDegree}
use Rattle.schedule_certificate.specs.declared.degree.KnownDegree.TheVariants.{Is, AtMost}
use Rattle.schedule_certificate.specs.Parts.{IsDegree, IsHalf}
use Rattle.schedule_certificate.specs.Steps.{colouring_steps, at_most, UsesAtMost}

-- what the parts of k levels have for colours, with one more for each part
abbrev nodes : ℕ → ℕ
nodes zero = 1
nodes (suc k) = 2 * nodes k + 2 ^ suc k + 1

closed : (k : ℕ) → nodes k + 1 ≡ (k + 2) * 2 ^ k
closed zero = refl
closed (suc k) = rw (pow-suc 2 k) (grind (arith, closed k))

wide : (k : ℕ) → 2 ^ k ≤ nodes k
wide zero = omega arith
wide (suc k) = let n : nodes (suc k) ≡ 2 * nodes k + 2 ^ suc k + 1 = refl in omega (arith, wide k, n)

pub one_at : (k : ℕ) → 1 ≤ 2 ^ k
one_at zero = omega arith
one_at (suc k) = let p : 2 ^ suc k ≡ 2 ^ k * 2 = pow-suc 2 k in omega (arith, one_at k)

pub leaf : (n k : ℕ) → 32 * (n * k) + 3 * n + 4 * LINKS * 2 ^ k ≤ colouring_steps n k
leaf n k = omega (arith, closed k, wide k)

pub level : (l r d k own s t : ℕ) → d ≤ 2 ^ suc k → own ≤ 32 * (l + r) + 7 * MAX_MODULES * (d + 1) + 2 * MAX_MODULES → t ≤ s + own + colouring_steps l k +
    colouring_steps r k → t ≤ s + colouring_steps (l + r) (suc k)
level l r d k own s t low few took =
    let n : nodes (suc k) ≡ 2 * nodes k + 2 ^ suc k + 1 = refl in
    omega (arith, low, few, took, n, closed k, closed (suc k), one_at (suc k), mul-suc (l + r) k, add-mul l r k)

pub half_fits : (d k : ℕ) (half : KnownDegree) → IsHalf d half → d ≤ 2 ^ suc k → at_most half ≤ 2 ^ k
half_fits d k (Is h) is low = let p : 2 ^ suc k ≡ 2 ^ k * 2 = pow-suc 2 k in omega (arith, is, low)
half_fits d k (AtMost h) is low = let p : 2 ^ suc k ≡ 2 ^ k * 2 = pow-suc 2 k in omega (arith, is, low)

-- m transfers that are put back into d colours, where d + 1 times as many are in the part
pub class_steps : (m d e : ℕ) → 1 < d → (d + 1) * m ≤ e → m * (3 * d + 2 * MAX_MODULES + 1) ≤ 25 * e
class_steps m zero e high few = absurd (omega arith)
class_steps m (suc zero) e high few = absurd (omega arith)
class_steps m (suc (suc q)) e high few = omega (arith, few)

pub degree_fits : (transfers : List Transfer) (d most : ℕ) → IsDegree transfers d → UsesAtMost transfers most → d ≤ most
degree_fits transfers d most degree low = elim degree.reached [ inl none ↦ omega arith | inr at ↦ omega (arith, at.1, low at.0) ]
