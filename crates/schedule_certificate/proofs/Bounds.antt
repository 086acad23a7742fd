-- The step of the recursion: two halves, and a smallest class that is put back.
use Rattle.std.proofs.Common.{◌≡◌, ℕ, zero, suc, ◌+◌, ◌-◌, ◌*◌, ◌/◌, ◌%◌, ◌^◌, ◌<◌, ◌≤◌, ◌⊎◌, inl, inr, refl, ap, subst, arith, true, false, cond, ltb}
use Rattle.std.proofs.Math.Nat.{mul-le-mul_left, le_of_mul-le-mul_left}
use Rattle.std.proofs.lemmas.Bool.Decides.{nat_tests}
use Rattle.std.proofs.lemmas.Bool.{cases_lt, cases_eq}
use Rattle.schedule_certificate.specs.Reinsertions.{bound, AreFew}

-- the bound at p + 2
bound_at : (n d p : ℕ) → d ≡ p + 2 → bound n d ≡ 3 * n * p
bound_at n d p is =
    rw is (elim (ltb (p + 2) 2) as (λ b. b ≡ ltb (p + 2) 2 → cond b 0 (3 * n * (p + 2 - 2)) ≡ 3 * n * p)
    [ true ↦ λ t. absurd (grind (arith, nat_tests)) | false ↦ λ _. ap (λ m. 3 * n * m) (omega arith) ] refl)

most_at : (n d p r : ℕ) → d ≡ p + 2 → AreFew n d r → 4 * (p + 2) * r ≤ 3 * n * p
most_at n d p r is f = let b = bound_at n d p is in let m = f.most in rw (← b, ← is) m

most_from : (n d p r : ℕ) → d ≡ p + 2 → 4 * (p + 2) * r ≤ 3 * n * p → 4 * d * r ≤ bound n d
most_from n d p r is h = rw (bound_at n d p is, is) h

pub few_of_none : (n d : ℕ) → AreFew n d 0
few_of_none n d = record { most = omega arith; none_at_zero = λ _. refl; none_at_powers = λ _ _. refl }

none_at_one : (n d r : ℕ) → AreFew n d r → d ≤ 1 → r ≡ 0
none_at_one n d r f low = elim (cases_eq d 0) [ inl none ↦ f.none_at_zero none | inr some ↦ f.none_at_powers 0 (let one : d ≡ 1 = omega arith in one) ]

-- half a power of two that isn't 1 is one
half_power : (k j : ℕ) → 2 * k ≡ 2 ^ j → (i : ℕ) × (k ≡ 2 ^ i)
half_power k zero h = absurd (omega arith)
half_power k (suc i) h = (i, omega arith)

-- an odd number above 1 isn't one
odd_power : (k j : ℕ) → 2 * k + 1 ≡ 2 ^ j → k ≡ 0
odd_power k zero h = omega arith
odd_power k (suc i) h = absurd (omega arith)

few_even : (k n₁ n₂ r₁ r₂ : ℕ) → AreFew n₁ k r₁ → AreFew n₂ k r₂ → 0 < k → AreFew (n₁ + n₂) (2 * k) (r₁ + r₂)
few_even k n₁ n₂ r₁ r₂ a b pos = elim (cases_lt k 2) [
  | inl low ↦
      let x = none_at_one n₁ k r₁ a (omega arith) in
      let y = none_at_one n₂ k r₂ b (omega arith) in
      rw (x, y) (few_of_none (n₁ + n₂) (2 * k))
  | inr high ↦
      let p : ℕ = k - 2 in
      let k_is : k ≡ p + 2 = omega arith in
      let x = most_at n₁ k p r₁ k_is a in
      let y = most_at n₂ k p r₂ k_is b in
      record {
        most = most_from (n₁ + n₂) (2 * k) (2 * p + 2) (r₁ + r₂) (omega arith) (omega arith);
        none_at_zero = λ h. absurd (omega arith);
        none_at_powers = λ j h. let i = half_power k j h in omega (arith, a.none_at_powers i.0 i.1, b.none_at_powers i.0 i.1);
      }
]

-- a part of degree k is few for degree k + 1, where p is k - 1
lift : (n k p r : ℕ) → k ≡ p + 1 → AreFew n k r → 4 * (p + 2) * r ≤ 3 * n * p
lift n k zero r is f = let s = none_at_one n k r f (omega arith) in rw s (omega arith)
lift n k (suc q) r is f =
    let m : 4 * (q + 2) * r ≤ 3 * n * q = most_at n k q r (omega arith) f in
    let wide : (q + 2) * (4 * r) ≤ (q + 2) * (3 * n) = omega arith in
    let one : 4 * r ≤ 3 * n = le_of_mul-le-mul_left wide (omega arith) in
    omega arith

-- the bound of the two halves, and a class of at most n/(2p + 4)
with_class : (n r s p : ℕ) → 4 * (p + 2) * r ≤ 3 * n * p → 2 * (p + 2) * s ≤ n → 4 * (2 * p + 3) * (r + s) ≤ 3 * n * (2 * p + 1)
with_class n r s p h few =
    let a : (2 * p + 3) * (4 * (p + 2) * r) ≤ (2 * p + 3) * (3 * n * p) = mul-le-mul_left (2 * p + 3) h in
    let b : (2 * p + 3) * (2 * (p + 2) * s) ≤ (2 * p + 3) * n = mul-le-mul_left (2 * p + 3) few in
    let c : (p + 2) * (4 * (2 * p + 3) * (r + s)) ≤ (p + 2) * (3 * n * (2 * p + 1)) = omega arith in
    le_of_mul-le-mul_left c (omega arith)

few_odd : (p d d₁ d₂ n₁ n₂ r₁ r₂ s : ℕ) → d ≡ 2 * p + 3 → AreFew n₁ d₁ r₁ → AreFew n₂ d₂ r₂ → (d₁ ≡ p + 1) ⊎ (d₁ ≡ p + 2) → (d₂ ≡ p + 1) ⊎ (d₂ ≡ p + 2)
    → (d + 1) * s ≤ n₁ + n₂ → AreFew (n₁ + n₂) d (r₁ + r₂ + s)
few_odd p d d₁ d₂ n₁ n₂ r₁ r₂ s d_is a b e₁ e₂ few =
    let up : (n d r : ℕ) → AreFew n d r → (d ≡ p + 1) ⊎ (d ≡ p + 2) → 4 * (p + 2) * r ≤ 3 * n * p =
    λ n d r f e. elim e [ inl is ↦ lift n d p r is f | inr is ↦ most_at n d p r is f ] in
    let x = up n₁ d₁ r₁ a e₁ in
    let y = up n₂ d₂ r₂ b e₂ in
    let halves : 4 * (p + 2) * (r₁ + r₂) ≤ 3 * (n₁ + n₂) * p = omega arith in
    let z : (2 * p + 3 + 1) * s ≤ n₁ + n₂ = rw (← d_is) few in
    let few_s : 2 * (p + 2) * s ≤ n₁ + n₂ = omega arith in
    let all = with_class (n₁ + n₂) (r₁ + r₂) s p halves few_s in
    record {
      most = most_from (n₁ + n₂) d (2 * p + 1) (r₁ + r₂ + s) (omega arith) (omega arith);
      none_at_zero = λ h. absurd (omega arith);
      none_at_powers = λ j h. absurd (omega (arith, odd_power (p + 1) j (omega arith)));
    }

-- fewer are few
pub few_le : (n d r s : ℕ) → AreFew n d r → s ≤ r → AreFew n d s
few_le n d r s f less = record {
  most = let m = mul-le-mul_left (4 * d) less in let k = f.most in omega arith;
  none_at_zero = λ h. omega (arith, f.none_at_zero h);
  none_at_powers = λ j h. omega (arith, f.none_at_powers j h);
}

near : (e p : ℕ) → p + 1 ≤ e → e ≤ p + 2 → (e ≡ p + 1) ⊎ (e ≡ p + 2)
near e p low high = elim (cases_eq e (p + 1)) [ inl same ↦ inl same | inr apart ↦ inr (omega arith) ]

-- two halves of a part of degree d, and a class of d + 1 that is put back where they have more than
-- d colours
pub few_halves : (d d₁ d₂ n₁ n₂ r₁ r₂ s : ℕ) → 1 < d → d ≤ d₁ + d₂ → d₁ ≤ (d + 1) / 2 → d₂ ≤ (d + 1) / 2 → AreFew n₁ d₁ r₁ → AreFew n₂ d₂ r₂
    → (d + 1) * s ≤ n₁ + n₂ → (d₁ + d₂ ≤ d → s ≡ 0) → AreFew (n₁ + n₂) d (r₁ + r₂ + s)
few_halves d d₁ d₂ n₁ n₂ r₁ r₂ s high both a_le b_le a b few none = elim (cases_eq (d % 2) 0) [
  | inl even ↦
      let k : ℕ = d / 2 in
      let d_is : 2 * k ≡ d = omega arith in
      let a_is : d₁ ≡ k = omega arith in
      let b_is : d₂ ≡ k = omega arith in
      let s_is : s ≡ 0 = none (omega arith) in
      let e : AreFew (n₁ + n₂) (2 * k) (r₁ + r₂) = few_even k n₁ n₂ r₁ r₂ (subst (λ x. AreFew n₁ x r₁) a_is a) (subst (λ x. AreFew n₂ x r₂) b_is b)
      (omega arith) in
      few_le (n₁ + n₂) d (r₁ + r₂) (r₁ + r₂ + s) (subst (λ x. AreFew (n₁ + n₂) x (r₁ + r₂)) d_is e) (omega arith)
  | inr odd ↦
      let p : ℕ = (d - 3) / 2 in
      let d_is : d ≡ 2 * p + 3 = omega arith in
      few_odd p d d₁ d₂ n₁ n₂ r₁ r₂ s d_is a b (near d₁ p (omega arith) (omega arith)) (near d₂ p (omega arith) (omega arith)) few
]
