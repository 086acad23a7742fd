-- Bits of masks.
use Rattle.std.proofs.Common.{◌≡◌, ◌==◌, ℕ, ◌-◌, ◌^◌, ◌<◌, List, length, get_or, set, ◌&&◌, ◌||◌, subst, sym, ap, ◌∙◌, inl, inr, get_or-set_same, get_or-set_other, arith}
use Rattle.std.specs.Int.{bit_at}
use Rattle.std.specs.Int.Count.{count_leading_zeros}
use Rattle.std.specs.Int.RustNames.{bit_or}
use Rattle.std.proofs.lemmas.Bool.Decides.{nat_tests, eqb_tells}
use Rattle.std.proofs.Math.Nat.{pow-suc, le-div_iff_mul-le, div-lt_iff_lt-mul}
use Rattle.std.proofs.lemmas.Nat.{pow_pos, leading_top}
use Rattle.std.proofs.lemmas.Nat.Bits.{bit_at_or, bit_at-pow_same, bit_at-pow_other, bit_at-lt}
use Rattle.link_graph.specs.Masks.{has_bit, has_pair}

pub bit_added : (n k i : ℕ) → has_bit (bit_or n (2 ^ k)) i ≡ (has_bit n i || k == i)
bit_added n k i = grind (arith, nat_tests, bit_at_or n (2 ^ k) i, bit_at-pow_same k, bit_at-pow_other k i, bit_at-lt n i)

pub pair_added : (masks : List ℕ) (at k u m : ℕ) → at < length masks → has_pair (set masks at (bit_or (get_or masks at 0) (2 ^ k))) u m
    ≡ (has_pair masks u m || (at == u && k == m))
pair_added masks at k u m at_in = elim (eqb_tells at u) [
  | inl p ↦
      let here : get_or (set masks at (bit_or (get_or masks at 0) (2 ^ k))) u 0 ≡ bit_or (get_or masks u 0) (2 ^ k) =
      subst (λ (w : ℕ). get_or (set masks at (bit_or (get_or masks at 0) (2 ^ k))) w 0 ≡ bit_or (get_or masks w 0) (2 ^ k)) p.1
      (get_or-set_same masks at (bit_or (get_or masks at 0) (2 ^ k)) 0 at_in) in
      rw (here, p.0) (bit_added (get_or masks u 0) k m)
  | inr p ↦
      let other = get_or-set_other masks at u (bit_or (get_or masks at 0) (2 ^ k)) 0 (λ e. p.1 (sym e)) in
      rw (other, p.0) (grind (arith, nat_tests))
]

-- the place of the highest bit of a number that has any
pub highest_bit : (k n : ℕ) → 0 < n → n < 2 ^ k → bit_at n (k - 1 - count_leading_zeros k n) ≡ 1
highest_bit k n some few =
    let top = leading_top k n some few in
    let place : k - 1 - count_leading_zeros k n ≡ top.0 = omega (arith, top.1) in
    let room = pow_pos top.0 in
    let least = (le-div_iff_mul-le {x = 1} {y = n} room).1 (omega (arith, top.2)) in
    let most = (div-lt_iff_lt-mul {x = n} {y = 2} room).1 (omega (arith, top.3, pow-suc 2 top.0)) in
    ap (bit_at n) place ∙ (omega (arith, least, most))
