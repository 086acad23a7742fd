-- Bits of masks, and what a bit counts.
use Rattle.std.proofs.Common.{◌≡◌, ◌==◌, ℕ, ◌^◌, ◌<◌, true, not, cond, arith, List, get_or, replicate, Bool, false}
use Rattle.std.specs.Int.Bits.{xor_add_and}
use Rattle.std.specs.Int.RustNames.{bit_xor}
use Rattle.std.proofs.lemmas.Bool.Decides.{nat_tests}
use Rattle.std.proofs.lemmas.Nat.Bits.{bit_at_xor, bit_at-pow_same, bit_at-pow_other, bit_at-lt, and_pow, bit_at-zero}
use Rattle.std.proofs.lemmas.Grind.{elements}
use Rattle.std.proofs.lemmas.List.{get_or_past}
use Rattle.link_graph.specs.Masks.{has_bit, has_pair}

pub bit_toggled : (n k i : ℕ) → has_bit (bit_xor n (2 ^ k)) i ≡ cond (k == i) (not (has_bit n i)) (has_bit n i)
bit_toggled n k i = grind (arith, nat_tests, bit_at_xor n (2 ^ k) i, bit_at-pow_same k, bit_at-pow_other k i, bit_at-lt n i)

pub toggled_less : (n k : ℕ) → has_bit n k ≡ true → bit_xor n (2 ^ k) < n
toggled_less n k had = grind (arith, nat_tests, xor_add_and n (2 ^ k), and_pow n k)

-- no pair where a mask is empty
pub empty_mask : (masks : List ℕ) (u v : ℕ) → get_or masks u 0 ≡ 0 → has_pair masks u v ≡ false
empty_mask masks u v empty = grind (arith, bit_at-zero v)

pub no_pair : (n u v : ℕ) → has_pair (replicate n 0) u v ≡ false
no_pair n u v = empty_mask (replicate n 0) u v (grind (arith, elements, get_or_past {X = ℕ} (replicate n 0) u 0))

-- whether it counts
abbrev pub bit : Bool → ℕ
bit b = cond b 1 0
