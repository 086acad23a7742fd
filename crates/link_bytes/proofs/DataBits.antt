-- The bits of a byte, one by one.
use Rattle.std.proofs.Common.{◌≡◌, ◌<◌, ◌≤◌, ◌+◌, ◌*◌, ◌%◌, ◌^◌, ◌==◌, ℕ, Bool, true, false, [], ◌∷◌, ◌++◌, length, get_or, take, refl, sym, ap, ◌∙◌, arith, bit_or, w8, eq-eqb, ne_eqb}
use Rattle.std.specs.Int.{bit_at}
use Rattle.std.proofs.lemmas.Nat.{or_lt, pow_below}
use Rattle.std.proofs.lemmas.Bool.Decides.{nat_tests}
use Rattle.std.proofs.lemmas.Nat.Bits.{bit_at_set_same, bit_at_set_other, bit_at_above, bit_at-lt, same_from_bits_below}
use Rattle.std.proofs.lemmas.List.FromFn.{length-map-range_with_len, take-map-range_with_len, get_or-map-range_with_len, map-range_with_len_more, fill_by_all}
use Rattle.link_bytes.specs.declared.packet.TheConstants.{DATA_BITS}
use Rattle.link_bytes.specs.Line.{low_bits, data_bits}

length-low_bits : (n count : ℕ) → length (low_bits n count) ≡ count
length-low_bits n count = length-map-range_with_len (λ k. bit_at n k == 1) 0 count

get_or-low_bits : (n count k : ℕ) → k < count → get_or (low_bits n count) k false ≡ (bit_at n k == 1)
get_or-low_bits n count k h = get_or-map-range_with_len (λ i. bit_at n i == 1) 0 count k k false h (omega arith)

-- numbers with the same low bits
same_low_bits : (m n count : ℕ) → ((k : ℕ) → k < count → bit_at m k ≡ bit_at n k) → low_bits m count ≡ low_bits n count
same_low_bits m n count same =
    fill_by_all (λ k. bit_at n k == 1) (low_bits m count) count false (length-low_bits m count)
    (λ k h. get_or-low_bits m count k h ∙ ap (λ b. b == 1) (same k h))

-- one more bit
low_bits_more : (n count : ℕ) (b : Bool) → (bit_at n count == 1) ≡ b → low_bits n (count + 1) ≡ low_bits n count ++ b ∷ []
low_bits_more n count b e = map-range_with_len_more (λ k. bit_at n k == 1) 0 count count (omega arith) ∙ ap (λ c. low_bits n count ++ c ∷ []) e

pub low_bits_set : (n count : ℕ) → count < DATA_BITS → low_bits (bit_or n (1 * 2 ^ count % 2 ^ 8)) (count + 1) ≡ low_bits n count ++ true ∷ []
low_bits_set n count h =
    low_bits_more _ count true (eq-eqb _ 1 (bit_at_set_same w8 n count h))
    ∙ ap (λ bits. bits ++ true ∷ []) (same_low_bits _ n count (λ k l. bit_at_set_other w8 n count h k (omega arith)))

pub low_bits_clear : (n count : ℕ) → n < 2 ^ count → low_bits n (count + 1) ≡ low_bits n count ++ false ∷ []
low_bits_clear n count h = low_bits_more n count false (ne_eqb _ 1 (let z = bit_at_above n count count h (omega arith) in omega arith))

pub data_bits-is : (b : ℕ) → data_bits b ≡ low_bits b DATA_BITS
unfolding data_bits
data_bits-is b = refl

pub length-data_bits : (b : ℕ) → length (data_bits b) ≡ DATA_BITS
length-data_bits b = ap length (data_bits-is b) ∙ length-low_bits b DATA_BITS

pub take-data_bits : (b count : ℕ) → count ≤ DATA_BITS → take count (data_bits b) ≡ low_bits b count
take-data_bits b count h = ap (take count) (data_bits-is b) ∙ take-map-range_with_len (λ k. bit_at b k == 1) 0 DATA_BITS count h

pub bit_or_range : (n count : ℕ) → count < DATA_BITS → n < 2 ^ count → bit_or n (1 * 2 ^ count % 2 ^ 8) < 2 ^ (count + 1)
bit_or_range n count h l =
    let below : 2 ^ count < 2 ^ 8 = pow_below count 8 h in
    let wider : 2 ^ count < 2 ^ (count + 1) = pow_below count (count + 1) (omega arith) in
    let same : 1 * 2 ^ count % 2 ^ 8 ≡ 2 ^ count = omega arith in
    rw same (or_lt (count + 1) n (2 ^ count) (omega arith) wider)

-- a bit is 1 or 0
same_bit : (a b : ℕ) → a < 2 → b < 2 → (a == 1) ≡ (b == 1) → a ≡ b
same_bit a b h l e = grind (arith, nat_tests)

-- a byte is known by its data bits
pub data_bits-same : (a b : ℕ) → a < 2 ^ DATA_BITS → b < 2 ^ DATA_BITS → data_bits a ≡ data_bits b → a ≡ b
data_bits-same a b h l e =
    let low : low_bits a DATA_BITS ≡ low_bits b DATA_BITS = sym (data_bits-is a) ∙ e ∙ data_bits-is b in
    same_from_bits_below DATA_BITS a b h l
    (λ k m. same_bit (bit_at a k) (bit_at b k) (bit_at-lt a k) (bit_at-lt b k)
    (sym (get_or-low_bits a DATA_BITS k m) ∙ ap (λ bits. get_or bits k false) low ∙ get_or-low_bits b DATA_BITS k m))
