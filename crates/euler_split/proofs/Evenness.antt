-- Pairs of links whose numbers of transfers are even, and the bits of these numbers.
use Rattle.std.proofs.Common.{◌≡◌, ◌==◌, ℕ, ◌+◌, ◌*◌, ◌%◌, ◌<◌, ◌≤◌, ◌⊎◌, inl, inr, List, [], ◌∷◌, length, get_or, slice_index, set, take, replicate, All, true, false, ◌&&◌, cond, refl, sym, ap, ◌∙◌}
use Rattle.std.proofs.Common.{arith, below_more, bit_or, get_or-set_same, get_or-set_other, length-set, w16, eq-eqb, ◌^◌, ◌/◌}
use Rattle.std.specs.Int.{bit_at, trailing_zeros}
use Rattle.std.proofs.lemmas.Bool.{cases_lt, ne_eqb}
use Rattle.std.proofs.lemmas.Bool.Decides.{eqb_tells}
use Rattle.std.proofs.lemmas.List.Elements.{All-head, All-tail}
use Rattle.std.proofs.lemmas.List.{take_more, get_or-replicate, length-replicate}
use Rattle.std.proofs.lemmas.List.Sums.{sum_by_push, sum_by-cons}
use Rattle.std.proofs.lemmas.Nat.Bits.{bit_at_or, bit_at-zero, same_from_bits, bit_at-trailing_zeros}
use Rattle.batch.specs.declared.limits.TheConstants.{MAX_MODULES}
use Rattle.batch.specs.declared.transfer.Transfer.{Transfer}
use Rattle.batch.specs.Batches.{IsBatch}
use Rattle.link_graph.specs.declared.link.End.TheVariants.{Zero, Three}
use Rattle.link_graph.proofs.Masks.{bit}
use Rattle.euler_split.specs.Pairs.{module_in}
use Rattle.euler_split.specs.Evenness.{uses_pair, pair_count, ArePairCounts, HasBits, CanBeHalved}
use Rattle.euler_split.proofs.Modules.{module_in_low}

-- ---- the numbers of all pairs, in one list

pub none_counted : (batch : List Transfer) → ArePairCounts batch [] (replicate (MAX_MODULES * MAX_MODULES) 0)
none_counted batch = record {
  places = length-replicate {A = ℕ} (MAX_MODULES * MAX_MODULES) 0;
  at = λ u v u_in v_in. get_or-replicate (MAX_MODULES * MAX_MODULES) (u * MAX_MODULES + v) 0 0 (omega (arith, u_in, v_in));
}

module _ (batch : List Transfer) (whole counts : List ℕ) (n a b : ℕ) (n_in : n < length whole) (so_far : ArePairCounts batch (take n whole) counts)
    (a_in : a < MAX_MODULES) (b_in : b < MAX_MODULES) (zero_is : a ≡ module_in batch Zero (get_or whole n 0))
    (three_is : b ≡ module_in batch Three (get_or whole n 0)) where
  abbrev t : ℕ
  t = get_or whole n 0

  abbrev place : ℕ
  place = a * MAX_MODULES + b

  abbrev now : List ℕ
  now = set counts place (slice_index counts place + 1)

  one_more : (u v : ℕ) → pair_count batch (take (n + 1) whole) u v ≡ pair_count batch (take n whole) u v + bit (uses_pair batch u v t)
  one_more u v = rw (take_more whole n 0 n_in) (omega (arith, sum_by_push (λ y. cond (uses_pair batch u v y) 1 0) (take n whole) t))

  pub counted_more : ArePairCounts batch (take (n + 1) whole) now
  counted_more = record {
    places = length-set counts place (slice_index counts place + 1) ∙ so_far.places;
    at = λ u v u_in v_in.
        let old = so_far.at u v u_in v_in in
        elim (eqb_tells (module_in batch Zero t) u) [
          | inl p ↦ elim (eqb_tells (module_in batch Three t) v) [
            | inl q ↦
                let here : u * MAX_MODULES + v ≡ place = omega (arith, p.1, q.1, zero_is, three_is) in
                let found : bit (uses_pair batch u v t) ≡ 1 = rw (p.0, q.0) refl in
                omega (
                  arith,
                  one_more u v,
                  found,
                  old,
                  ap (λ (i : ℕ). slice_index counts i) here,
                  ap (λ (i : ℕ). get_or now i 0) here,
                  get_or-set_same counts place (slice_index counts place + 1) 0 (omega (arith, so_far.places, a_in, b_in)),
                )
            | inr q ↦
                let found : bit (uses_pair batch u v t) ≡ 0 = rw (p.0, q.0) refl in
                omega (
                  arith,
                  one_more u v,
                  found,
                  old,
                  get_or-set_other counts place (u * MAX_MODULES + v) (slice_index counts place + 1) 0
                      (λ same. q.1 (omega (arith, same, p.1, zero_is, three_is))),
                )
          ]
          | inr p ↦
              let found : bit (uses_pair batch u v t) ≡ 0 = rw p.0 refl in
              omega (
                arith,
                one_more u v,
                found,
                old,
                get_or-set_other counts place (u * MAX_MODULES + v) (slice_index counts place + 1) 0
                    (λ same. p.1 (omega (arith, same, u_in, v_in, a_in, b_in, zero_is))),
              )
        ];
  }

-- ---- the bits of some numbers in one

pub no_bits : (counts : List ℕ) → HasBits counts 0 0
no_bits counts i = (λ _ k lt. absurd (omega arith), λ _. bit_at-zero i)

pub more_bits : (counts : List ℕ) (bits n : ℕ) → HasBits counts n bits → HasBits counts (n + 1) (bit_or bits (slice_index counts n))
more_bits counts bits n h i =
    let is = bit_at_or bits (slice_index counts n) i in (
      λ none. below_more _ _ ((h i).0 (omega (arith, is, none))) (omega (arith, is, none)),
      λ each. omega (arith, is, (h i).1 (λ k lt. each k (omega arith)), each n (omega arith)),
    )

-- ---- how often they can be halved

-- no transfer is of a module that no rack has
none_past : (batch : List Transfer) (ts : List ℕ) (u v : ℕ) → IsBatch batch → All (λ t. t < length batch) ts → (MAX_MODULES ≤ u) ⊎ (MAX_MODULES ≤ v)
    → pair_count batch ts u v ≡ 0
none_past batch [] u v fits known past = refl
none_past batch (t ∷ ts) u v fits known past =
    let t_in : t < length batch = All-head (λ x. x < length batch) t ts known in
    let away : uses_pair batch u v t ≡ false = elim past [
      | inl far ↦ rw (ne_eqb (module_in batch Zero t) u (λ e. omega (arith, e, far, module_in_low batch Zero t fits t_in))) refl
      | inr far ↦ rw (ne_eqb (module_in batch Three t) v (λ e. omega (arith, e, far, module_in_low batch Three t fits t_in)))
          (elim (module_in batch Zero t == u) as (λ b. (b && false) ≡ false) [ true ↦ refl | false ↦ refl ])
    ] in
    omega (
      arith,
      sum_by-cons (λ y. bit (uses_pair batch u v y)) t ts,
      ap bit away,
      none_past batch ts u v fits (All-tail (λ x. x < length batch) t ts known)
          past,
    )

none_without_pairs : (batch : List Transfer) (ts : List ℕ) → ((u v : ℕ) → pair_count batch ts u v ≡ 0) → ts ≡ []
none_without_pairs batch [] none = refl
none_without_pairs batch (t ∷ ts) none =
    let here : uses_pair batch (module_in batch Zero t) (module_in batch Three t) t ≡ true =
    rw (eq-eqb (module_in batch Zero t) (module_in batch Zero t) refl, eq-eqb (module_in batch Three t) (module_in batch Three t) refl) refl in
    absurd (omega (
      arith,
      sum_by-cons (λ y. bit (uses_pair batch (module_in batch Zero t) (module_in batch Three t) y)) t ts,
      ap bit here,
      none (module_in batch Zero t) (module_in batch Three t),
    ))

module _ (batch : List Transfer) (ts counts : List ℕ) (bits : ℕ) (fits : IsBatch batch) (known : All (λ t. t < length batch) ts)
    (counted : ArePairCounts batch ts counts) (has : HasBits counts (length counts) bits) where
  bits_below : (u v i : ℕ) → bit_at bits i ≡ 0 → bit_at (pair_count batch ts u v) i ≡ 0
  bits_below u v i none = elim (cases_lt u MAX_MODULES) [
    | inr far ↦ ap (λ (n : ℕ). bit_at n i) (none_past batch ts u v fits known (inl far)) ∙ bit_at-zero i
    | inl u_in ↦ elim (cases_lt v MAX_MODULES) [
      | inr far ↦ ap (λ (n : ℕ). bit_at n i) (none_past batch ts u v fits known (inr far)) ∙ bit_at-zero i
      | inl v_in ↦ ap (λ (n : ℕ). bit_at n i) (sym (counted.at u v u_in v_in)) ∙ (has i).0 none (u * MAX_MODULES + v)
          (omega (arith, counted.places, u_in, v_in))
    ]
  ]

  bits_above : (i : ℕ) → ((u v : ℕ) → bit_at (pair_count batch ts u v) i ≡ 0) → bit_at bits i ≡ 0
  bits_above i none = (has i).1 (λ k k_in.
      let u : ℕ = k / MAX_MODULES in
      let v : ℕ = k % MAX_MODULES in
      let place : u * MAX_MODULES + v ≡ k = omega arith in
      ap (λ (j : ℕ). bit_at (slice_index counts j) i) (sym place)
      ∙ (ap (λ (n : ℕ). bit_at n i) (counted.at u v (omega (arith, counted.places, k_in)) (omega arith)) ∙ none u v))

  pub halved_by_bits : 0 < bits → bits < 2 ^ 16 → CanBeHalved batch ts (trailing_zeros w16 bits)
  halved_by_bits some small u v i lt = bits_below u v i ((bit_at-trailing_zeros w16 bits some small).2 i lt)

  pub most_by_bits : 0 < bits → bits < 2 ^ 16 → (times : ℕ) → CanBeHalved batch ts times → times ≤ trailing_zeros w16 bits
  most_by_bits some small times even = elim (cases_lt (trailing_zeros w16 bits) times) [
    | inr le ↦ le
    | inl lt ↦ absurd
        (omega (arith, bits_above (trailing_zeros w16 bits) (λ u v. even u v (trailing_zeros w16 bits) lt), (bit_at-trailing_zeros w16 bits some small).1))
  ]

  pub none_by_bits : bits ≡ 0 → ts ≡ []
  none_by_bits none =
      let zero_at : (u v : ℕ) → pair_count batch ts u v ≡ 0 = λ u v. same_from_bits (pair_count batch ts u v) 0
      (λ i. bits_below u v i (ap (λ (n : ℕ). bit_at n i) none ∙ bit_at-zero i) ∙ sym (bit_at-zero i)) in
      none_without_pairs batch ts zero_at

  pub bits_of_none : ts ≡ [] → bits ≡ 0
  bits_of_none empty = same_from_bits bits 0 (λ i. bits_above i (λ u v. ap (λ (xs : List ℕ). bit_at (pair_count batch xs u v) i) empty ∙ bit_at-zero i)
      ∙ sym (bit_at-zero i))
