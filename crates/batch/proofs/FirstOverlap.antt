-- The first pair of transfers that overlap.
use Rattle.std.proofs.Common.{ℕ, ◌≡◌, ◌≢◌, ◌<◌, ◌≤◌, zero, suc, ◌-◌, List, length, get_or, set, replicate, Option, None, Some, MatchOption, inl, inr, subst, sym, ap, ◌∙◌, arith, get_or-set_same}
use Rattle.std.proofs.Common.{get_or-set_other}
use Rattle.std.proofs.lemmas.Bool.{cases_lt, cases_eq}
use Rattle.std.proofs.lemmas.List.{get_or-replicate}
use Rattle.batch.specs.declared.transfer.Transfer.{Transfer}
use Rattle.batch.specs.declared.transfer.Place.{Place}
use Rattle.batch.specs.declared.limits.TheConstants.{MAX_RACK_BLOCKS}
use Rattle.batch.specs.ShapeView.{widest}
use Rattle.batch.specs.Places.{HasPlace, place_index}
use Rattle.batch.specs.Overlap.{destination_at, Overlap, IsApart, IsPairUpTo, IsFirstOverlap}
use Rattle.batch.proofs.Places.{place_index_below, same_place_from_index}

-- where no pair is the first that overlaps, no pair overlaps whose first number is below a bound
module _ (ts : List Transfer) (none : (i j : ℕ) → IsFirstOverlap ts i j → ⊥) where
  -- the pairs with a lesser first number don't overlap, nor do those of this first number with a
  -- second one below a bound
  none_at : (i : ℕ) → ((k l : ℕ) → k < i → Overlap ts k l → ⊥) → (m j : ℕ) → j < m → Overlap ts i j → ⊥
  none_at i before zero j lt both = omega arith
  none_at i before (suc m) j lt both =
      none i j (record {
        overlap = both;
        first = λ k l other. elim (cases_lt k i) [
          | inl less ↦ absurd (before k l less other)
          | inr more ↦ elim (cases_eq i k) [
            | inl same ↦ elim (cases_lt l j) [
              | inl less ↦ absurd (none_at i before m l (omega arith) (subst (λ (x : ℕ). Overlap ts x l) (sym same) other))
              | inr up ↦ inr (same, up)
            ]
            | inr differ ↦ inl (omega arith)
          ]
        ];
      })

  none_below : (n i j : ℕ) → i < n → Overlap ts i j → ⊥
  none_below zero i j lt both = omega arith
  none_below (suc n) i j lt both = none_at i (λ k l less other. none_below n k l (omega arith) other) (suc j) j (omega arith) both

  pub none_overlap : IsApart ts
  none_overlap i j both = none_below (suc i) i j (omega arith) both

-- two pairs neither of which is after the other are one
same_pair : (i j k l : ℕ) → IsPairUpTo i j k l → IsPairUpTo k l i j → (i ≡ k) × (j ≡ l)
same_pair i j k l (inl a) (inl b) = absurd (omega arith)
same_pair i j k l (inl a) (inr b) = absurd (omega (arith, b.0))
same_pair i j k l (inr a) (inl b) = absurd (omega (arith, a.0))
same_pair i j k l (inr a) (inr b) = (a.0, omega (arith, a.1, b.1))

pub one_first : (ts : List Transfer) (i j k l : ℕ) → IsFirstOverlap ts i j → IsFirstOverlap ts k l → (i ≡ k) × (j ≡ l)
one_first ts i j k l a b = same_pair i j k l (a.first k l b.overlap) (b.first i j a.overlap)

-- ---- from the last transfer to the first

-- transfer j is the first from a number on that writes the block
pub record IsNext (ts : List Transfer) (n : ℕ) (p : Place) (j : ℕ) : Type 0 where
  pub from : n ≤ j
  pub within : j < length ts
  pub writes : destination_at ts j ≡ p
  pub least : (k : ℕ) → n ≤ k → k < length ts → destination_at ts k ≡ p → j ≤ k

-- the first transfer from a number on that writes the block, where there is one
abbrev pub IsNextWriter : List Transfer → ℕ → Place → Option ℕ → Type 0
IsNextWriter ts n p next = MatchOption next ((k : ℕ) → n ≤ k → k < length ts → destination_at ts k ≢ p) (IsNext ts n p)

-- a table has the next transfer from a number on of each block
abbrev pub AreNextWriters : List Transfer → ℕ → List (Option ℕ) → Type 0
AreNextWriters ts n next = (p : Place) → HasPlace widest p → IsNextWriter ts n p (get_or next (place_index widest p) None)

-- the first pair that overlaps, of those whose first number isn't below a bound, where there is one
abbrev pub IsFirstFrom : List Transfer → ℕ → Option (ℕ × ℕ) → Type 0
IsFirstFrom ts n first =
    MatchOption first ((i j : ℕ) → n ≤ i → Overlap ts i j → ⊥)
    (λ pair. Overlap ts pair.0 pair.1 × ((k l : ℕ) → n ≤ k → Overlap ts k l → IsPairUpTo pair.0 pair.1 k l))

-- beyond the last transfer
pub none_next : (ts : List Transfer) → AreNextWriters ts (length ts) (replicate MAX_RACK_BLOCKS None)
none_next ts p hp =
    subst (IsNextWriter ts (length ts) p) (sym (get_or-replicate MAX_RACK_BLOCKS (place_index widest p) None None (place_index_below widest p hp)))
    (λ k l m e. absurd (omega arith))

-- one more transfer, in front of them
module _ (ts : List Transfer) (i : ℕ) (some : 0 < i) where
  behind : (k : ℕ) → i - 1 ≤ k → (k ≡ i - 1 → ⊥) → i ≤ k
  behind k l other = omega arith

  next_kept : (p : Place) (next : Option ℕ) → destination_at ts (i - 1) ≢ p → IsNextWriter ts i p next → IsNextWriter ts (i - 1) p next
  next_kept p None other h = λ k l m e. h k (behind k l (λ f. other (ap (destination_at ts) (sym f) ∙ e))) m e
  next_kept p (Some j) other h = record {
    from = omega (arith, h.from);
    within = h.within;
    writes = h.writes;
    least = λ k l m e. h.least k (behind k l (λ f. other (ap (destination_at ts) (sym f) ∙ e))) m e;
  }

  pub next_more : (next : List (Option ℕ)) (k : ℕ) (p : Place) → i ≤ length ts → k ≡ place_index widest p → p ≡ destination_at ts (i - 1) → HasPlace widest p
      → k < length next → AreNextWriters ts i next → AreNextWriters ts (i - 1) (set next k (Some (i - 1)))
  next_more next k p up at e hp l h = λ q hq. elim (cases_eq (place_index widest q) k) [
    | inl same ↦
        let one : q ≡ p = same_place_from_index widest q p hq hp (same ∙ at) in
        subst (IsNextWriter ts (i - 1) q) (sym (ap (λ (x : ℕ). get_or (set next k (Some (i - 1))) x None) same ∙ get_or-set_same next k (Some (i - 1)) None l))
        (record { from = omega arith; within = omega arith; writes = sym e ∙ sym one; least = λ m n o f. n })
    | inr other ↦
        subst (IsNextWriter ts (i - 1) q) (sym (get_or-set_other next k (place_index widest q) (Some (i - 1)) None other))
        (next_kept q (get_or next (place_index widest q) None) (λ f. other (ap (place_index widest) (sym f ∙ sym e) ∙ sym at)) (h q hq))
  ]

  -- no transfer after it overlaps with it
  first_kept : (first : Option (ℕ × ℕ)) → ((l : ℕ) → Overlap ts (i - 1) l → ⊥) → IsFirstFrom ts i first → IsFirstFrom ts (i - 1) first
  first_kept None none h = λ k l m o. h k l (behind k m (λ f. none l (subst (λ (x : ℕ). Overlap ts x l) f o))) o
  first_kept (Some pair) none h = (h.0, λ k l m o. h.1 k l (behind k m (λ f. none l (subst (λ (x : ℕ). Overlap ts x l) f o))) o)

  pub first_alone : (first : Option (ℕ × ℕ)) (p : Place) → p ≡ destination_at ts (i - 1) → IsNextWriter ts i p None → IsFirstFrom ts i first
      → IsFirstFrom ts (i - 1) first
  first_alone first p e h = first_kept first (λ l o. h l (omega (arith, o.ordered)) o.within (sym o.one_destination ∙ sym e))

  -- it overlaps with a transfer after it
  pub first_more : (j : ℕ) (p : Place) → p ≡ destination_at ts (i - 1) → IsNext ts i p j → IsFirstFrom ts (i - 1) (Some (i - 1, j))
  first_more j p e h = (
    record { ordered = omega (arith, h.from); within = h.within; one_destination = sym e ∙ sym h.writes },
    λ k l m o. elim (cases_eq k (i - 1)) [
      | inl f ↦ inr (sym f, h.least l (omega (arith, o.ordered)) o.within (sym o.one_destination ∙ ap (destination_at ts) f ∙ sym e))
      | inr f ↦ inl (omega arith)
    ],
  )
