-- Flags for the blocks that transfers write.
use Rattle.std.proofs.Common.{ℕ, zero, suc, replicate, ◌≡◌, ◌<◌, ◌+◌, ◌⊎◌, inl, inr, ◌↔◌, Bool, true, false, List, length, get_or, set, refl, sym, ap, ◌∙◌, subst, arith, get_or-set_same}
use Rattle.std.proofs.Common.{get_or-set_other}
use Rattle.std.proofs.lemmas.Bool.{cases_eq}
use Rattle.batch.specs.ShapeView.{widest}
use Rattle.batch.specs.declared.transfer.Place.{Place}
use Rattle.batch.specs.declared.transfer.Transfer.{Transfer}
use Rattle.batch.specs.Places.{HasPlace, place_index}
use Rattle.batch.specs.Overlap.{destination_at}
use Rattle.batch.specs.Written.{flag_of}
use Rattle.batch.proofs.Places.{same_place_from_index}

-- one of the transfers below a number writes the block
abbrev pub IsWrittenBelow : List Transfer → ℕ → Place → Type 0
IsWrittenBelow ts n p = (i : ℕ) × (i < n) × (destination_at ts i ≡ p)

-- the flags of just the blocks that these write are up
abbrev pub AreUpBelow : List Transfer → ℕ → List Bool → Type 0
AreUpBelow ts n flags = (p : Place) → HasPlace widest p → (flag_of flags p ≡ true) ↔ IsWrittenBelow ts n p

written_more : (ts : List Transfer) (n : ℕ) (flags : List Bool) (p q : Place) → p ≡ destination_at ts n → HasPlace widest p → HasPlace widest q
    → place_index widest p < length flags → AreUpBelow ts n flags
    → (place_index widest q ≡ place_index widest p) ⊎ (place_index widest q ≡ place_index widest p → ⊥)
    → (flag_of (set flags (place_index widest p) true) q ≡ true) ↔ IsWrittenBelow ts (n + 1) q
written_more ts n flags p q e hp hq l h (inl same) = (
  λ up. (n, omega arith, sym e ∙ sym (same_place_from_index widest q p hq hp same)),
  λ w. subst (λ (k : ℕ). get_or (set flags (place_index widest p) true) k false ≡ true) (sym same) (get_or-set_same flags (place_index widest p) true false l),
)
written_more ts n flags p q e hp hq l h (inr other) =
    let kept = get_or-set_other flags (place_index widest p) (place_index widest q) true false other in (
      λ up. let w = (h q hq).0 (sym kept ∙ up) in (w.0, omega (arith, w.1), w.2),
      λ w. elim (cases_eq w.0 n) [
        | inl m ↦ absurd (other (ap (place_index widest) (sym w.2 ∙ ap (destination_at ts) m ∙ sym e)))
        | inr m ↦ kept ∙ (h q hq).1 (w.0, omega (arith, w.1), w.2)
      ],
    )

-- one more transfer
pub up_more : (ts : List Transfer) (n : ℕ) (flags : List Bool) (k : ℕ) (p : Place) → k ≡ place_index widest p → p ≡ destination_at ts n → HasPlace widest p
    → k < length flags → AreUpBelow ts n flags → AreUpBelow ts (n + 1) (set flags k true)
up_more ts n flags k p at e hp l h =
    subst (λ (i : ℕ). AreUpBelow ts (n + 1) (set flags i true)) (sym at)
    (λ q hq. written_more ts n flags p q e hp hq (omega (arith, at)) h (cases_eq (place_index widest q) (place_index widest p)))

-- before any transfer no flag is up
none_up : (n k : ℕ) → get_or (replicate n false) k false ≡ false
none_up zero k = refl
none_up (suc n) zero = refl
none_up (suc n) (suc k) = none_up n k

pub up_none : (ts : List Transfer) (n : ℕ) → AreUpBelow ts 0 (replicate n false)
up_none ts n p hp = (λ up. let down = none_up n (place_index widest p) in absurd cc, λ w. absurd (omega (arith, w.1)))
