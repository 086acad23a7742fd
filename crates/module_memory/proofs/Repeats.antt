-- Places that have come, by a flag for each block of the widest shape.
use Rattle.std.proofs.Common.{ℕ, zero, suc, replicate, ◌≡◌, ◌<◌, ◌+◌, inl, inr, Bool, true, false, List, length, get_or, set, refl, sym, ap, ◌∙◌, subst, arith, get_or-set_same, get_or-set_other}
use Rattle.std.proofs.lemmas.Bool.{cases_eq}
use Rattle.batch.specs.ShapeView.{widest}
use Rattle.batch.specs.declared.transfer.Place.{Place}
use Rattle.batch.specs.Places.{place_index}
use Rattle.module_memory.specs.Lending.{place_in, DifferBefore}

-- the index of the place at a position
abbrev pub index_in : List Place → ℕ → ℕ
index_in places i = place_index widest (place_in places i)

-- the flags of just the places before a position are up, and these are different
pub record HaveCome (places : List Place) (i : ℕ) (taken : List Bool) : Type 0 where
  pub only : (n : ℕ) → get_or taken n false ≡ true → (k : ℕ) × (k < i) × (index_in places k ≡ n)
  pub all : (k : ℕ) → k < i → get_or taken (index_in places k) false ≡ true
  pub differ : DifferBefore places i

pub none_up : (n k : ℕ) → get_or (replicate n false) k false ≡ false
none_up zero k = refl
none_up (suc n) zero = refl
none_up (suc n) (suc k) = none_up n k

pub none_come : (places : List Place) (n : ℕ) → HaveCome places 0 (replicate n false)
none_come places n = record {
  only = λ k up. let down = none_up n k in absurd cc;
  all = λ k l. absurd (omega (arith, l));
  differ = λ j k l m. absurd (omega (arith, m));
}

pub one_more : (places : List Place) (i : ℕ) (taken : List Bool) (at : ℕ) → at ≡ index_in places i → at < length taken → get_or taken at false ≡ false
    → HaveCome places i taken → HaveCome places (i + 1) (set taken at true)
one_more places i taken at e l down h = record {
  only = λ n up. elim (cases_eq n at) [
    | inl same ↦ (i, omega arith, sym e ∙ sym same)
    | inr other ↦ let w = h.only n (sym (get_or-set_other taken at n true false other) ∙ up) in (w.0, omega (arith, w.1), w.2)
  ];
  all = λ k below. elim (cases_eq (index_in places k) at) [
    | inl same ↦ subst (λ (n : ℕ). get_or (set taken at true) n false ≡ true) (sym same) (get_or-set_same taken at true false l)
    | inr other ↦ get_or-set_other taken at (index_in places k) true false other ∙ elim (cases_eq k i) [
      | inl here ↦ absurd (other (ap (index_in places) here ∙ sym e))
      | inr before ↦ h.all k (omega (arith, below, before))
    ]
  ];
  differ = λ j k l m same. elim (cases_eq k i) [
    | inl here ↦
        let up : get_or taken at false ≡ true = subst (λ (n : ℕ). get_or taken n false ≡ true) (ap (place_index widest) (same ∙ ap (place_in places) here)
        ∙ sym e) (h.all j (omega (arith, l, here))) in
        absurd cc
    | inr before ↦ h.differ j k l (omega (arith, m, before)) same
  ];
}
