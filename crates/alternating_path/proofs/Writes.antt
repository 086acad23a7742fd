-- What a write to a list of optional numbers leaves at each index.
use Rattle.std.proofs.Common.{◌≡◌, ◌≢◌, ℕ, ◌<◌, ◌⊎◌, inl, inr, List, length, set, Option, Some, None, sym, ap, ◌∙◌, subst, get_or-set_same, get_or-set_other}
use Rattle.std.proofs.lemmas.List.{get_or_past}
use Rattle.std.proofs.lemmas.Bool.{cases_eq, cases_lt}
use Rattle.alternating_path.specs.Colouring.{colour_at}

pub differs : (f : List (Option ℕ)) (u v c : ℕ) → colour_at f u ≡ Some c → colour_at f v ≡ None → u ≢ v
differs f u v c at out same = let e : colour_at f u ≡ colour_at f v = ap (colour_at f) same in cc

-- what a write leaves at a transfer
pub at_written : (f : List (Option ℕ)) (w u : ℕ) (v : Option ℕ) → w < length f → ((u ≡ w) × (colour_at (set f w v) u ≡ v))
    ⊎ ((u ≢ w) × (colour_at (set f w v) u ≡ colour_at f u))
at_written f w u v within = elim (cases_eq u w) [
  | inl same ↦ inl (same, subst (λ x. colour_at (set f w v) x ≡ v) (sym same) (get_or-set_same f w v None within))
  | inr apart ↦ inr (apart, get_or-set_other f w u v None apart)
]

pub some_within : (f : List (Option ℕ)) (u c : ℕ) → colour_at f u ≡ Some c → u < length f
some_within f u c at = elim (cases_lt u (length f)) [
  | inl within ↦ within
  | inr past ↦ let e = get_or_past f u None past in cc
]

-- what stays placed once w is taken out
pub after_take : (f : List (Option ℕ)) (w u c : ℕ) → w < length f → colour_at (set f w None) u ≡ Some c → (u ≢ w) × (colour_at f u ≡ Some c)
after_take f w u c within at = elim (at_written f w u None within) [
  | inl is ↦ cc
  | inr other ↦ (other.0, sym other.1 ∙ at)
]

-- a colour of the table after t is put in
pub after_put : (f : List (Option ℕ)) (x u c d : ℕ) → x < length f → colour_at (set f x (Some c)) u ≡ Some d → ((u ≡ x) × (c ≡ d))
    ⊎ ((u ≢ x) × (colour_at f u ≡ Some d))
after_put f x u c d within at = elim (at_written f x u (Some c) within) [
  | inl is ↦ inl (is.0, cc)
  | inr other ↦ inr (other.0, sym other.1 ∙ at)
]
