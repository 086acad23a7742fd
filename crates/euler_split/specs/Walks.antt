-- Walks from partner to partner, by the two ends in turn, that put places into the two halves in
-- turn.
use Rattle.std.specs.Prelude.{◌≡◌, ℕ, ◌<◌, ◌⊎◌, List, length, Option, Some, None, IsSome, Bool}
use Rattle.std.specs.Prelude.{true, false, not, slice_index_or}
use Rattle.link_graph.specs.declared.link.End.{End}
use Rattle.link_graph.specs.declared.link.End.TheVariants.{Zero, Three}

-- whether it is link 3
abbrev pub is_three : End → Bool
is_three Zero = false
is_three Three = true

-- the partner of a place at an end
abbrev pub partner_at : List (Option ℕ) → List (Option ℕ) → End → ℕ → Option ℕ
partner_at zs ts Zero u = slice_index_or zs u None
partner_at zs ts Three u = slice_index_or ts u None

-- which half a place is in, if it is in one yet
abbrev pub half_at : List (Option Bool) → ℕ → Option Bool
half_at halves u = slice_index_or halves u None

-- v is in the other half than u, where u is in one
pub record AreOpposed (halves : List (Option Bool)) (u v : ℕ) : Type 0 where
  pub opposed : (x : Bool) → half_at halves u ≡ Some x → half_at halves v ≡ Some (not x)

-- A walk began at s by the end `first` and is at the place `at`, to be left by the end e. Where it
-- began by Three, s may still be left by Zero.
pub record IsWalk (zs ts : List (Option ℕ)) (s : ℕ) (first : End) (halves : List (Option Bool))
    (at : ℕ) (e : End) : Type 0 where
  pub start : half_at halves s ≡ Some true
  pub here : (x : Bool) × (half_at halves at ≡ Some x)
  pub turn : first ≡ Three → half_at halves at ≡ Some (is_three e)
  pub met : (u v : ℕ) (o : End) → partner_at zs ts o u ≡ Some v → IsSome (half_at halves u)
      → AreOpposed halves u v ⊎ (((u ≡ at) × (o ≡ e)) ⊎ ((first ≡ Three) × (u ≡ s) × (o ≡ Zero)))

-- each place that is in a half has its partners in the other one, but for what s may have at its
-- end Zero where `first` is Three
pub record IsClosed (zs ts : List (Option ℕ)) (s : ℕ) (first : End)
    (halves : List (Option Bool)) : Type 0 where
  pub met : (u v : ℕ) (o : End) → partner_at zs ts o u ≡ Some v → IsSome (half_at halves u)
      → AreOpposed halves u v ⊎ ((first ≡ Three) × (u ≡ s) × (o ≡ Zero))

-- the places below n are in halves, and each place that is in one has its partners in the other
pub record IsHalved (zs ts : List (Option ℕ)) (n : ℕ) (halves : List (Option Bool)) : Type 0 where
  pub sized : length halves ≡ length zs
  pub done : (u : ℕ) → u < n → IsSome (half_at halves u)
  pub met : (u v : ℕ) (o : End) → partner_at zs ts o u ≡ Some v → IsSome (half_at halves u)
      → AreOpposed halves u v

-- what was in a half stays in it
pub record Keeps (halves now : List (Option Bool)) : Type 0 where
  pub kept : (u : ℕ) (x : Bool) → half_at halves u ≡ Some x → half_at now u ≡ Some x
