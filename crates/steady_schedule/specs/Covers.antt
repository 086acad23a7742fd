-- Links that have partners, or are free.
use Rattle.std.specs.Prelude.{◌≡◌, ℕ, ◌<◌, List, Option, None, IsSome, true, slice_index}
use Rattle.link_graph.specs.Masks.{has_bit}
use Rattle.steady_schedule.specs.Matchings.{partner}

-- no link in the mask has a partner
abbrev pub AreFree : List (Option ℕ) → ℕ → Type 0
AreFree partners mask = (x : ℕ) → has_bit mask x ≡ true → partner partners x ≡ None

-- each of the first n links that has so many transfers has a partner
abbrev pub AreCovered : List ℕ → ℕ → ℕ → List (Option ℕ) → Type 0
AreCovered uses most n of = (x : ℕ) → x < n → slice_index uses x ≡ most → IsSome (partner of x)

-- whoever had a partner has one
abbrev pub KeepsPartners : List (Option ℕ) → List (Option ℕ) → Type 0
KeepsPartners old new = (x : ℕ) → IsSome (partner old x) → IsSome (partner new x)
