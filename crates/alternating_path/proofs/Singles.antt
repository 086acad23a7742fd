-- A table after the first n of some members, with a colour for each.
use Rattle.std.proofs.Common.{◌≡◌, ℕ, ◌+◌, ◌<◌, ◌⊎◌, ◌↔◌, inl, inr, List, [], ◌∷◌, ◌++◌, length, get_or, take, set, Option, Some, None, IsSome, is_some, All, refl, sym, ap, ◌∙◌, subst, arith}
use Rattle.std.specs.Prelude.{Contains}
use Rattle.std.proofs.lemmas.List.{length-replicate, take_more, get_or-take, get_or_default, length-take}
use Rattle.std.proofs.lemmas.List.Elements.{Contains-push, Contains-push_cases, Contains-append_left}
use Rattle.std.proofs.lemmas.Option.{none-some, same_Some}
use Rattle.std.proofs.lemmas.Bool.{false≢true}
use Rattle.batch.specs.declared.transfer.Transfer.{Transfer}
use Rattle.link_graph.specs.declared.link.End.{End}
use Rattle.link_graph.specs.Certificates.{AreDistinct}
use Rattle.alternating_path.specs.Ends.{link_at}
use Rattle.alternating_path.specs.Colouring.{Colouring, colour_at, HasColour, nothing_placed, IsProper, IsFree}
use Rattle.alternating_path.proofs.Writes.{at_written}
use Rattle.alternating_path.proofs.Shown.{nothing_at}

-- in a table of k colours just the first n members are placed
pub record HoldsJust (g : List Transfer) (k : ℕ) (members : List ℕ) (n : ℕ) (s : Colouring) : Type 0 where
  pub batch : s.batch ≡ g
  pub colours : s.colours ≡ k
  pub inserted : s.inserted ≡ 0
  pub proper : IsProper s.batch s.colours s.colour
  pub placed : (t : ℕ) → HasColour s.colour t ↔ Contains (take n members) t

pub none_held : (g : List Transfer) (k : ℕ) (members : List ℕ) → HoldsJust g k members 0 (nothing_placed g k)
none_held g k members = record {
  batch = refl;
  colours = refl;
  inserted = refl;
  proper = record {
    sized = length-replicate (length g) None;
    below = λ t c at. absurd (none-some c (sym (nothing_at (length g) t) ∙ at));
    apart = λ t u c other at too. absurd (none-some c (sym (nothing_at (length g) t) ∙ at));
  };
  placed = λ t. (λ some. absurd (false≢true (sym (ap is_some (nothing_at (length g) t)) ∙ some)), λ stands. absurd (omega (arith, stands.1)));
}

pub nothing_if : (o : Option ℕ) → (IsSome o → ⊥) → o ≡ None
nothing_if None h = refl
nothing_if (Some c) h = absurd (h refl)

-- the next member is placed with a colour
module _ (g : List Transfer) (k : ℕ) (members : List ℕ) (n : ℕ) (s : Colouring) (known : All (λ t. t < length g) members) (n_in : n < length members)
    (held : HoldsJust g k members n s) where
  abbrev t : ℕ
  t = get_or members n 0

  t_in : t < length g
  t_in = known n 0 n_in

  -- where a placed transfer stands among the members
  place_of : (u : ℕ) → HasColour s.colour u → (i : ℕ) × (i < n) × (get_or members i 0 ≡ u)
  place_of u some =
      let stands = (held.placed u).0 some in
      let i : ℕ = stands.0 in
      let i_in : i < n = omega (arith, stands.1, length-take n members) in
      (i, i_in, get_or_default members i 0 u (omega arith) ∙ (sym (get_or-take n members i u i_in) ∙ stands.2))

  t_len : t < length s.colour
  t_len = rw (held.proper.sized, held.batch) t_in

  placed_now : (c u : ℕ) → (u ≡ t) ⊎ HasColour s.colour u → HasColour (set s.colour t (Some c)) u
  placed_now c u which = elim (at_written s.colour t u (Some c) t_len) [
    | inl here ↦ subst IsSome (sym here.1) refl
    | inr other ↦ elim which [ inl same ↦ absurd (other.0 same) | inr old ↦ subst IsSome (sym other.1) old ]
  ]

  now_placed : (c u : ℕ) → HasColour (set s.colour t (Some c)) u → (u ≡ t) ⊎ HasColour s.colour u
  now_placed c u some = elim (at_written s.colour t u (Some c) t_len) [
    | inl here ↦ inl here.0
    | inr other ↦ inr (subst IsSome other.1 some)
  ]

  pub next_held : (c : ℕ) (m : Colouring) → m ≡ record s { colour = set s.colour t (Some c) } → IsProper m.batch m.colours m.colour
      → HoldsJust g k members (n + 1) m
  next_held c m is proper =
      let colour : m.colour ≡ set s.colour t (Some c) = ap (λ (x : Colouring). x.colour) is in
      record {
        batch = ap (λ (x : Colouring). x.batch) is ∙ held.batch;
        colours = ap (λ (x : Colouring). x.colours) is ∙ held.colours;
        inserted = ap (λ (x : Colouring). x.inserted) is ∙ held.inserted;
        proper = proper;
        placed = λ u. (
          λ some. rw (take_more members n 0 n_in) (elim (now_placed c u (subst (λ (f : List (Option ℕ)). HasColour f u) colour some)) [
            | inl same ↦ subst (λ (v : ℕ). Contains (take n members ++ t ∷ []) v) (sym same) (Contains-push (take n members) t)
            | inr old ↦ Contains-append_left (take n members) (t ∷ []) u ((held.placed u).0 old)
          ]),
          λ stands. subst (λ (f : List (Option ℕ)). HasColour f u) (sym colour)
              (placed_now c u (elim (Contains-push_cases (take n members) t u (rw (take_more members n 0 n_in) at stands))
              [ inl before ↦ inr ((held.placed u).1 before) | inr same ↦ inl (sym same) ])),
        );
      }

-- ---- a colour for each member

-- the colours below n alone are taken
pub record HoldsEach (g : List Transfer) (members : List ℕ) (n : ℕ) (s : Colouring) : Type 0 where
  pub held : HoldsJust g (length members) members n s
  pub early : (u c : ℕ) → colour_at s.colour u ≡ Some c → c < n

pub none_each : (g : List Transfer) (members : List ℕ) → HoldsEach g members 0 (nothing_placed g (length members))
none_each g members = record { held = none_held g (length members) members; early = λ u c at. absurd (none-some c (sym (nothing_at (length g) u) ∙ at)) }

module _ (g : List Transfer) (members : List ℕ) (n : ℕ) (s : Colouring) (known : All (λ t. t < length g) members) (distinct : AreDistinct members)
    (n_in : n < length members) (x : HoldsEach g members n s) where
  abbrev w : ℕ
  w = get_or members n 0

  pub each_out : colour_at s.colour w ≡ None
  each_out = nothing_if (colour_at s.colour w) (λ some. let at = place_of g (length members) members n s known n_in x.held w some in distinct at.0 n 0 at.1 n_in
      at.2)

  pub each_free : (e : End) → IsFree s.batch s.colour (link_at s.batch w e) n
  each_free e = record { none = λ u at uses. absurd (omega (arith, x.early u n at)) }

  pub next_each : (m : Colouring) → m ≡ record s { colour = set s.colour w (Some n) } → IsProper m.batch m.colours m.colour → HoldsEach g members (n + 1) m
  next_each m is proper =
      let colour : m.colour ≡ set s.colour w (Some n) = ap (λ (y : Colouring). y.colour) is in
      record {
        held = next_held g (length members) members n s known n_in x.held n m is proper;
        early = λ u c at. elim (at_written s.colour w u (Some n) (t_len g (length members) members n s known n_in x.held)) [
          | inl here ↦ omega (arith, same_Some n c (sym here.1 ∙ (ap (λ (f : List (Option ℕ)). colour_at f u) (sym colour) ∙ at)))
          | inr other ↦ omega (arith, x.early u c (sym other.1 ∙ (ap (λ (f : List (Option ℕ)). colour_at f u) (sym colour) ∙ at)))
        ];
      }
