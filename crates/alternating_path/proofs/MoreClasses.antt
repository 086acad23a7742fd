-- A table with one colour more, in which the members of a class are placed one after the other.
use Rattle.std.proofs.Common.{◌≡◌, ◌≢◌, ℕ, ◌+◌, ◌*◌, ◌-◌, ◌<◌, ◌⊎◌, inl, inr, List, [], ◌∷◌, ◌++◌, length, get_or, take, set, replicate, Option, Some, None, IsSome, All, Result, Ok, Err, IfOk, refl}
use Rattle.std.proofs.Common.{sym, ap, ◌∙◌, subst, arith}
use Rattle.std.specs.Prelude.{Contains}
use Rattle.std.proofs.lemmas.List.{length-append, length-replicate, length-take, take_more, get_or-take, get_or_default, get_or_append_left, get_or-append_right}
use Rattle.std.proofs.lemmas.List.Elements.{Contains-push, Contains-push_cases, Contains-append_left}
use Rattle.std.proofs.lemmas.Bool.{cases_lt, false≢true}
use Rattle.std.proofs.lemmas.Option.{none-some, same_Some}
use Rattle.batch.specs.declared.transfer.Transfer.{Transfer}
use Rattle.link_graph.specs.declared.limits.TheConstants.{LINKS}
use Rattle.link_graph.specs.declared.link.End.{End}
use Rattle.link_graph.specs.declared.link.End.TheVariants.{Zero}
use Rattle.link_graph.specs.Uses.{Uses, AreApart, IsMatching}
use Rattle.alternating_path.specs.Ends.{link_at}
use Rattle.alternating_path.specs.Colouring.{Colouring, colour_at, nothing_placed, IsProperTable, IsFree, PlacesOnly, HasClassMore}
use Rattle.alternating_path.specs.Cells.{holder_at, AreCellsOf}
use Rattle.alternating_path.proofs.Links.{uses-link_at}
use Rattle.alternating_path.proofs.Shown.{nothing_at}
use Rattle.alternating_path.proofs.Writes.{at_written, some_within}
use Rattle.alternating_path.proofs.Singles.{nothing_if}

-- ---- a row more, in which nothing stands

module _ (g : List Transfer) (k : ℕ) (f h : List (Option ℕ)) (x : AreCellsOf g k f h) where
  abbrev now : List (Option ℕ)
  now = h ++ replicate LINKS None

  -- a row that was there, or one after it
  row_of : (c l : ℕ) → l < LINKS → ((c < k) × (holder_at now c l ≡ holder_at h c l)) ⊎ (holder_at now c l ≡ None)
  row_of c l l_in = elim (cases_lt c k) [
    | inl c_in ↦ inl (c_in, get_or_append_left h (replicate LINKS None) None (c * LINKS + l) (omega (arith, x.rows, c_in, l_in)))
    | inr past ↦ inr (get_or-append_right h (replicate LINKS None) (k * LINKS) (c * LINKS + l) None x.rows (omega (arith, past))
        ∙ nothing_at LINKS (c * LINKS + l - k * LINKS))
  ]

  pub more_cells : AreCellsOf g (k + 1) f now
  more_cells = record {
    is_batch = x.is_batch;
    sized = x.sized;
    rows = omega (arith, length-append h (replicate LINKS None), length-replicate {A = Option ℕ} LINKS None, x.rows);
    held = λ t c e at. get_or_append_left h (replicate LINKS None) None _ (some_within h _ t (x.held t c e at)) ∙ x.held t c e at;
    back = λ c place t place_in at. elim (row_of c place place_in) [
      | inl old ↦ x.back c place t place_in (sym old.1 ∙ at)
      | inr none ↦ absurd (none-some t (sym none ∙ at))
    ];
  }

pub some_of : (o : Option ℕ) → IsSome o → (c : ℕ) × (o ≡ Some c)
some_of None h = absurd (false≢true h)
some_of (Some c) h = (c, refl)

-- ---- the members of the class come to it one by one

pub none_given : (old : Colouring) (members : List ℕ) → HasClassMore old (take 0 members) (record old { colours = old.colours + 1 })
none_given old members = record {
  batch = refl;
  colours = refl;
  kept = λ t c at. at;
  given = λ t stands. absurd (omega (arith, stands.1));
  only = λ t c at. inl at;
  inserted = refl;
}

module _ (old : Colouring) (members : List ℕ) (n : ℕ) (s : Colouring) (known : All (λ t. t < length old.batch) members)
    (matching : IsMatching old.batch members) (out : All (λ t. colour_at old.colour t ≡ None) members) (n_in : n < length members)
    (was_proper : IsProperTable old) (proper : IsProperTable s) (x : HasClassMore old (take n members) s) where
  abbrev u : ℕ
  u = get_or members n 0

  abbrev k : ℕ
  k = old.colours

  -- one that was given the colour shares no link with the next
  earlier : (v : ℕ) → Contains (take n members) v → AreApart old.batch v u
  earlier v stands =
      let i : ℕ = stands.0 in
      let i_in : i < n = omega (arith, stands.1, length-take n members) in
      let at : get_or members i 0 ≡ v = get_or_default members i 0 v (omega arith) ∙ (sym (get_or-take n members i v i_in) ∙ stands.2) in
      subst (λ (w : ℕ). AreApart old.batch w u) at (matching i n 0 i_in n_in)

  apart_from : (v : ℕ) (e : End) → AreApart old.batch v u → Uses old.batch v (link_at old.batch u e) → ⊥
  apart_from v e apart uses = apart.none_common (link_at old.batch u e) uses (uses-link_at old.batch u e (known n 0 n_in))

  pub class_out : colour_at s.colour u ≡ None
  class_out = nothing_if (colour_at s.colour u) (λ some.
      let c = some_of (colour_at s.colour u) some in
      elim (x.only u c.0 c.1) [
        | inl before ↦ none-some c.0 (sym (out n 0 n_in) ∙ before)
        | inr given ↦ apart_from u Zero (earlier u given.1) (uses-link_at old.batch u Zero (known n 0 n_in))
      ])

  pub class_free : (e : End) → IsFree s.batch s.colour (link_at s.batch u e) k
  class_free e = rw x.batch (record {
    none = λ v at uses. elim (x.only v k at) [
      | inl before ↦ absurd (omega (arith, was_proper.below v k before))
      | inr given ↦ apart_from v e (earlier v given.1) uses
    ];
  })

  pub class_next : (m : Colouring) → m ≡ record s { colour = set s.colour u (Some k) } → HasClassMore old (take (n + 1) members) m
  class_next m is =
      let colour : m.colour ≡ set s.colour u (Some k) = ap (λ (y : Colouring). y.colour) is in
      let u_in : u < length s.colour = rw (proper.sized, x.batch) (known n 0 n_in) in
      let at : (t : ℕ) → ((t ≡ u) × (colour_at m.colour t ≡ Some k)) ⊎ ((t ≢ u) × (colour_at m.colour t ≡ colour_at s.colour t)) =
      λ t. rw colour (at_written s.colour u t (Some k) u_in) in
      rw (take_more members n 0 n_in) (record {
        batch = ap (λ (y : Colouring). y.batch) is ∙ x.batch;
        colours = ap (λ (y : Colouring). y.colours) is ∙ x.colours;
        kept = λ t c before. elim (at t) [
          | inl here ↦ absurd (none-some c (sym (out n 0 n_in) ∙ (ap (λ (w : ℕ). colour_at old.colour w) (sym here.0) ∙ before)))
          | inr other ↦ other.1 ∙ x.kept t c before
        ];
        given = λ t stands. elim (Contains-push_cases (take n members) u t stands) [
          | inl before ↦ elim (at t) [ inl here ↦ here.1 | inr other ↦ other.1 ∙ x.given t before ]
          | inr same ↦ elim (at t) [ inl here ↦ here.1 | inr other ↦ absurd (other.0 (sym same)) ]
        ];
        only = λ t c now. elim (at t) [
          | inl here ↦ inr (
            same_Some c k (sym now ∙ here.1),
            subst (λ (v : ℕ). Contains (take n members ++ u ∷ []) v) (sym here.0)
                (Contains-push (take n members) u),
          )
          | inr other ↦ elim (x.only t c (sym other.1 ∙ now)) [
            | inl before ↦ inl before
            | inr given ↦ inr (given.0, Contains-append_left (take n members) (u ∷ []) t given.1)
          ]
        ];
        inserted = ap (λ (y : Colouring). y.inserted) is ∙ x.inserted;
      })

-- ---- the first class of a table

module _ (g : List Transfer) (members : List ℕ) (s : Colouring) (x : HasClassMore (nothing_placed g 0) members s) where
  pub first_placed : PlacesOnly s.colour members
  first_placed t = (
    λ some.
        let c = some_of (colour_at s.colour t) some in
        elim (x.only t c.0 c.1) [ inl before ↦ absurd (none-some c.0 (sym (nothing_at (length g) t) ∙ before)) | inr given ↦ given.1 ],
    λ stands. subst IsSome (sym (x.given t stands)) refl,
  )

pub first_placed_if : {E : Type 0} (g : List Transfer) (members : List ℕ) (r : Result Colouring E) → IfOk r (HasClassMore (nothing_placed g 0) members)
    → IfOk r (λ s. PlacesOnly s.colour members)
first_placed_if g members (Ok s) x = first_placed g members s x
first_placed_if g members (Err e) x = tt
