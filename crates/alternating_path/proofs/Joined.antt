-- The cells of two tables, one after the other, show the colours of both.
use Rattle.std.proofs.Common.{◌≡◌, ℕ, ◌+◌, ◌-◌, ◌*◌, ◌<◌, ◌⊎◌, inl, inr, List, length, map, get_or, ◌++◌, Option, Some, None, IsSome, refl, sym, ap, ◌∙◌, subst, arith}
use Rattle.std.specs.List.{range_with_len}
use Rattle.std.proofs.lemmas.List.{get_or_past, get_or_append_left, get_or-append_right, length-append}
use Rattle.std.proofs.lemmas.List.FromFn.{length-map-range_with_len, get_or-map-range_with_len}
use Rattle.std.proofs.lemmas.Option.{same_Some, none-some}
use Rattle.std.proofs.lemmas.Bool.{cases_lt}
use Rattle.batch.specs.declared.transfer.Transfer.{Transfer}
use Rattle.link_graph.specs.declared.limits.TheConstants.{LINKS}
use Rattle.alternating_path.specs.Colouring.{colour_at, ArePlacedApart, joined_colour}
use Rattle.alternating_path.specs.Cells.{place_at, holder_at, shown_colours, AreCellsOf, ShowColouring}
use Rattle.alternating_path.proofs.Links.{place_low}
use Rattle.alternating_path.proofs.Shown.{show, shown-is}
use Rattle.alternating_path.proofs.Writes.{some_within}

-- the colours of n transfers in the joined table
unfoldable pub joined_colours : ℕ → ℕ → List (Option ℕ) → List (Option ℕ) → List (Option ℕ)
joined_colours n k left right = map (λ t. joined_colour k (colour_at left t) (colour_at right t)) (range_with_len 0 n)

joined-length : (n k : ℕ) (left right : List (Option ℕ)) → length (joined_colours n k left right) ≡ n
unfolding joined_colours
joined-length n k left right = length-map-range_with_len _ 0 n

pub joined-at : (n k : ℕ) (left right : List (Option ℕ)) → length left ≡ n → length right ≡ n → (t : ℕ) → colour_at (joined_colours n k left right) t
    ≡ joined_colour k (colour_at left t) (colour_at right t)
unfolding joined_colours
joined-at n k left right left_sized right_sized t = elim (cases_lt t n) [
  | inl within ↦ get_or-map-range_with_len (λ u. joined_colour k (colour_at left u) (colour_at right u)) 0 n t t None within (omega arith)
  | inr past ↦
      let none_left : colour_at left t ≡ None = get_or_past left t None (omega arith) in
      let none_right : colour_at right t ≡ None = get_or_past right t None (omega arith) in
      get_or_past _ t None (rw (length-map-range_with_len (λ u. joined_colour k (colour_at left u) (colour_at right u)) 0 n) past)
      ∙ sym (ap (λ o. joined_colour k o (colour_at right t)) none_left ∙ ap (joined_colour k None) none_right)
]

module _ (g : List Transfer) (k₁ k₂ : ℕ) (f₁ f₂ h₁ h₂ : List (Option ℕ)) (x : AreCellsOf g k₁ f₁ h₁) (y : AreCellsOf g k₂ f₂ h₂) (apart : ArePlacedApart f₁ f₂)
  where
    abbrev f : List (Option ℕ)
    f = joined_colours (length g) k₁ f₁ f₂

    is : (t : ℕ) → colour_at f t ≡ joined_colour k₁ (colour_at f₁ t) (colour_at f₂ t)
    is = joined-at (length g) k₁ f₁ f₂ x.sized y.sized

    -- where a colour of the joined table comes from
    from : (o r : Option ℕ) (c : ℕ) → joined_colour k₁ o r ≡ Some c → (o ≡ Some c) ⊎ ((d : ℕ) × (r ≡ Some d) × (k₁ + d ≡ c))
    from (Some d) r c at = inl at
    from None None c at = absurd (none-some c at)
    from None (Some d) c at = inr (d, refl, same_Some (k₁ + d) c at)

    not_both : (t d : ℕ) → colour_at f₂ t ≡ Some d → colour_at f₁ t ≡ None
    not_both t d at =
        let go : (o : Option ℕ) → colour_at f₁ t ≡ o → colour_at f₁ t ≡ None = λ o. elim o as (λ o. colour_at f₁ t ≡ o → colour_at f₁ t ≡ None)
        [ None ↦ λ e. e | Some c ↦ λ e. absurd (apart t (subst IsSome (sym e) refl) (subst IsSome (sym at) refl)) ] in
        go (colour_at f₁ t) refl

    first_row : (c l : ℕ) → c < k₁ → l < LINKS → holder_at (h₁ ++ h₂) c l ≡ holder_at h₁ c l
    first_row c l c_in l_in = let n = x.rows in get_or_append_left h₁ h₂ None (c * LINKS + l) (omega arith)

    second_row : (c l : ℕ) → holder_at (h₁ ++ h₂) (k₁ + c) l ≡ holder_at h₂ c l
    second_row c l = get_or-append_right h₁ h₂ (k₁ * LINKS) ((k₁ + c) * LINKS + l) None x.rows (omega arith) ∙ ap (λ n. get_or h₂ n None) (omega arith)

    pub joined_cells : AreCellsOf g (k₁ + k₂) f (h₁ ++ h₂)
    joined_cells = record {
      is_batch = x.is_batch;
      sized = joined-length (length g) k₁ f₁ f₂;
      rows = let a = x.rows in let b = y.rows in let n = length-append h₁ h₂ in omega arith;
      held = λ t c e at. elim (from (colour_at f₁ t) (colour_at f₂ t) c (sym (is t) ∙ at)) [
        | inl left ↦
            let held = x.held t c e left in
            let n = x.rows in
            let within = some_within h₁ (c * LINKS + place_at g t e) t held in
            first_row c (place_at g t e) (omega arith) (place_low g t e x.is_batch) ∙ held
        | inr right ↦ subst (λ d. holder_at (h₁ ++ h₂) d (place_at g t e) ≡ Some t) right.2 (second_row right.0 (place_at g t e) ∙ y.held t right.0 e right.1)
      ];
      back = λ c l t l_in at. elim (cases_lt c k₁) [
        | inl first ↦
            let b = x.back c l t l_in (sym (first_row c l first l_in) ∙ at) in
            (is t ∙ ap (λ o. joined_colour k₁ o (colour_at f₂ t)) b.0, b.1)
        | inr second ↦
            let d : ℕ = c - k₁ in
            let c_is : k₁ + d ≡ c = omega arith in
            let b = y.back d l t l_in (sym (second_row d l) ∙ (ap (λ m. holder_at (h₁ ++ h₂) m l) c_is ∙ at)) in
            let none : colour_at f₁ t ≡ None = not_both t d b.0 in
            (is t ∙ (ap (λ o. joined_colour k₁ o (colour_at f₂ t)) none ∙ (ap (joined_colour k₁ None) b.0 ∙ ap Some c_is)), b.1)
      ];
    }

-- ---- over the cells of two tables

module _ (g₁ g₂ : List Transfer) (k₁ k₂ : ℕ) (h₁ h₂ h : List (Option ℕ)) (x : ShowColouring g₁ k₁ h₁) (y : ShowColouring g₂ k₂ h₂) (one : g₁ ≡ g₂)
    (apart : ArePlacedApart (shown_colours g₁ k₁ h₁) (shown_colours g₂ k₂ h₂)) (is : h ≡ h₁ ++ h₂) where
  same_graph : AreCellsOf g₁ k₂ (shown_colours g₂ k₂ h₂) h₂
  same_graph = subst (λ (g : List Transfer). AreCellsOf g k₂ (shown_colours g₂ k₂ h₂) h₂) (sym one) y

  both_shown : AreCellsOf g₁ (k₁ + k₂) (joined_colours (length g₁) k₁ (shown_colours g₁ k₁ h₁) (shown_colours g₂ k₂ h₂)) h
  both_shown = rw is (joined_cells g₁ k₁ k₂ (shown_colours g₁ k₁ h₁) (shown_colours g₂ k₂ h₂) h₁ h₂ x same_graph apart)

  pub joined_show : ShowColouring g₁ (k₁ + k₂) h
  joined_show = show g₁ (k₁ + k₂) _ h both_shown

  pub joined_classes : (t : ℕ) → colour_at (shown_colours g₁ (k₁ + k₂) h) t ≡ joined_colour k₁ (colour_at (shown_colours g₁ k₁ h₁) t)
      (colour_at (shown_colours g₂ k₂ h₂) t)
  joined_classes t = ap (λ f. colour_at f t) (shown-is g₁ (k₁ + k₂) _ h both_shown) ∙ joined-at (length g₁) k₁ _ _ x.sized same_graph.sized t
