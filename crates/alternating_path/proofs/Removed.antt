-- The cells without the row of one colour show the colouring without it.
use Rattle.std.proofs.Common.{◌≡◌, ◌≢◌, ℕ, ◌+◌, ◌-◌, ◌*◌, ◌<◌, ◌≤◌, inl, inr, List, length, map, get_or, Option, Some, None, true, false, cond, refl, sym, ap, ◌∙◌, arith}
use Rattle.std.specs.Prelude.{◌==◌, nat_lt}
use Rattle.std.proofs.lemmas.List.{get_or_past, get_or-map, length-map}
use Rattle.std.proofs.lemmas.Option.{same_Some, none-some}
use Rattle.std.proofs.lemmas.Bool.{cases_lt}
use Rattle.std.proofs.lemmas.Bool.Decides.{nat_tests, eqb_tells}
use Rattle.batch.specs.declared.transfer.Transfer.{Transfer}
use Rattle.link_graph.specs.declared.limits.TheConstants.{LINKS}
use Rattle.alternating_path.specs.Colouring.{colour_at}
use Rattle.alternating_path.specs.Classes.{without_colour}
use Rattle.alternating_path.specs.Cells.{place_at, holder_at, shown_colours, AreCellsOf, ShowColouring}
use Rattle.alternating_path.proofs.Links.{place_low}
use Rattle.alternating_path.proofs.Shown.{show, shown-is}

-- which colour a colour was before
abbrev above : ℕ → ℕ → ℕ
above c d = cond (nat_lt d c) d (d + 1)

undone : (c d e : ℕ) → e ≢ c → cond (nat_lt c e) (e - 1) e ≡ d → e ≡ above c d
undone c d e ne is = grind (arith, nat_tests)

-- what has a colour afterwards had the one that it was before
was_above : (c d : ℕ) (o : Option ℕ) → without_colour c o ≡ Some d → o ≡ Some (above c d)
was_above c d None at = absurd (none-some d at)
was_above c d (Some e) at = elim (eqb_tells e c) [
  | inl same ↦ absurd (none-some d (rw same.0 at at))
  | inr other ↦ ap Some (undone c d e other.1 (same_Some _ d (rw other.0 at at)))
]

stays : (c d : ℕ) → d < c → without_colour c (Some d) ≡ Some d
stays c d less = let other : (d == c) ≡ false = grind (arith, nat_tests) in let low : nat_lt c d ≡ false = grind (arith, nat_tests) in rw (other, low) refl

comes_down : (c d : ℕ) → c ≤ d → without_colour c (Some (d + 1)) ≡ Some d
comes_down c d more =
    let other : (d + 1 == c) ≡ false = grind (arith, nat_tests) in
    let high : nat_lt c (d + 1) ≡ true = grind (arith, nat_tests) in
    let less : d + 1 - 1 ≡ d = omega arith in
    rw (other, high) (ap Some less)

above_low : (c d : ℕ) → d < c → above c d ≡ d
above_low c d less = grind (arith, nat_tests)

above_high : (c d : ℕ) → c ≤ d → above c d ≡ d + 1
above_high c d more = grind (arith, nat_tests)

-- and the other way round
now_below : (c d : ℕ) → without_colour c (Some (above c d)) ≡ Some d
now_below c d = elim (cases_lt d c) [
  | inl less ↦ rw (above_low c d less) (stays c d less)
  | inr more ↦ rw (above_high c d more) (comes_down c d more)
]

pub without-at : (c : ℕ) (f : List (Option ℕ)) (t : ℕ) → colour_at (map (without_colour c) f) t ≡ without_colour c (colour_at f t)
without-at c f t = elim (cases_lt t (length f)) [
  | inl within ↦ get_or-map (without_colour c) f t None None within
  | inr past ↦
      let none : colour_at f t ≡ None = get_or_past f t None past in
      get_or_past _ t None (rw length-map past) ∙ sym (ap (without_colour c) none)
]

module _ (g : List Transfer) (k c : ℕ) (f h h' : List (Option ℕ)) (x : AreCellsOf g k f h) (c_in : c < k) (sized : length h' + LINKS ≡ length h)
    (before : (i : ℕ) → i < c * LINKS → get_or h' i None ≡ get_or h i None) (behind : (i : ℕ) → c * LINKS ≤ i → get_or h' i None ≡ get_or h (i + LINKS) None)
  where
    row_at : (d l : ℕ) → l < LINKS → holder_at h' d l ≡ holder_at h (above c d) l
    row_at d l l_in = elim (cases_lt d c) [
      | inl less ↦
          before (d * LINKS + l) (omega arith) ∙ ap (λ e. holder_at h e l) (sym (above_low c d less))
      | inr more ↦
          let place : (d * LINKS + l) + LINKS ≡ (d + 1) * LINKS + l = omega arith in
          behind (d * LINKS + l) (omega arith) ∙ (ap (λ i. get_or h i None) place ∙ ap (λ e. holder_at h e l) (sym (above_high c d more)))
    ]

    pub removed_cells : AreCellsOf g (k - 1) (map (without_colour c) f) h'
    removed_cells = record {
      is_batch = x.is_batch;
      sized = length-map f (without_colour c) ∙ x.sized;
      rows = let n = x.rows in omega arith;
      held = λ t d e at.
          let old : colour_at f t ≡ Some (above c d) = was_above c d (colour_at f t) (sym (without-at c f t) ∙ at) in
          row_at d (place_at g t e) (place_low g t e x.is_batch) ∙ x.held t (above c d) e old;
      back = λ d l t l_in at.
          let old = x.back (above c d) l t l_in (sym (row_at d l l_in) ∙ at) in
          (without-at c f t ∙ (ap (without_colour c) old.0 ∙ now_below c d), old.1);
    }

-- ---- over the cells of a table

module _ (g : List Transfer) (k c : ℕ) (h h' : List (Option ℕ)) (x : ShowColouring g k h) (c_in : c < k) (sized : length h' + LINKS ≡ length h)
    (before : (i : ℕ) → i < c * LINKS → get_or h' i None ≡ get_or h i None) (behind : (i : ℕ) → c * LINKS ≤ i → get_or h' i None ≡ get_or h (i + LINKS) None)
  where
    pub removed_show : ShowColouring g (k - 1) h'
    removed_show = show g (k - 1) _ h' (removed_cells g k c (shown_colours g k h) h h' x c_in sized before behind)

    pub removed_colours : shown_colours g (k - 1) h' ≡ map (without_colour c) (shown_colours g k h)
    removed_colours = shown-is g (k - 1) _ h' (removed_cells g k c (shown_colours g k h) h h' x c_in sized before behind)
