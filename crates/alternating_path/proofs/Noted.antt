-- The colours of all transfers as a list, found colour by colour.
use Rattle.std.proofs.Common.{◌≡◌, ◌≢◌, ℕ, ◌+◌, ◌<◌, ◌≤◌, inl, inr, List, length, replicate, Option, Some, None, refl, sym, ap, ◌∙◌, arith}
use Rattle.std.proofs.lemmas.Bool.{cases_eq}
use Rattle.std.proofs.lemmas.List.{length-replicate, ext_get_or}
use Rattle.std.proofs.lemmas.Option.{same_Some, none-some}
use Rattle.link_graph.specs.declared.link.End.TheVariants.{Zero}
use Rattle.alternating_path.specs.Colouring.{Colouring, colour_at, IsProper}
use Rattle.alternating_path.specs.Cells.{place_at, AreStarts, AreNoted}
use Rattle.alternating_path.proofs.Shown.{nothing_at}
use Rattle.alternating_path.proofs.Writes.{some_within}

-- ---- the rows of the first k colours

pub record AreListed (f list : List (Option ℕ)) (k : ℕ) : Type 0 where
  pub sized : length list ≡ length f
  pub right : (t c : ℕ) → colour_at list t ≡ Some c → colour_at f t ≡ Some c
  pub listed : (t c : ℕ) → colour_at f t ≡ Some c → c < k → colour_at list t ≡ Some c

pub none_listed : (f : List (Option ℕ)) (n : ℕ) → length f ≡ n → AreListed f (replicate n None) 0
none_listed f n sized = record {
  sized = length-replicate n None ∙ sym sized;
  right = λ t c at. absurd (none-some c (sym (nothing_at n t) ∙ at));
  listed = λ t c at less. absurd (omega arith);
}

module _ (s : Colouring) (k : ℕ) (row list now : List (Option ℕ)) (starts : AreStarts s k row) (so_far : AreListed s.colour list k)
    (noted : AreNoted row (length row) k list now) where
  has : (t : ℕ) → colour_at s.colour t ≡ Some k → colour_at now t ≡ Some k
  has t at =
      let held = starts.held t at in
      noted.noted (place_at s.batch t Zero) t (some_within row (place_at s.batch t Zero) t held) held

  keeps : (t : ℕ) → colour_at s.colour t ≢ Some k → colour_at now t ≡ colour_at list t
  keeps t not = noted.rest t (λ m less at. not (starts.back m t at).0)

  pub next_listed : AreListed s.colour now (k + 1)
  next_listed = record {
    sized = noted.sized ∙ so_far.sized;
    right = λ t c at.
        let go : (o : Option ℕ) → colour_at s.colour t ≡ o → colour_at s.colour t ≡ Some c =
        λ o. elim o as (λ o. colour_at s.colour t ≡ o → colour_at s.colour t ≡ Some c) [
          | None ↦ λ is. so_far.right t c (sym (keeps t (λ same. none-some k (sym is ∙ same))) ∙ at)
          | Some d ↦ λ is. elim (cases_eq d k) [
            | inl same ↦
                let here : colour_at s.colour t ≡ Some k = is ∙ ap (λ (e : ℕ). Some e) same in
                here ∙ ap (λ (e : ℕ). Some e) (same_Some k c (sym (has t here) ∙ at))
            | inr other ↦ so_far.right t c (sym (keeps t (λ same. other (same_Some d k (sym is ∙ same)))) ∙ at)
          ]
        ] in
        go (colour_at s.colour t) refl;
    listed = λ t c at less. elim (cases_eq c k) [
      | inl same ↦ has t (at ∙ ap (λ (e : ℕ). Some e) same) ∙ ap (λ (e : ℕ). Some e) (sym same)
      | inr other ↦ keeps t (λ same. other (same_Some c k (sym at ∙ same))) ∙ so_far.listed t c at (omega arith)
    ];
  }

-- after all colours
pub all_listed : (g : Colouring) (list : List (Option ℕ)) (k : ℕ) → IsProper g.batch g.colours g.colour → AreListed g.colour list k → g.colours ≤ k → list
    ≡ g.colour
all_listed g list k proper all past =
    ext_get_or None list g.colour all.sized (λ t within.
    let go : (o : Option ℕ) → colour_at g.colour t ≡ o → colour_at list t ≡ colour_at g.colour t =
    λ o. elim o as (λ o. colour_at g.colour t ≡ o → colour_at list t ≡ colour_at g.colour t) [
      | None ↦ λ is.
          let back : (r : Option ℕ) → colour_at list t ≡ r → colour_at list t ≡ colour_at g.colour t =
          λ r. elim r as (λ r. colour_at list t ≡ r → colour_at list t ≡ colour_at g.colour t) [
            | None ↦ λ at. at ∙ sym is
            | Some c ↦ λ at. absurd (none-some c (sym is ∙ all.right t c at))
          ] in
          back (colour_at list t) refl
      | Some c ↦ λ is. all.listed t c is (omega (arith, proper.below t c is)) ∙ sym is
    ] in
    go (colour_at g.colour t) refl)
