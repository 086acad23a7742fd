-- How long an alternating path is at most: each step takes its first colour from a transfer that
-- had one of two colours, and a class has at most one transfer for each module.
use Rattle.std.proofs.Common.{◌≡◌, ◌≢◌, ℕ, inl, inr, zero, suc, ◌+◌, ◌*◌, ◌<◌, ◌≤◌, List, length, set, take, drop, is_some, Option, Some, None, Bool, true, false, ◌&&◌, ◌||◌, eqb, count_by, arith}
use Rattle.std.proofs.Common.{refl, ap, ◌∙◌, get_or-set_same, get_or-set_other, length-set}
use Rattle.std.proofs.lemmas.Bool.{cases_eq}
use Rattle.std.proofs.lemmas.Bool.Decides.{nat_tests}
use Rattle.std.proofs.lemmas.List.{length-take}
use Rattle.std.proofs.lemmas.List.Sums.{count_by-le-length}
use Rattle.batch.specs.declared.limits.TheConstants.{MAX_MODULES}
use Rattle.batch.specs.declared.transfer.Transfer.{Transfer}
use Rattle.link_graph.specs.declared.limits.TheConstants.{LINKS}
use Rattle.link_graph.specs.declared.link.End.{End}
use Rattle.link_graph.specs.Counts.{count_below}
use Rattle.alternating_path.specs.Ends.{link_at}
use Rattle.alternating_path.specs.Colouring.{Colouring, colour_at, IsProper}
use Rattle.alternating_path.specs.Classes.{is_colour, class_size}
use Rattle.alternating_path.specs.Cells.{AreCellsOf}
use Rattle.alternating_path.proofs.AlternatingPath.{IsOnPath, next_is_new}
use Rattle.alternating_path.proofs.Held.{count_below_more}
use Rattle.alternating_path.proofs.Links.{not_free, start_low}
use Rattle.alternating_path.proofs.Smallest.{starts_are, row_counts}
use Rattle.alternating_path.proofs.Writes.{some_within, differs}

abbrev pub is_same : Option ℕ → Option ℕ → Bool
is_same None None = true
is_same None (Some y) = false
is_same (Some x) None = false
is_same (Some x) (Some y) = eqb x y

-- whether a transfer still has its first colour, which is one of two
abbrev has_still : ℕ → ℕ → Option ℕ → Option ℕ → Bool
has_still c d now first = is_same now first && (is_colour c first || is_colour d first)

-- how many transfers have: the number that falls along an alternating path
abbrev pub still : ℕ → ℕ → List (Option ℕ) → List (Option ℕ) → ℕ
still c d f f₀ = count_below (length f₀) (λ t. has_still c d (colour_at f t) (colour_at f₀ t))

both : (n : ℕ) (p a b : ℕ → Bool) → count_below n (λ t. p t && (a t || b t)) ≤ count_below n a + count_below n b
both zero p a b = omega arith
both (suc n) p a b = grind (arith, both n p a b)

pub still_few : (c d : ℕ) (f f₀ : List (Option ℕ)) → still c d f f₀ ≤ class_size f₀ c + class_size f₀ d
still_few c d f f₀ = both (length f₀) (λ t. is_same (colour_at f t) (colour_at f₀ t)) (λ t. is_colour c (colour_at f₀ t)) (λ t. is_colour d (colour_at f₀ t))

either_way : (c d : ℕ) (x y : Option ℕ) → has_still d c x y ≡ has_still c d x y
either_way c d x y = grind arith

module _ (g : List Transfer) (k : ℕ) (f₀ : List (Option ℕ)) (t : ℕ) (p₀ : IsProper g k f₀) (out₀ : colour_at f₀ t ≡ None) where
  -- with each step one transfer fewer has
  pub still_less : (f : List (Option ℕ)) (hand : ℕ) (e o : End) (c d w : ℕ) → IsOnPath g k f₀ t f hand e o c d → colour_at f w ≡ Some c → link_at g w e
      ≡ link_at g hand e → still c d f f₀ ≡ still d c (set (set f w None) hand (Some c)) f₀ + 1
  still_less f hand e o c d w h at_w same =
      let was : colour_at f₀ w ≡ Some c = next_is_new g k f₀ t p₀ out₀ f hand e o c d w h at_w same in
      let ne : c ≢ d = λ cd. not_free g f h.proper.sized hand w d e h.d_free (at_w ∙ ap Some cd) same in
      let apart : w ≢ hand = differs f w hand c at_w h.out in
      let w_in : w < length f = some_within f w c at_w in
      let hand_in : hand < length (set f w None) = rw length-set (rw h.proper.sized h.known) in
      let now : List (Option ℕ) = set (set f w None) hand (Some c) in
      let now_w : colour_at now w ≡ None = get_or-set_other (set f w None) hand w (Some c) None apart ∙ get_or-set_same f w None None w_in in
      let now_hand : colour_at now hand ≡ Some c = get_or-set_same (set f w None) hand (Some c) None hand_in in
      count_below_more (length f₀) w (λ u. has_still d c (colour_at now u) (colour_at f₀ u)) (λ u. has_still c d (colour_at f u) (colour_at f₀ u))
      (some_within f₀ w c was)
      (rw (now_w, was) refl)
      (rw (at_w, was) (grind (arith, nat_tests)))
      (λ u u_in not_w. elim (cases_eq u hand) [
        | inl is ↦ rw (is, now_hand, h.out) (elim h.last [
          | inl first ↦ rw (first.0, out₀) refl
          | inr old ↦ rw old (grind (arith, nat_tests, ne))
        ])
        | inr not_hand ↦ rw (get_or-set_other (set f w None) hand u (Some c) None not_hand ∙ get_or-set_other f w u None None not_w)
            (either_way c d (colour_at f u) (colour_at f₀ u))
      ])

-- a class has at most one transfer for each module
pub narrow : (s : Colouring) (h : List (Option ℕ)) (c : ℕ) → AreCellsOf s.batch s.colours s.colour h → class_size s.colour c ≤ MAX_MODULES
narrow s h c x =
    let row : List (Option ℕ) = take MAX_MODULES (drop (c * LINKS) h) in
    let starts = starts_are s h c x MAX_MODULES (omega arith) (λ t t_in. start_low s.batch t x.is_batch) in
    let many : count_by is_some row ≤ length row = count_by-le-length is_some row in
    omega (arith, many, row_counts s c row starts, length-take MAX_MODULES (drop (c * LINKS) h))
