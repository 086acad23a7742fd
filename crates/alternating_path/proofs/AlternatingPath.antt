-- Colouring one more edge of a bipartite graph along an alternating path (König 1916).
--
-- The edge t has no colour; c is free at one of its ends, d at the other. If t takes c, an edge of
-- colour c may be in the way at the other end; that edge takes d, an edge of colour d may be in the
-- way at its other end, and so on. These edges form a path whose colours alternate. At each time
-- one edge of the path, in hand, has no colour; so the colouring is proper throughout. The path
-- ends, since it meets no edge twice: the next edge still has its first colour.
use Rattle.std.proofs.Common.{◌≡◌, ◌≢◌, ℕ, ◌<◌, ◌⊎◌, ◌↔◌, inl, inr, List, length, set, Option, Some, None, IsSome, refl, sym, ap, ◌∙◌, subst, get_or-set_same, get_or-set_other, length-set}
use Rattle.batch.specs.declared.transfer.Transfer.{Transfer}
use Rattle.link_graph.specs.declared.link.End.{End}
use Rattle.alternating_path.specs.Ends.{link_at}
use Rattle.alternating_path.specs.Colouring.{colour_at, IsProper, IsFree, HasColour, PlacesJust}
use Rattle.alternating_path.proofs.Links.{not_free, free_from, same_transfer}
use Rattle.alternating_path.proofs.Writes.{at_written, after_take, after_put, some_within, differs}

-- The colouring is f₀ at first and f now. The edge in hand has no colour; it is to take c, which is
-- free at its end o and may be taken at its end e, where d is free. An edge that has c or d now had
-- the same or the other of the two at first, or is t.
pub record IsOnPath (g : List Transfer) (k : ℕ) (f₀ : List (Option ℕ)) (t : ℕ) (f : List (Option ℕ)) (hand : ℕ) (e o : End) (c d : ℕ) : Type 0 where
  pub proper : IsProper g k f
  pub known : hand < length g
  pub out : colour_at f hand ≡ None
  pub c_free : IsFree g f (link_at g hand o) c
  pub d_free : IsFree g f (link_at g hand e) d
  pub last : ((hand ≡ t) × IsFree g f₀ (link_at g t e) d) ⊎ (colour_at f₀ hand ≡ Some d)
  pub of_c : (u : ℕ) → u ≢ hand → colour_at f u ≡ Some c → (colour_at f₀ u ≡ Some c) ⊎ ((colour_at f₀ u ≡ Some d) ⊎ ((u ≡ t) × IsFree g f₀ (link_at g t e) d))
  pub of_d : (u : ℕ) → u ≢ hand → colour_at f u ≡ Some d → (colour_at f₀ u ≡ Some d) ⊎ ((colour_at f₀ u ≡ Some c) ⊎ ((u ≡ t) × IsFree g f₀ (link_at g t o) c))
  pub placed : (u : ℕ) → u ≢ hand → HasColour f u ↔ (HasColour f₀ u ⊎ (u ≡ t))

-- ---- what happens at one link

module _ (g : List Transfer) (k : ℕ) (f : List (Option ℕ)) (p : IsProper g k f) where
  -- an edge loses its colour, and the colour is free at its link
  pub freed : (w hand c : ℕ) (e : End) → colour_at f w ≡ Some c → link_at g w e ≡ link_at g hand e → IsFree g (set f w None) (link_at g hand e) c
  freed w hand c e at_w same = free_from g (set f w None) hand c e (λ u at there.
      let old = after_take f w u c (some_within f w c at_w) at in
      old.0 (same_transfer g k f u w c e p old.1 at_w (there ∙ sym same)))

  -- what was free stays free
  pub still_free : (w hand c : ℕ) (e : End) → w < length f → IsFree g f (link_at g hand e) c → IsFree g (set f w None) (link_at g hand e) c
  still_free w hand c e within free = record { none = λ u at uses. free.none u ((after_take f w u c within at).1) uses }

module _ (g : List Transfer) (k : ℕ) (f₀ : List (Option ℕ)) (t : ℕ) (p₀ : IsProper g k f₀) (out₀ : colour_at f₀ t ≡ None) where
  -- ---- the path begins

  pub path_begins : (a b : ℕ) (e o : End) → t < length g → IsFree g f₀ (link_at g t o) a → IsFree g f₀ (link_at g t e) b → IsOnPath g k f₀ t f₀ t e o a b
  path_begins a b e o known a_free b_free = record {
    proper = p₀;
    known = known;
    out = out₀;
    c_free = a_free;
    d_free = b_free;
    last = inl (refl, b_free);
    of_c = λ u ne at. inl at;
    of_d = λ u ne at. inl at;
    placed = λ u ne. (λ p. inl p, λ q. elim q [ inl p ↦ p | inr same ↦ absurd (ne same) ]);
  }

  -- ---- the path never reaches the link of t at which d was free at first: it would come there along an edge that had d

  pub never_reached : (d u : ℕ) (e : End) → IsFree g f₀ (link_at g t e) d → colour_at f₀ u ≡ Some d → link_at g u e ≢ link_at g t e
  never_reached d u e free was there = not_free g f₀ p₀.sized t u d e free was there

  -- ---- the next edge of the path wasn't met before

  pub next_is_new : (f : List (Option ℕ)) (hand : ℕ) (e o : End) (c d w : ℕ) → IsOnPath g k f₀ t f hand e o c d → colour_at f w ≡ Some c → link_at g w e
      ≡ link_at g hand e → colour_at f₀ w ≡ Some c
  next_is_new f hand e o c d w h at_w same =
      let apart : w ≢ hand = differs f w hand c at_w h.out in
      elim (h.of_c w apart at_w) [
        | inl kept ↦ kept
        | inr moved ↦ elim moved [
          | inl was_d ↦ elim h.last [
            | inl first ↦ absurd (never_reached d w e first.1 was_d (same ∙ ap (λ u. link_at g u e) first.0))
            | inr was ↦ absurd (apart (same_transfer g k f₀ w hand d e p₀ was_d was same))
          ]
          | inr new ↦ elim h.last [
            | inl first ↦ absurd (apart (new.0 ∙ sym first.0))
            | inr was ↦ absurd (never_reached d hand e new.1 was (sym same ∙ ap (λ u. link_at g u e) new.0))
          ]
        ]
      ]

  -- ---- the path goes on: the edge in hand takes c, and the next edge, which had c there, is in hand and is to take d at its other end

  pub path_goes_on : (f : List (Option ℕ)) (hand : ℕ) (e o : End) (c d w : ℕ) → IsOnPath g k f₀ t f hand e o c d → colour_at f w ≡ Some c → link_at g w e
      ≡ link_at g hand e → IsProper g k (set (set f w None) hand (Some c)) → IsOnPath g k f₀ t (set (set f w None) hand (Some c)) w o e d c
  path_goes_on f hand e o c d w h at_w same proper =
      let w_in : w < length f = some_within f w c at_w in
      let apart : w ≢ hand = differs f w hand c at_w h.out in
      let hand_in : hand < length (set f w None) = rw length-set (rw h.proper.sized h.known) in
      let ne : c ≢ d = λ cd. not_free g f h.proper.sized hand w d e h.d_free (at_w ∙ ap Some cd) same in
      let now : List (Option ℕ) = set (set f w None) hand (Some c) in
      let from : (u x : ℕ) → colour_at now u ≡ Some x → ((u ≡ hand) × (c ≡ x)) ⊎ ((u ≢ hand) × (u ≢ w) × (colour_at f u ≡ Some x)) =
      λ u x at. elim (after_put (set f w None) hand u c x hand_in at) [
        | inl is ↦ inl is
        | inr other ↦ let old = after_take f w u x w_in other.1 in inr (other.0, old.0, old.1)
      ] in
      record {
        proper = proper;
        known = rw (← h.proper.sized) w_in;
        out = (elim (at_written (set f w None) hand w (Some c) hand_in) [
          | inl is ↦ absurd (apart is.0)
          | inr other ↦ other.1 ∙ get_or-set_same f w None None w_in
        ]);
        c_free = free_from g now w d e
            (λ u at there. elim (from u d at) [ inl is ↦ ne is.1 | inr old ↦ not_free g f h.proper.sized hand u d e h.d_free old.2 (there ∙ same) ]);
        d_free = free_from g now w c o (λ u at there. elim (from u c at) [
          | inl is ↦ not_free g f h.proper.sized hand w c o h.c_free at_w (sym there ∙ ap (λ v. link_at g v o) is.0)
          | inr old ↦ old.1 (same_transfer g k f u w c o h.proper old.2 at_w there)
        ]);
        last = inr (next_is_new f hand e o c d w h at_w same);
        of_c = λ u out at. elim (from u d at) [ inl is ↦ absurd (ne is.1) | inr old ↦ h.of_d u old.0 old.2 ];
        of_d = λ u out at. elim (from u c at) [
          | inl is ↦ elim h.last [ inl first ↦ inr (inr (is.0 ∙ first.0, first.1)) | inr was ↦ inr (inl (ap (colour_at f₀) is.0 ∙ was)) ]
          | inr old ↦ h.of_c u old.0 old.2
        ];
        placed = λ u out. elim (at_written (set f w None) hand u (Some c) hand_in) [
          | inl is ↦ (
            λ _. elim h.last [ inl first ↦ inr (is.0 ∙ first.0) | inr was ↦ inl (subst IsSome (sym (ap (colour_at f₀) is.0 ∙ was)) refl) ],
            λ _. subst IsSome (sym is.1) refl,
          )
          | inr other ↦
              let same_now : colour_at now u ≡ colour_at f u = other.1 ∙ get_or-set_other f w u None None out in
              (λ p. (h.placed u other.0).0 (subst IsSome same_now p), λ q. subst IsSome (sym same_now) ((h.placed u other.0).1 q))
        ];
      }

  -- ---- the path ends: c is free at both ends of the edge in hand, which takes it

  pub path_ends : (f : List (Option ℕ)) (hand : ℕ) (e o : End) (c d : ℕ) → IsOnPath g k f₀ t f hand e o c d → PlacesJust f₀ (set f hand (Some c)) t
  path_ends f hand e o c d h = record {
    placed = λ u. elim (at_written f hand u (Some c) (rw h.proper.sized h.known)) [
      | inl is ↦ (
        λ _. elim h.last [ inl first ↦ inr (is.0 ∙ first.0) | inr was ↦ inl (subst IsSome (sym (ap (colour_at f₀) is.0 ∙ was)) refl) ],
        λ _. subst IsSome (sym is.1) refl,
      )
      | inr other ↦ (λ p. (h.placed u other.0).0 (subst IsSome other.1 p), λ q. subst IsSome (sym other.1) ((h.placed u other.0).1 q))
    ];
  }
