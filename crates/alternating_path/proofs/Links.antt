-- The links of transfers, and their places in a row.
use Rattle.std.proofs.Common.{◌≡◌, ℕ, ◌<◌, ◌≤◌, ◌⊎◌, inl, inr, List, length, slice_get, Option, Some, refl, sym, ap, ◌∙◌, subst, arith}
use Rattle.std.specs.Prelude.{option_map}
use Rattle.std.proofs.lemmas.List.{get_or_past}
use Rattle.std.proofs.lemmas.Option.{slice_get-get_or, get_or_from_slice_get, slice_get_within, same_Some}
use Rattle.std.proofs.lemmas.Bool.{cases_lt, cases_eq}
use Rattle.batch.specs.Batches.{IsBatch}
use Rattle.batch.specs.declared.limits.TheConstants.{MAX_MODULES}
use Rattle.batch.specs.declared.transfer.Transfer.{Transfer}
use Rattle.link_graph.specs.declared.limits.TheConstants.{LINKS}
use Rattle.link_graph.specs.declared.link.End.{End}
use Rattle.link_graph.specs.declared.link.End.TheVariants.{Zero, Three}
use Rattle.link_graph.specs.declared.link.Link.{Link}
use Rattle.link_graph.specs.Links.{link_index}
use Rattle.link_graph.specs.Uses.{Uses, start_link, answer_link}
use Rattle.link_graph.specs.Links.{other_end}
use Rattle.batch.specs.Overlap.{no_transfer, transfer_at}
use Rattle.alternating_path.specs.Ends.{end_link, link_at}
use Rattle.alternating_path.specs.Colouring.{colour_at, IsProper, IsFree}
use Rattle.alternating_path.specs.Cells.{place_at}
use Rattle.alternating_path.proofs.Writes.{some_within}

pub other-other : (e : End) → other_end (other_end e) ≡ e
other-other Zero = refl
other-other Three = refl

zero_three : (a b : End) → a ≡ Zero → b ≡ Three → a ≡ b → ⊥
zero_three a b p q e = cc

end-link_of : (x : Transfer) (e : End) → (end_link x e).end ≡ e
end-link_of x Zero = refl
end-link_of x Three = refl

of_end : (x : Transfer) (link : Link) (e : End) → link.end ≡ e → (link ≡ start_link x) ⊎ (link ≡ answer_link x) → link ≡ end_link x e
of_end x link Zero is (inl p) = p
of_end x link Zero is (inr p) = absurd (zero_three link.end (answer_link x).end is refl (ap (λ (l : Link). l.end) p))
of_end x link Three is (inl p) = absurd (zero_three (start_link x).end link.end refl is (sym (ap (λ (l : Link). l.end) p)))
of_end x link Three is (inr p) = p

-- ---- transfers and their links

pub end-link_at : (g : List Transfer) (t : ℕ) (e : End) → (link_at g t e).end ≡ e
unfolding link_at
end-link_at g t e = end-link_of (transfer_at g t) e

pub uses-link_at : (g : List Transfer) (t : ℕ) (e : End) → t < length g → Uses g t (link_at g t e)
unfolding link_at
uses-link_at g t Zero within = (transfer_at g t, slice_get-get_or g t no_transfer within, inl refl)
uses-link_at g t Three within = (transfer_at g t, slice_get-get_or g t no_transfer within, inr refl)

pub uses_within : (g : List Transfer) (t : ℕ) (link : Link) → Uses g t link → t < length g
uses_within g t link uses = slice_get_within g t uses.0 uses.1

-- a transfer uses just one link at each end
pub uses_at : (g : List Transfer) (t : ℕ) (link : Link) → Uses g t link → link ≡ link_at g t link.end
unfolding link_at
uses_at g t link uses =
    let is : transfer_at g t ≡ uses.0 = get_or_from_slice_get g t uses.0 no_transfer uses.1 in
    rw is (of_end uses.0 link link.end refl uses.2)

pub uses_same_end : (g : List Transfer) (t u : ℕ) (e : End) → Uses g u (link_at g t e) → link_at g u e ≡ link_at g t e
uses_same_end g t u e uses = ap (link_at g u) (sym (end-link_at g t e)) ∙ sym (uses_at g u (link_at g t e) uses)

-- ---- proper colourings and free colours, by the links at an end

module _ (g : List Transfer) (f : List (Option ℕ)) (sized : length f ≡ length g) where
  pub uses_placed : (u c : ℕ) (e : End) → colour_at f u ≡ Some c → Uses g u (link_at g u e)
  uses_placed u c e at = uses-link_at g u e (rw (← sized) (some_within f u c at))

  pub not_free : (t u c : ℕ) (e : End) → IsFree g f (link_at g t e) c → colour_at f u ≡ Some c → link_at g u e ≡ link_at g t e → ⊥
  not_free t u c e free at same = free.none u at (subst (λ (l : Link). Uses g u l) same (uses_placed u c e at))

pub free_from : (g : List Transfer) (f : List (Option ℕ)) (t c : ℕ) (e : End) → ((u : ℕ) → colour_at f u ≡ Some c → link_at g u e ≡ link_at g t e → ⊥)
    → IsFree g f (link_at g t e) c
free_from g f t c e none = record { none = λ u at uses. none u at (uses_same_end g t u e uses) }

-- two transfers of one colour that share a link are one
pub same_transfer : (g : List Transfer) (k : ℕ) (f : List (Option ℕ)) (t u c : ℕ) (e : End) → IsProper g k f → colour_at f t ≡ Some c → colour_at f u ≡ Some c
    → link_at g t e ≡ link_at g u e → t ≡ u
same_transfer g k f t u c e p at_t at_u same = elim (cases_eq t u) [
  | inl is ↦ is
  | inr other ↦
      absurd ((p.apart t u c other at_t at_u).none_common (link_at g t e) (uses_placed g f p.sized t c e at_t)
      (subst (λ (l : Link). Uses g u l) (sym same) (uses_placed g f p.sized u c e at_u)))
]

-- ---- places in a row

low : (g : List Transfer) → IsBatch g → (t : ℕ) → ((transfer_at g t).initiator < MAX_MODULES) × ((transfer_at g t).responder < MAX_MODULES)
low g batch t = elim (cases_lt t (length g)) [
  | inl within ↦ (batch.within t no_transfer within).0
  | inr past ↦ let P : Transfer → Type 0 = λ x. (x.initiator < MAX_MODULES) × (x.responder < MAX_MODULES) in subst P (sym (get_or_past g t no_transfer past))
      (omega arith, omega arith)
]

pub place_low : (g : List Transfer) (t : ℕ) (e : End) → IsBatch g → place_at g t e < LINKS
unfolding place_at link_at
place_low g t Zero batch = let l = low g batch t in omega arith
place_low g t Three batch = let l = low g batch t in omega arith

-- the links 0 stand before the links 3
pub start_low : (g : List Transfer) (t : ℕ) → IsBatch g → place_at g t Zero < MAX_MODULES
unfolding place_at link_at
start_low g t batch = (low g batch t).0

pub answer_high : (g : List Transfer) (t : ℕ) → MAX_MODULES ≤ place_at g t Three
unfolding place_at link_at
answer_high g t = omega arith

-- a common place of two transfers is at the same end of both
pub same_end : (g : List Transfer) (t u : ℕ) (e o : End) → IsBatch g → place_at g t e ≡ place_at g u o → e ≡ o
unfolding place_at link_at
same_end g t u Zero Zero batch same = refl
same_end g t u Zero Three batch same = let l = low g batch t in absurd (omega arith)
same_end g t u Three Zero batch same = let l = low g batch u in absurd (omega arith)
same_end g t u Three Three batch same = refl

-- and it is the place of a common link
pub same_link : (g : List Transfer) (t u : ℕ) (e : End) → place_at g t e ≡ place_at g u e → link_at g t e ≡ link_at g u e
unfolding place_at link_at
same_link g t u Zero same = ap (λ (m : ℕ). let l : Link = record { end = Zero; «module» = m } in l) same
same_link g t u Three same = let m : (transfer_at g t).responder ≡ (transfer_at g u).responder =
    omega arith in ap (λ (m : ℕ). let l : Link = record { end = Three; «module» = m } in l) m

pub place-link : (g : List Transfer) (t u : ℕ) (e : End) → link_at g t e ≡ link_at g u e → place_at g t e ≡ place_at g u e
unfolding place_at
place-link g t u e same = ap link_index same

-- the places of the two links that a transfer uses
pub ends_places : (g : List Transfer) (t : ℕ) (r : Link × Link) → t < length g
    → option_map (λ (x : Transfer). let p : Link × Link = (start_link x, answer_link x) in p) (slice_get g t) ≡ Some r → (link_index r.0 ≡ place_at g t Zero)
    × (link_index r.1 ≡ place_at g t Three)
unfolding place_at link_at
ends_places g t r within is =
    let pair : Link × Link = (start_link (transfer_at g t), answer_link (transfer_at g t)) in
    let there : ◌≡◌ {A = Option (Link × Link)} (Some pair) (Some r) =
    sym (ap (option_map (λ (x : Transfer). let p : Link × Link = (start_link x, answer_link x) in p)) (slice_get-get_or g t no_transfer within)) ∙ is in
    let same : pair ≡ r = same_Some pair r there in
    (ap (λ (p : Link × Link). link_index p.0) (sym same), ap (λ (p : Link × Link). link_index p.1) (sym same))
