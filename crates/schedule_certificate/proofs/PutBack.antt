-- The first i transfers of a class that was given up are put into the other colours.
use Rattle.std.proofs.Common.{◌≡◌, ℕ, ◌+◌, ◌<◌, ◌≤◌, ◌⊎◌, ◌↔◌, inl, inr, List, [], ◌∷◌, ◌++◌, length, get_or, take, All, None, is_some, sym, ap, ◌∙◌, subst, arith}
use Rattle.std.specs.Prelude.{Contains}
use Rattle.std.proofs.lemmas.Bool.{false≢true}
use Rattle.std.proofs.lemmas.List.{take_more, take_all, get_or-take, get_or_default, length-take}
use Rattle.std.proofs.lemmas.List.Elements.{All-contains, Contains-get_or, Contains-push, Contains-push_cases, Contains-append_left}
use Rattle.batch.specs.declared.transfer.Transfer.{Transfer}
use Rattle.euler_split.specs.Split.{uses_among}
use Rattle.alternating_path.specs.Colouring.{Colouring, colour_at, HasColour, PlacesJust}
use Rattle.alternating_path.specs.Counts.{HasFullLink}
use Rattle.alternating_path.proofs.Singles.{nothing_if}
use Rattle.schedule_certificate.specs.Parts.{HasRoomFor}
use Rattle.schedule_certificate.proofs.Counting.{part_room}

pub record ArePutBack (old : Colouring) (class : List ℕ) (i : ℕ) (s : Colouring) : Type 0 where
  pub batch : s.batch ≡ old.batch
  pub colours : s.colours ≡ old.colours
  pub placed : (t : ℕ) → HasColour s.colour t ↔ (HasColour old.colour t ⊎ Contains (take i class) t)
  pub inserted : s.inserted ≤ old.inserted + i

pub all_back : (old : Colouring) (class : List ℕ) (i : ℕ) (s : Colouring) → length class ≤ i → ArePutBack old class i s → (t : ℕ)
    → HasColour s.colour t ↔ (HasColour old.colour t ⊎ Contains class t)
all_back old class i s past x t = let all : take i class ≡ class = take_all _ _ past in rw all at (x.placed t)

from_front : (xs : List ℕ) (i u : ℕ) → Contains (take i xs) u → (j : ℕ) × (j < i) × (j < length xs) × (get_or xs j 0 ≡ u)
from_front xs i u stands =
    let j : ℕ = stands.0 in
    let j_in : j < i = omega (arith, stands.1, length-take i xs) in
    let j_low : j < length xs = omega (arith, stands.1, length-take i xs) in
    (j, j_in, j_low, get_or_default xs j 0 u j_low ∙ (sym (get_or-take i xs j u j_in) ∙ stands.2))

module _ (old s : Colouring) (class : List ℕ) (i : ℕ) (room : HasRoomFor old class) (x : ArePutBack old class i s) (within : i < length class) where
  abbrev t : ℕ
  t = get_or class i 0

  here : Contains class t
  here = Contains-get_or class i 0 within

  of_class : (u : ℕ) → Contains (take i class) u → Contains class u
  of_class u stands =
      let at = from_front class i u stands in
      subst (Contains class) at.3 (Contains-get_or class at.0 0 at.2)

  a_member : Contains room.whole t
  a_member = (room.each t).1 (inr here)

  known : All (λ u. u < length s.batch) room.whole
  known = subst (λ (b : List Transfer). All (λ u. u < length b) room.whole) (sym x.batch) room.is_part.known

  pub known_now : t < length s.batch
  known_now = All-contains (λ u. u < length s.batch) room.whole t known a_member

  out_now : colour_at s.colour t ≡ None
  out_now = nothing_if (colour_at s.colour t) (λ some. elim ((x.placed t).0 some) [
    | inl was ↦ false≢true (sym (ap is_some (room.out t here)) ∙ was)
    | inr before ↦
        let at = from_front class i t before in
        room.distinct at.0 i 0 at.1 within at.3
  ])

  pub not_placed : HasColour s.colour t → ⊥
  not_placed some = false≢true (sym (ap is_some out_now) ∙ some)

  only : (u : ℕ) → HasColour s.colour u → Contains room.whole u
  only u some = (room.each u).1 (elim ((x.placed u).0 some) [ inl was ↦ inl was | inr before ↦ inr (of_class u before) ])

  pub never_full : HasFullLink s t → ⊥
  never_full full =
      let fits : uses_among s.batch room.whole full.link ≤ s.colours = rw (x.batch, x.colours) (room.room full.link) in
      omega (arith, fits, full.full, part_room s.batch room.whole s.colour t full.link known only a_member out_now full.used)

  pub one_back : (n : Colouring) → n.batch ≡ s.batch → n.colours ≡ s.colours → PlacesJust s.colour n.colour t → n.inserted ≤ s.inserted + 1
      → ArePutBack old class (i + 1) n
  one_back n batch colours just count =
      let longer : take (i + 1) class ≡ take i class ++ t ∷ [] = take_more class i 0 within in
      record {
        batch = batch ∙ x.batch;
        colours = colours ∙ x.colours;
        placed = λ u. (
          λ some. elim ((just.placed u).0 some) [
            | inl before ↦
                elim ((x.placed u).0 before) [
                  | inl was ↦ inl was
                  | inr front ↦
                      inr (subst (λ (l : List ℕ). Contains l u) (sym longer) (Contains-append_left (take i class) (t ∷ []) u front))
                ]
            | inr is ↦ inr (subst (λ (l : List ℕ). Contains l u) (sym longer)
                (subst (Contains (take i class ++ t ∷ [])) (sym is) (Contains-push (take i class) t)))
          ],
          λ either. (just.placed u).1 (elim either [
            | inl was ↦ inl ((x.placed u).1 (inl was))
            | inr front ↦ elim (Contains-push_cases (take i class) t u (subst (λ (l : List ℕ). Contains l u) longer front))
                [ inl before ↦ inl ((x.placed u).1 (inr before)) | inr is ↦ inr (sym is) ]
          ]),
        );
        inserted = omega (arith, x.inserted, count);
      }
