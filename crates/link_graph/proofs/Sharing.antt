-- When two transfers of a setting share a link, told by how often each link is used.
use Rattle.std.proofs.Common.{◌≡◌, ℕ, suc, zero, ◌+◌, ◌<◌, ◌≤◌, List, [], ◌∷◌, ◌++◌, length, get_or, take, All, Option, Some, None, slice_get, refl, sym, ap, subst, ◌∙◌, arith, inl, inr}
use Rattle.std.specs.Prelude.{nat_lt, position}
use Rattle.std.proofs.lemmas.Bool.{ltb-true, ltb-false}
use Rattle.std.proofs.lemmas.List.{take_more, get_or-take, length-take-le}
use Rattle.std.proofs.lemmas.List.Elements.{All-from_get_or, filter_map-append}
use Rattle.std.proofs.lemmas.List.Quantifiers.{position-Some}
use Rattle.std.proofs.lemmas.List.Sums.{sum_by-cons}
use Rattle.std.proofs.lemmas.Option.{slice_get_cases, slice_get_within, slice_get-get_or, get_or_from_slice_get}
use Rattle.batch.specs.declared.limits.TheConstants.{MAX_MODULES}
use Rattle.batch.specs.declared.transfer.Transfer.{Transfer}
use Rattle.batch.specs.Batches.{IsBatch}
use Rattle.link_graph.specs.declared.limits.TheConstants.{LINKS}
use Rattle.link_graph.specs.declared.link.Link.{Link}
use Rattle.link_graph.specs.Links.{StandsBefore, link_index}
use Rattle.link_graph.specs.Uses.{Uses, IsMatching}
use Rattle.link_graph.specs.Counts.{uses}
use Rattle.link_graph.specs.Tables.{AreCounts}
use Rattle.link_graph.specs.Checks.{IsShared}
use Rattle.link_graph.specs.Marks.{members}
use Rattle.link_graph.proofs.Firsts.{none_passes}
use Rattle.link_graph.proofs.Users.{some_same, uses_or_not, use_of, use_yes, use_no, uses_at, at_used}
use Rattle.link_graph.proofs.Tables.{modules_of, module_fits, index_below, before_index}

-- ---- the transfers of a setting, one after the other

abbrev one_member : Option Transfer → List Transfer
one_member None = []
one_member (Some x) = x ∷ []

members-one : (batch : List Transfer) (t : ℕ) → members batch (t ∷ []) ≡ one_member (slice_get batch t)
members-one batch t = elim (slice_get_cases batch t).1 [ inl p ↦ rw p.2 refl | inr p ↦ rw p.1 refl ]

members_more : (batch : List Transfer) (setting : List ℕ) (i d : ℕ) → i < length setting → members batch (take (i + 1) setting) ≡ members batch (take i setting)
    ++ one_member (slice_get batch (get_or setting i d))
members_more batch setting i d lt =
    ap (members batch) (take_more setting i d lt) ∙ filter_map-append (λ t. slice_get batch t) (take i setting) (get_or setting i d ∷ [])
    ∙ ap (λ (xs : List Transfer). members batch (take i setting) ++ xs) (members-one batch (get_or setting i d))

pub some_more : (batch : List Transfer) (setting : List ℕ) (i d : ℕ) (x : Transfer) → i < length setting → slice_get batch (get_or setting i d) ≡ Some x
    → members batch (take (i + 1) setting) ≡ members batch (take i setting) ++ x ∷ []
some_more batch setting i d x lt here = members_more batch setting i d lt ∙ ap (λ (o : Option Transfer). members batch (take i setting) ++ one_member o) here

pub none_more : (batch : List Transfer) (setting : List ℕ) (i d : ℕ) → i < length setting → slice_get batch (get_or setting i d) ≡ None
    → members batch (take (i + 1) setting) ≡ members batch (take i setting) ++ []
none_more batch setting i d lt none = members_more batch setting i d lt ∙ ap (λ (o : Option Transfer). members batch (take i setting) ++ one_member o) none

members-cons_some : (batch : List Transfer) (t : ℕ) (ts : List ℕ) (x : Transfer) → slice_get batch t ≡ Some x → members batch (t ∷ ts) ≡ x ∷ members batch ts
members-cons_some batch t ts x here = rw here refl

members-cons_none : (batch : List Transfer) (t : ℕ) (ts : List ℕ) → slice_get batch t ≡ None → members batch (t ∷ ts) ≡ members batch ts
members-cons_none batch t ts none = rw none refl

pub members_few : (batch : List Transfer) (setting : List ℕ) → length (members batch setting) ≤ length setting
members_few batch [] = omega arith
members_few batch (t ∷ ts) = elim (slice_get_cases batch t).1 [
  | inl p ↦ omega (arith, ap length (members-cons_some batch t ts p.0 p.2), members_few batch ts)
  | inr p ↦ omega (arith, ap length (members-cons_none batch t ts p.1), members_few batch ts)
]

-- ---- uses of a link in a setting

abbrev InSetting : List Transfer → List ℕ → Link → ℕ → Type 0
InSetting batch setting link i = (t : ℕ) × (slice_get setting i ≡ Some t) × Uses batch t link

uses-cons_yes : (batch : List Transfer) (t : ℕ) (ts : List ℕ) (link : Link) → Uses batch t link → uses (members batch (t ∷ ts)) link
    ≡ 1 + uses (members batch ts) link
uses-cons_yes batch t ts link used =
    let x : Transfer = used.0 in
    omega (
      arith,
      ap (λ (xs : List Transfer). uses xs link) (members-cons_some batch t ts x used.1),
      sum_by-cons (use_of link) x (members batch ts),
      use_yes link x (at_used batch t link x used.1 used),
    )

uses-cons_no : (batch : List Transfer) (t : ℕ) (ts : List ℕ) (link : Link) → (Uses batch t link → ⊥) → uses (members batch (t ∷ ts)) link
    ≡ uses (members batch ts) link
uses-cons_no batch t ts link not_used = elim (slice_get_cases batch t).1 [
  | inl p ↦ omega (
    arith,
    ap (λ (xs : List Transfer). uses xs link) (members-cons_some batch t ts p.0 p.2),
    sum_by-cons (use_of link) p.0 (members batch ts),
    use_no link p.0 (λ e. not_used (uses_at batch t link p.0 p.2 e)),
  )
  | inr p ↦ ap (λ (xs : List Transfer). uses xs link) (members-cons_none batch t ts p.1)
]

used_in : (batch : List Transfer) (setting : List ℕ) (link : Link) → 0 < uses (members batch setting) link → (i : ℕ) × InSetting batch setting link i
used_in batch [] link some = absurd (omega arith)
used_in batch (t ∷ ts) link some = elim (uses_or_not batch link t) [
  | inl used ↦ (0, (t, refl, used))
  | inr not_used ↦ let r = used_in batch ts link (omega (arith, uses-cons_no batch t ts link not_used)) in (suc r.0, r.1)
]

in_used : (batch : List Transfer) (setting : List ℕ) (link : Link) (i : ℕ) → InSetting batch setting link i → 0 < uses (members batch setting) link
in_used batch [] link i inside = absurd (let bad : None ≡ Some inside.0 = inside.1 in cc)
in_used batch (t ∷ ts) link zero inside =
    let same : t ≡ inside.0 = some_same t inside.0 inside.1 in
    omega (arith, uses-cons_yes batch t ts link (subst (λ (u : ℕ). Uses batch u link) (sym same) inside.2))
in_used batch (t ∷ ts) link (suc i) inside =
    let rest = in_used batch ts link i inside in
    elim (uses_or_not batch link t) [
      | inl used ↦ omega (arith, uses-cons_yes batch t ts link used)
      | inr not_used ↦
          omega (arith, rest, uses-cons_no batch t ts link not_used)
    ]

pub shared_from_count : (batch : List Transfer) (setting : List ℕ) (link : Link) → 1 < uses (members batch setting) link → IsShared batch setting link
shared_from_count batch [] link many = absurd (omega arith)
shared_from_count batch (t ∷ ts) link many = elim (uses_or_not batch link t) [
  | inl used ↦
      let r = used_in batch ts link (omega (arith, uses-cons_yes batch t ts link used)) in
      record { i = 0; j = suc r.0; apart = omega arith; one = (t, refl, used); other = r.1 }
  | inr not_used ↦
      let s = shared_from_count batch ts link (omega (arith, uses-cons_no batch t ts link not_used)) in
      record { i = suc s.i; j = suc s.j; apart = omega (arith, s.apart); one = s.one; other = s.other }
]

two_used : (batch : List Transfer) (setting : List ℕ) (link : Link) (i j : ℕ) → i < j → InSetting batch setting link i → InSetting batch setting link j
    → 1 < uses (members batch setting) link
two_used batch [] link i j lt one other = absurd (let bad : None ≡ Some one.0 = one.1 in cc)
two_used batch (t ∷ ts) link zero zero lt one other = absurd (omega arith)
two_used batch (t ∷ ts) link zero (suc j) lt one other =
    let same : t ≡ one.0 = some_same t one.0 one.1 in
    omega (arith, uses-cons_yes batch t ts link (subst (λ (u : ℕ). Uses batch u link) (sym same) one.2), in_used batch ts link j other)
two_used batch (t ∷ ts) link (suc i) zero lt one other = absurd (omega arith)
two_used batch (t ∷ ts) link (suc i) (suc j) lt one other =
    let rest = two_used batch ts link i j (omega arith) one other in
    elim (uses_or_not batch link t) [
      | inl used ↦ omega (arith, rest, uses-cons_yes batch t ts link used)
      | inr not_used ↦
          omega (arith, rest, uses-cons_no batch t ts link not_used)
    ]

pub count_from_shared : (batch : List Transfer) (setting : List ℕ) (link : Link) → IsShared batch setting link → 1 < uses (members batch setting) link
count_from_shared batch setting link s = two_used batch setting link s.i s.j s.apart s.one s.other

pub matching_from_none_shared : (batch : List Transfer) (setting : List ℕ) → ((link : Link) → IsShared batch setting link → ⊥) → IsMatching batch setting
matching_from_none_shared batch setting none i j d lt within = record {
  none_common =
      λ link one other. none link (record {
        i = i;
        j = j;
        apart = lt;
        one = (get_or setting i d, slice_get-get_or setting i d (omega arith), one);
        other =
            (get_or setting j d, slice_get-get_or setting j d within, other);
      });
}

pub shared_no_matching : (batch : List Transfer) (setting : List ℕ) (link : Link) → IsMatching batch setting → IsShared batch setting link → ⊥
shared_no_matching batch setting link matching s =
    let t : ℕ = s.one.0 in
    let u : ℕ = s.other.0 in
    let within : s.j < length setting = slice_get_within setting s.j u s.other.1 in
    (matching s.i s.j 0 s.apart within).none_common link
    (subst (λ (v : ℕ). Uses batch v link) (sym (get_or_from_slice_get setting s.i t 0 s.one.1)) s.one.2)
    (subst (λ (v : ℕ). Uses batch v link) (sym (get_or_from_slice_get setting s.j u 0 s.other.1)) s.other.2)

-- ---- the table of a setting

pub in_rack : (batch : List Transfer) (t : ℕ) (link : Link) → IsBatch batch → Uses batch t link → link.«module» < MAX_MODULES
in_rack batch t link b used = subst (λ (m : ℕ). m < MAX_MODULES) (at_used batch t link used.0 used.1 used)
    (module_fits link.end used.0 (modules_of batch t used.0 used.1 b))

-- the first place with a count above 1
pub place_of_two : (counts : List ℕ) (place : ℕ) → position (λ count. nat_lt 1 count) counts ≡ Some place → (place < length counts)
    × (1 < get_or counts place 0) × All (λ count. count ≤ 1) (take place counts)
place_of_two counts place some =
    let p = position-Some (λ count. nat_lt 1 count) counts place 0 some in (
      p.0,
      ltb-true _ _ p.1,
      All-from_get_or (λ count. count ≤ 1) (take place counts) 0 (λ k lt.
          let before : k < place = omega (arith, lt, length-take-le place counts (omega (arith, p.0))) in
          omega (arith, get_or-take place counts k 0 before, ltb-false _ _ (p.2 k before))),
    )

pub none_above_one : (counts : List ℕ) → position (λ count. nat_lt 1 count) counts ≡ None → All (λ count. count ≤ 1) counts
none_above_one counts none = All-from_get_or (λ count. count ≤ 1) counts 0 (λ k lt. ltb-false _ _ (none_passes (λ count. nat_lt 1 count) counts k 0 none lt))

-- where no count is above 1, below some place, no link before that place is shared
pub none_shared : (batch : List Transfer) (setting : List ℕ) (counts : List ℕ) (place : ℕ) (link : Link) → IsBatch batch
    → AreCounts counts (members batch setting) → place ≤ LINKS → All (λ count. count ≤ 1) (take place counts) → link_index link < place
    → IsShared batch setting link → ⊥
none_shared batch setting counts place link b table le few lt shared =
    let rack = in_rack batch shared.one.0 link b shared.one.2 in
    let at : get_or (take place counts) (link_index link) 0 ≡ get_or counts (link_index link) 0 = get_or-take place counts (link_index link) 0 lt in
    let one : get_or (take place counts) (link_index link) 0 ≤ 1 =
    few (link_index link) 0 (omega (arith, length-take-le place counts (omega (arith, table.places)))) in
    omega (arith, at, one, table.at link rack, count_from_shared batch setting link shared)

pub first_link : (batch : List Transfer) (setting : List ℕ) (counts : List ℕ) (place : ℕ) (link : Link) → IsBatch batch
    → AreCounts counts (members batch setting) → place < LINKS → 1 < get_or counts place 0 → link_index link ≡ place → link.«module» < MAX_MODULES
    → IsShared batch setting link
first_link batch setting counts place link b table lt many at rack =
    shared_from_count batch setting link (omega (arith, table.at link rack, ap (λ (i : ℕ). get_or counts i 0) at))

pub none_before : (batch : List Transfer) (setting : List ℕ) (counts : List ℕ) (place : ℕ) (link other : Link) → IsBatch batch
    → AreCounts counts (members batch setting) → place < LINKS → All (λ count. count ≤ 1) (take place counts) → link_index link ≡ place
    → link.«module» < MAX_MODULES → StandsBefore other link → IsShared batch setting other → ⊥
none_before batch setting counts place link other b table lt few at rack before shared =
    none_shared batch setting counts place other b table (omega arith) few
    (omega (arith, before_index other link before (in_rack batch shared.one.0 other b shared.one.2) rack)) shared

pub no_link : (batch : List Transfer) (setting : List ℕ) (counts : List ℕ) → IsBatch batch → AreCounts counts (members batch setting)
    → All (λ count. count ≤ 1) counts → IsMatching batch setting
no_link batch setting counts b table few = matching_from_none_shared batch setting (λ link shared.
    let rack = in_rack batch shared.one.0 link b shared.one.2 in
    let one : get_or counts (link_index link) 0 ≤ 1 = few (link_index link) 0 (omega (arith, table.places, index_below link rack)) in
    omega (arith, one, table.at link rack, count_from_shared batch setting link shared))
