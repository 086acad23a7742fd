-- Each partner of a link wants a change of its own: a setting joins the link to one partner at
-- most.
use Rattle.std.proofs.Common.{get_or, ◌≡◌, ◌==◌, ℕ, zero, suc, ◌+◌, ◌≤◌, List, [], ◌∷◌, Bool, true, false, not, ◌&&◌, ◌||◌, All, Some, slice_get, subst, refl, ap, ◌∙◌, inl, inr, arith}
use Rattle.std.specs.List.{list_any}
use Rattle.std.proofs.lemmas.Bool.{cases_lt, cases_Bool, and_parts}
use Rattle.std.proofs.lemmas.Bool.Decides.{nat_tests, eqb_tells, same_from_decides}
use Rattle.std.proofs.lemmas.List.Elements.{All-head, All-tail}
use Rattle.std.proofs.lemmas.List.Folds.{Any-from_list_any, list_any_at, list_any-from_Any}
use Rattle.std.proofs.lemmas.List.Sums.{sum_by-cons, AllPass-from_list_all}
use Rattle.std.proofs.lemmas.Option.{slice_get-get_or}
use Rattle.batch.specs.declared.limits.TheConstants.{MAX_MODULES}
use Rattle.batch.specs.declared.transfer.Transfer.{Transfer}
use Rattle.link_graph.specs.declared.link.End.{End}
use Rattle.link_graph.specs.declared.link.End.TheVariants.{Zero, Three}
use Rattle.link_graph.specs.declared.link.Link.{Link}
use Rattle.link_graph.specs.Counts.{count_below, module_at, uses}
use Rattle.link_graph.specs.Links.{other_end}
use Rattle.link_graph.specs.Marks.{members}
use Rattle.link_graph.specs.Schedules.{IsScheduleOf}
use Rattle.link_graph.specs.Uses.{IsMatching}
use Rattle.link_graph.proofs.Sharing.{shared_from_count, shared_no_matching}
use Rattle.link_graph.proofs.Users.{use_of}
use Rattle.link_graph.proofs.Masks.{bit}
use Rattle.steady_schedule.specs.Changes.{are_partners, join_within, join_same, changes_after, changes}
use Rattle.steady_schedule.specs.Partners.{joins_to, partners}
use Rattle.steady_schedule.proofs.Standing.{member_any, some_stands}

-- ---- counts

pub count_within : (n : ℕ) (f g h : ℕ → Bool) → ((i : ℕ) → bit (f i) ≤ bit (g i) + bit (h i)) → count_below n f ≤ count_below n g + count_below n h
count_within zero f g h is = omega arith
count_within (suc n) f g h is = omega (arith, is n, count_within n f g h is)

pub count_none : (n : ℕ) (f : ℕ → Bool) → ((i : ℕ) → f i ≡ false) → count_below n f ≡ 0
count_none zero f none = refl
count_none (suc n) f none = omega (arith, ap bit (none n), count_none n f none)

count_past : (n k : ℕ) (c : Bool) → n ≤ k → count_below n (λ i. c && k == i) ≡ 0
count_past zero k c le = refl
count_past (suc n) k c le = grind (arith, nat_tests, count_past n k c (omega arith))

-- a number is at most one of those below n
pub count_one : (n k : ℕ) (c : Bool) → count_below n (λ i. c && k == i) ≤ bit c
count_one zero k c = omega arith
count_one (suc n) k c = elim (eqb_tells k n) [
  | inl p ↦ grind (arith, nat_tests, count_past n k c (omega (arith, p.1)))
  | inr p ↦ grind (arith, nat_tests, count_one n k c)
]

within_same : (was now later : Bool) → was ≡ now → bit ((now || later) && not was) ≤ bit (later && not now) + bit false
within_same was now later same = grind (arith, nat_tests)

within_new : (was now later : Bool) → bit ((now || later) && not was) ≤ bit (later && not now) + bit now
within_new was now later = grind (arith, nat_tests)

within_first : (now later : Bool) → bit (now || later) ≤ bit (later && not now) + bit now
within_first now later = grind (arith, nat_tests)

implied : (a b : Bool) → (a ≡ true → b ≡ true) → bit a ≤ bit b + bit false
implied true b h = rw (h refl) (omega arith)
implied false b h = omega arith

-- ---- partners among some transfers

module _ (link : Link) where
  -- whether one of the transfers joins the link to that of module m
  abbrev pub meets : List Transfer → ℕ → Bool
  meets transfers m = list_any (joins_to link m) transfers

  pub partners_few : (n : ℕ) (xs : List Transfer) → count_below n (meets xs) ≤ uses xs link
  partners_few n [] = omega (arith, count_none n (meets []) (λ i. refl))
  partners_few n (x ∷ xs) =
      let more = count_within n (meets (x ∷ xs)) (λ i. joins_to link i x) (meets xs) (λ i. grind (arith, nat_tests)) in
      omega (
        arith,
        more,
        count_one n (module_at (other_end link.end) x) (module_at link.end x == link.«module»),
        partners_few n xs,
        sum_by-cons (use_of link) x xs,
      )

  one_partner : (n : ℕ) (batch : List Transfer) (setting : List ℕ) → IsMatching batch setting → count_below n (meets (members batch setting)) ≤ 1
  one_partner n batch setting matching = elim (cases_lt 1 (uses (members batch setting) link)) [
    | inl many ↦ absurd (shared_no_matching batch setting link matching (shared_from_count batch setting link many))
    | inr few ↦ omega (arith, few, partners_few n (members batch setting))
  ]

  -- ---- settings that join the same pairs

  same_modules : (e : End) (x y : Transfer) → (y.initiator == x.initiator && y.responder == x.responder) ≡ true → module_at e y ≡ module_at e x
  same_modules Zero x y same = grind (arith, nat_tests)
  same_modules Three x y same = grind (arith, nat_tests)

  pub meets_within : (xs ys : List Transfer) (m : ℕ) → join_within xs ys ≡ true → meets xs m ≡ true → meets ys m ≡ true
  meets_within xs ys m within some =
      let one = Any-from_list_any (joins_to link m) xs some in
      let x : Transfer = one.1 in
      let also : are_partners ys x.initiator x.responder ≡ true = subst (λ (z : Transfer). are_partners ys z.initiator z.responder ≡ true) one.3
      (AllPass-from_list_all (λ z. are_partners ys z.initiator z.responder) xs within one.0 x one.2) in
      let other = Any-from_list_any (λ y. y.initiator == x.initiator && y.responder == x.responder) ys also in
      let y : Transfer = other.1 in
      let joined : joins_to link m y ≡ true = rw (same_modules link.end x y other.4, same_modules (other_end link.end) x y other.4) one.4 in
      list_any-from_Any (joins_to link m) ys (other.0, y, other.2, other.3, joined)

  pub same_meets : (batch : List Transfer) (one other : List ℕ) (m : ℕ) → join_same batch one other ≡ true → meets (members batch one) m
      ≡ meets (members batch other) m
  same_meets batch one other m same =
      let both = and_parts (join_within (members batch one) (members batch other)) (join_within (members batch other) (members batch one)) same in
      same_from_decides (meets (members batch one) m) (meets (members batch other) m)
      (λ t. meets_within (members batch one) (members batch other) m both.0 t, λ t. meets_within (members batch other) (members batch one) m both.1 t)
      (λ t. t, λ t. t)

  -- ---- the partners of all settings

  abbrev met : List Transfer → List (List ℕ) → ℕ → Bool
  met batch settings m = list_any (λ setting. meets (members batch setting) m) settings

  met_after : (n : ℕ) (batch : List Transfer) (before : List ℕ) (rest : List (List ℕ)) → All (IsMatching batch) rest
      → count_below n (λ m. met batch rest m && not (meets (members batch before) m)) ≤ changes_after batch before rest
  met_after n batch before [] matchings = omega (arith, count_none n (λ m. false && not (meets (members batch before) m)) (λ i. refl))
  met_after n batch before (setting ∷ rest) matchings =
      let next = met_after n batch setting rest (All-tail (IsMatching batch) setting rest matchings) in
      let was : ℕ → Bool = meets (members batch before) in
      let now : ℕ → Bool = meets (members batch setting) in
      let later : ℕ → Bool = met batch rest in
      elim (cases_Bool (join_same batch before setting)) [
        | inl same ↦
            let none = count_none n (λ m. false) (λ i. refl) in
            let within = count_within n (λ m. (now m || later m) && not (was m)) (λ m. later m && not (now m)) (λ m. false)
            (λ m. within_same (was m) (now m) (later m) (same_meets batch before setting m same)) in
            rw same (omega (arith, next, none, within))
        | inr differ ↦
            let within = count_within n (λ m. (now m || later m) && not (was m)) (λ m. later m && not (now m)) now
            (λ m. within_new (was m) (now m) (later m)) in
            rw differ (omega (arith, next, within, one_partner n batch setting (All-head (IsMatching batch) setting rest matchings)))
      ]

  met_all : (n : ℕ) (batch : List Transfer) (settings : List (List ℕ)) → All (IsMatching batch) settings → count_below n (met batch settings) ≤ changes batch
      settings
  met_all n batch [] matchings = omega (arith, count_none n (met batch []) (λ i. refl))
  met_all n batch (setting ∷ rest) matchings =
      let now : ℕ → Bool = meets (members batch setting) in
      let later : ℕ → Bool = met batch rest in
      let within = count_within n (λ m. now m || later m) (λ m. later m && not (now m)) now (λ m. within_first (now m) (later m)) in
      omega (
        arith,
        within,
        one_partner n batch setting (All-head (IsMatching batch) setting rest matchings),
        met_after n batch setting rest (All-tail (IsMatching batch) setting rest matchings),
      )

  -- ---- each transfer stands in a setting

  all_met : (batch : List Transfer) (settings : List (List ℕ)) (m : ℕ) → IsScheduleOf batch settings → meets batch m ≡ true → met batch settings m ≡ true
  all_met batch settings m schedule some =
      let one = Any-from_list_any (joins_to link m) batch some in
      let here : slice_get batch one.0 ≡ Some one.1 = slice_get-get_or batch one.0 one.1 one.2 ∙ ap (λ (x : Transfer). Some x) one.3 in
      let at = some_stands one.0 settings (omega (arith, schedule.once one.0 one.2)) in
      list_any_at (λ setting. meets (members batch setting) m) settings at.0 [] at.1 (member_any batch (get_or settings at.0 []) (joins_to link m) one.0 one.1
      at.2 here one.4)

pub need_changes : (batch : List Transfer) (settings : List (List ℕ)) (link : Link) → IsScheduleOf batch settings → partners batch link ≤ changes batch settings
unfolding partners
need_changes batch settings link schedule =
    let none = count_none MAX_MODULES (λ m. false) (λ i. refl) in
    let within = count_within MAX_MODULES (meets link batch) (met link batch settings) (λ m. false)
    (λ m. implied (meets link batch m) (met link batch settings m) (all_met link batch settings m schedule)) in
    omega (arith, within, none, met_all link MAX_MODULES batch settings schedule.matchings)
