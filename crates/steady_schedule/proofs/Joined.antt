-- The table of what a setting joins, and the count of changes.
use Rattle.std.proofs.Common.{◌↔◌, ◌≡◌, ◌≢◌, ◌==◌, ℕ, zero, suc, ◌+◌, ◌-◌, ◌<◌, ◌≤◌, List, [], ◌∷◌, ◌++◌, length, get_or, set, take, drop, replicate, Bool, true, false, not, ◌&&◌, cond, Option, Some}
use Rattle.std.proofs.Common.{None, All, slice_get, refl, sym, ap, ◌∙◌, subst, inl, inr, eq-eqb, get_or-set_same, get_or-set_other, arith}
use Rattle.std.proofs.Math.Bool.{not-not}
use Rattle.std.proofs.lemmas.Bool.{cases_Bool, and_parts, and_from, eqb-true, false≢true}
use Rattle.std.proofs.lemmas.Bool.Decides.{nat_tests, eqb_tells, same_from_decides}
use Rattle.std.specs.Bool.{Decides}
use Rattle.std.specs.Cmp.{IsEquivalence}
use Rattle.std.specs.List.{AllByRecursion, IsDistinct, list_any}
use Rattle.std.specs.Option.{option_eq}
use Rattle.std.proofs.lemmas.List.{length-replicate, length-set, length_push, length-take-le, get_or-take, drop_more, take_all}
use Rattle.std.proofs.lemmas.List.Folds.{Any-from_list_any, list_any_at, list_any-from_Any}
use Rattle.std.proofs.lemmas.List.Sums.{list_all-from_AllPass}
use Rattle.std.proofs.lemmas.Map.Keys.{IsDistinct-push}
use Rattle.std.proofs.lemmas.Map.Made.{length-le_from_is_member}
use Rattle.std.proofs.lemmas.Option.{none-some, same_Some, get_or_from_slice_get, slice_get_cases}
use Rattle.batch.specs.declared.limits.TheConstants.{MAX_MODULES}
use Rattle.batch.specs.declared.transfer.Transfer.{Transfer}
use Rattle.link_graph.specs.declared.link.End.TheVariants.{Zero}
use Rattle.link_graph.specs.Marks.{members}
use Rattle.link_graph.specs.Uses.{IsMatching, start_link}
use Rattle.link_graph.specs.Counts.{uses}
use Rattle.link_graph.proofs.Sharing.{some_more, shared_from_count, shared_no_matching}
use Rattle.link_graph.proofs.Users.{made, uses_push, use_yes}
use Rattle.steady_schedule.specs.Changes.{are_partners, join_within, join_same, changes_after, changes}
use Rattle.steady_schedule.specs.Joined.{HaveResponders}
use Rattle.steady_schedule.proofs.NeedChanges.{meets, meets_within, partners_few}
use Rattle.steady_schedule.proofs.PartnerMasks.{any_push, count_some}

-- ---- one transfer more

pub none_there : (n u : ℕ) → get_or {A = Option ℕ} (replicate n None) u None ≡ None
none_there zero u = refl
none_there (suc n) zero = refl
none_there (suc n) (suc u) = none_there n u

pub none_joined : HaveResponders [] (replicate MAX_MODULES None)
none_joined = record {
  sized = length-replicate {A = Option ℕ} MAX_MODULES None;
  just = λ u v. (λ e. absurd (none-some v (sym (none_there MAX_MODULES u) ∙ e)), λ t. absurd (false≢true t));
}

-- the entry of a module is another, and the pairs of all others are as they were
table_set : (xs ys : List Transfer) (joined : List (Option ℕ)) (a : ℕ) (o : Option ℕ) → HaveResponders xs joined → a < MAX_MODULES
    → ((v : ℕ) → (o ≡ Some v) ↔ (are_partners ys a v ≡ true)) → ((u v : ℕ) → a ≢ u → are_partners ys u v ≡ are_partners xs u v)
    → HaveResponders ys (set joined a o)
table_set xs ys joined a o so_far low here others = record {
  sized = length-set joined a o ∙ so_far.sized;
  just = λ u v. elim (eqb_tells a u) [
    | inl p ↦
        let at = get_or-set_same joined a o None (omega (arith, so_far.sized)) in
        subst (λ (w : ℕ). (get_or (set joined a o) w None ≡ Some v) ↔ (are_partners ys w v ≡ true)) p.1 (λ e. (here v).0 (sym at ∙ e), λ t. at ∙ (here v).1 t)
    | inr p ↦
        let other = get_or-set_other joined a u o None (λ e. p.1 (sym e)) in
        (λ e. others u v p.1 ∙ (so_far.just u v).0 (sym other ∙ e), λ t. other ∙ (so_far.just u v).1 (sym (others u v p.1) ∙ t))
  ];
}

pub joined_more : (xs : List Transfer) (x : Transfer) (joined : List (Option ℕ)) (a b : ℕ) → HaveResponders xs joined → a ≡ x.initiator → b ≡ x.responder
    → a < MAX_MODULES → ((v : ℕ) → are_partners xs a v ≡ false) → HaveResponders (xs ++ x ∷ []) (set joined a (Some b))
joined_more xs x joined a b so_far start answer low fresh =
    let pushed = λ (u v : ℕ). any_push (λ (y : Transfer). y.initiator == u && y.responder == v) xs x in
    table_set xs (xs ++ x ∷ []) joined a (Some b) so_far low (λ v. (
      λ e. rw (pushed a v, fresh v) (and_from (x.initiator == a) (x.responder == v) (eq-eqb x.initiator a (sym start))
          (eq-eqb x.responder v (sym answer ∙ same_Some b v e))),
      λ t.
          let both = and_parts (x.initiator == a) (x.responder == v) (rw (pushed a v, fresh v) at t) in
          ap (λ (n : ℕ). Some n) (answer ∙ eqb-true x.responder v both.1),
    )) (λ u v ne. grind (arith, nat_tests, pushed u v))

matching-take : (batch : List Transfer) (n : ℕ) (setting : List ℕ) → IsMatching batch setting → IsMatching batch (take n setting)
matching-take batch n setting matching i j d lt within =
    let few = length-take-le' n setting in
    let j_in : j < n = omega (arith, within, few) in
    rw (get_or-take n setting i d (omega arith), get_or-take n setting j d j_in) (matching i j d lt (omega (arith, within, few)))
  where
    length-take-le' : (n : ℕ) (xs : List ℕ) → (length (take n xs) ≤ n) × (length (take n xs) ≤ length xs)
    length-take-le' zero xs = (omega arith, omega arith)
    length-take-le' (suc n) [] = (omega arith, omega arith)
    length-take-le' (suc n) (x ∷ xs) = let r = length-take-le' n xs in (omega (arith, r.0), omega (arith, r.1))

-- no transfer before it in the setting has its link 0
pub fresh_module : (batch : List Transfer) (setting : List ℕ) (i v : ℕ) (x : Transfer) → i < length setting → slice_get batch (get_or setting i 0) ≡ Some x
    → IsMatching batch setting → are_partners (members batch (take i setting)) x.initiator v ≡ false
fresh_module batch setting i v x lt here matching =
    let before : List Transfer = members batch (take i setting) in
    elim (cases_Bool (are_partners before x.initiator v)) [
      | inr none ↦ none
      | inl some ↦
          let used = count_some (v + 1) v (meets (start_link x) before) (omega arith) some in
          let two : 1 < uses (members batch (take (i + 1) setting)) (start_link x) = rw (some_more batch setting i 0 x lt here)
          (omega (arith, uses_push before x (start_link x), use_yes (start_link x) x refl, used, partners_few (start_link x) (v + 1) before)) in
          absurd (shared_no_matching batch (take (i + 1) setting) (start_link x) (matching-take batch (i + 1) setting matching)
          (shared_from_count batch (take (i + 1) setting) (start_link x) two))
    ]

-- ---- one transfer less

pub one_less : (batch : List Transfer) (setting : List ℕ) (place : ℕ) (x : Transfer) → place < length setting → slice_get batch (get_or setting place 0)
    ≡ Some x → members batch (drop place setting) ≡ x ∷ members batch (drop (place + 1) setting)
one_less batch setting place x lt here = ap (members batch) (drop_more setting place 0 lt) ∙ (rw here refl)

-- whether two transfers use the same link 0
abbrev pub same_start : Transfer → Transfer → Bool
same_start x y = x.initiator == y.initiator

not_joined : (x : Transfer) (v : ℕ) (xs : List Transfer) → AllByRecursion (λ y. same_start x y ≡ false) xs → are_partners xs x.initiator v ≡ false
not_joined x v [] others = refl
not_joined x v (y ∷ ys) others = grind (arith, nat_tests, others.0, not_joined x v ys others.1)

pub joined_less : (xs : List Transfer) (x : Transfer) (joined : List (Option ℕ)) (a : ℕ) → HaveResponders (x ∷ xs) joined → a ≡ x.initiator → a < MAX_MODULES
    → AllByRecursion (λ y. same_start x y ≡ false) xs → HaveResponders xs (set joined a None)
joined_less xs x joined a so_far start low others =
    let gone : (v : ℕ) → are_partners xs a v ≡ false = λ v. rw start (not_joined x v xs others) in
    table_set (x ∷ xs) xs joined a None so_far low (λ v. (λ e. absurd (none-some v e), λ t. absurd (false≢true (sym (gone v) ∙ t))))
    (λ u v ne. grind (arith, nat_tests))

-- ---- matchings have no link 0 twice

pub record AreStarts (batch : List Transfer) (setting : List ℕ) : Type 0 where
  pub apart : IsDistinct same_start (members batch setting)
  pub many : length (members batch setting) ≡ length setting

same_start_laws : IsEquivalence same_start
same_start_laws = record {
  refl = λ x. eq-eqb x.initiator x.initiator refl;
  symm = λ x y. grind (arith, nat_tests);
  congr = λ x y z same. ap (λ (n : ℕ). n == z.initiator) (eqb-true x.initiator y.initiator same);
}

none_apart : IsDistinct same_start []
unfolding IsDistinct
none_apart = tt

not_started : (xs : List Transfer) (x : Transfer) → ((v : ℕ) → are_partners xs x.initiator v ≡ false) → list_any (same_start x) xs ≡ false
not_started [] x fresh = refl
not_started (y ∷ ys) x fresh = grind (arith, nat_tests, fresh y.responder, not_started ys x (λ v. grind (arith, nat_tests, fresh v)))

starts_to : (batch : List Transfer) (setting : List ℕ) → All (λ t. t < length batch) setting → IsMatching batch setting → (i : ℕ) → i ≤ length setting
    → AreStarts batch (take i setting)
starts_to batch setting known matching zero le = record { apart = none_apart; many = refl }
starts_to batch setting known matching (suc i) le =
    let before = starts_to batch setting known matching i (omega arith) in
    elim (slice_get_cases batch (get_or setting i 0)).1 [
      | inl p ↦
          let x : Transfer = p.0 in
          let so_far : List Transfer = members batch (take i setting) in
          let more : members batch (take (i + 1) setting) ≡ so_far ++ x ∷ [] = some_more batch setting i 0 x (omega arith) p.2 in
          let next : i + 1 ≡ suc i = omega arith in
          let fresh = not_started so_far x (λ v. fresh_module batch setting i v x (omega arith) p.2 matching) in
          let are : AreStarts batch (take (i + 1) setting) = record {
            apart = subst (IsDistinct same_start) (sym more) (IsDistinct-push same_start_laws so_far x before.apart fresh);
            many = omega (
              arith,
              ap length more,
              length_push so_far x,
              before.many,
              length-take-le i setting (omega arith),
              length-take-le (i + 1) setting (omega arith),
            );
          } in
          subst (λ (n : ℕ). AreStarts batch (take n setting)) next are
      | inr p ↦ absurd (omega (arith, p.0, known i 0 (omega arith)))
    ]

pub starts_of : (batch : List Transfer) (setting : List ℕ) → All (λ t. t < length batch) setting → IsMatching batch setting → AreStarts batch setting
starts_of batch setting known matching = subst (AreStarts batch) (take_all (length setting) setting (omega arith))
    (starts_to batch setting known matching (length setting) (omega arith))

-- ---- pairs that stand among others

within_each : (xs ys : List Transfer) → ((x : Transfer) → are_partners xs x.initiator x.responder ≡ true → are_partners ys x.initiator x.responder ≡ true)
    → join_within xs ys ≡ true
within_each xs ys implied =
    list_all-from_AllPass (λ x. are_partners ys x.initiator x.responder) xs (λ k d lt.
    let x : Transfer = get_or xs k d in
    implied x (list_any_at (λ (y : Transfer). y.initiator == x.initiator && y.responder == x.responder) xs k d lt
    (and_from (x.initiator == x.initiator) (x.responder == x.responder) (eq-eqb x.initiator x.initiator refl) (eq-eqb x.responder x.responder refl))))

pub within_from : (xs ys : List Transfer) → ((u v : ℕ) → are_partners xs u v ≡ true → are_partners ys u v ≡ true) → join_within xs ys ≡ true
within_from xs ys implied = within_each xs ys (λ x. implied x.initiator x.responder)

pub join_met : (xs ys : List Transfer) (u v : ℕ) → join_within xs ys ≡ true → are_partners xs u v ≡ true → are_partners ys u v ≡ true
join_met xs ys u v within some = meets_within (made Zero u) xs ys v within some

-- a transfer with its own pair
joined_start : (q : Transfer) (v : ℕ) (ys : List Transfer) → are_partners ys q.initiator v ≡ true → list_any (same_start q) ys ≡ true
joined_start q v [] some = some
joined_start q v (y ∷ ys) some = elim (cases_Bool (same_start q y)) [
  | inl same ↦ rw same refl
  | inr other ↦ rw other (joined_start q v ys (grind (arith, nat_tests)))
]

started_join : (q : Transfer) (xs : List Transfer) → list_any (same_start q) xs ≡ true → (v : ℕ) × (are_partners xs q.initiator v ≡ true)
started_join q xs some =
    let one = Any-from_list_any (same_start q) xs some in
    let x : Transfer = one.1 in (
      x.responder,
      list_any-from_Any (λ (y : Transfer). y.initiator == q.initiator && y.responder == x.responder) xs
          (one.0, x, one.2, one.3, grind (arith, nat_tests, one.4)),
    )

started_within : (xs ys : List Transfer) (q : Transfer) → join_within xs ys ≡ true → list_any (same_start q) xs ≡ true → list_any (same_start q) ys ≡ true
started_within xs ys q within some =
    let v = started_join q xs some in
    joined_start q v.0 ys (join_met xs ys q.initiator v.0 within v.1)

no_more : (xs ys : List Transfer) → IsDistinct same_start xs → join_within xs ys ≡ true → length xs ≤ length ys
no_more xs ys apart within = length-le_from_is_member same_start_laws xs ys apart (λ q some. started_within xs ys q within some)

-- as many pairs are all of them
all_within : (xs ys : List Transfer) (joined : List (Option ℕ)) → HaveResponders ys joined → IsDistinct same_start xs → length xs ≡ length ys
    → join_within xs ys ≡ true → join_within ys xs ≡ true
all_within xs ys joined are apart as_many within = within_each ys xs (λ y some. elim (cases_Bool (list_any (same_start y) xs)) [
  | inl met ↦
      let w = started_join y xs met in
      let same : w.0 ≡ y.responder = same_Some w.0 y.responder (sym ((are.just y.initiator w.0).1 (join_met xs ys y.initiator w.0 within w.1))
      ∙ (are.just y.initiator y.responder).1 some) in
      subst (λ (n : ℕ). are_partners xs y.initiator n ≡ true) same w.1
  | inr none ↦
      let more = length-le_from_is_member same_start_laws (xs ++ y ∷ []) ys (IsDistinct-push same_start_laws xs y apart none)
      (λ q stands. elim (cases_Bool (list_any (same_start q) xs)) [
        | inl met ↦ started_within xs ys q within met
        | inr other ↦
            let is : same_start q y ≡ true = rw (any_push (same_start q) xs y, other) at stands in
            joined_start q y.responder ys (subst (λ (n : ℕ). are_partners ys n y.responder ≡ true) (sym (eqb-true q.initiator y.initiator is)) some)
      ]) in
      absurd (omega (arith, more, length_push xs y, as_many))
])

option_decides : (o p : Option ℕ) → Decides (option_eq ◌==◌ o p) (o ≡ p)
option_decides None None = (λ t. refl, λ e. refl)
option_decides None (Some y) = (λ t. absurd (false≢true t), λ e. absurd (none-some y e))
option_decides (Some x) None = (λ t. absurd (false≢true t), λ e. absurd (none-some x (sym e)))
option_decides (Some x) (Some y) = (λ t. ap (λ (n : ℕ). Some n) (eqb-true x y t), λ e. eq-eqb x y (same_Some x y e))

-- ---- settings that join the same pairs

test_is : (others : List Transfer) (joined : List (Option ℕ)) (x : Transfer) (a b : ℕ) → HaveResponders others joined → a ≡ x.initiator → b ≡ x.responder
    → option_eq ◌==◌ (get_or joined a None) (Some b) ≡ are_partners others x.initiator x.responder
test_is others joined x a b are start answer =
    rw (start, answer)
    (same_from_decides (option_eq ◌==◌ (get_or joined x.initiator None) (Some x.responder)) (are_partners others x.initiator x.responder)
    (option_decides (get_or joined x.initiator None) (Some x.responder)) (
      λ t. (are.just x.initiator x.responder).1 t,
      λ e. (are.just x.initiator x.responder).0 e,
    ))

-- the pair of a transfer stands among others just where the table has it
pub stands : (others : List Transfer) (joined : List (Option ℕ)) (x : Transfer) (a b : ℕ) (differ : Bool) → HaveResponders others joined → a ≡ x.initiator → b
    ≡ x.responder → differ ≡ not (option_eq ◌==◌ (get_or joined a None) (Some b)) → are_partners others x.initiator x.responder ≡ not differ
stands others joined x a b differ are start answer test =
    sym (test_is others joined x a b are start answer) ∙ (sym (not-not (option_eq ◌==◌ (get_or joined a None) (Some b))) ∙ ap not (sym test))

pub within_less : (batch others : List Transfer) (setting : List ℕ) (place : ℕ) (x : Transfer) → place < length setting
    → slice_get batch (get_or setting place 0) ≡ Some x → join_within (members batch (drop place setting)) others
    ≡ (are_partners others x.initiator x.responder && join_within (members batch (drop (place + 1) setting)) others)
within_less batch others setting place x lt here = ap (λ (xs : List Transfer). join_within xs others) (one_less batch setting place x lt here)

pub same_from_within : (batch : List Transfer) (one other : List ℕ) (joined : List (Option ℕ)) (all : Bool) → AreStarts batch one → AreStarts batch other
    → HaveResponders (members batch one) joined → length other ≡ length one → all ≡ join_within (members batch other) (members batch one) → all
    ≡ join_same batch one other
same_from_within batch one other joined all one_is other_is are as_many test = elim (cases_Bool all) [
  | inl same ↦
      let within : join_within (members batch other) (members batch one) ≡ true = sym test ∙ same in
      let back = all_within (members batch other) (members batch one) joined are other_is.apart (omega (arith, one_is.many, other_is.many)) within in
      same ∙ sym (and_from (join_within (members batch one) (members batch other)) (join_within (members batch other) (members batch one)) back within)
  | inr differ ↦ grind (arith, nat_tests)
]

pub differ_from_length : (batch : List Transfer) (one other : List ℕ) → AreStarts batch one → AreStarts batch other → length other ≢ length one
    → join_same batch one other ≡ false
differ_from_length batch one other one_is other_is differ = elim (cases_Bool (join_same batch one other)) [
  | inl same ↦
      let both = and_parts (join_within (members batch one) (members batch other)) (join_within (members batch other) (members batch one)) same in
      absurd (differ (omega (
        arith,
        one_is.many,
        other_is.many,
        no_more (members batch one) (members batch other) one_is.apart both.0,
        no_more (members batch other) (members batch one) other_is.apart both.1,
      )))
  | inr none ↦ none
]

-- so the table of one is that of the other
pub joined_same : (batch : List Transfer) (one other : List ℕ) (joined : List (Option ℕ)) → join_same batch one other ≡ true
    → HaveResponders (members batch one) joined → HaveResponders (members batch other) joined
joined_same batch one other joined same are =
    let both = and_parts (join_within (members batch one) (members batch other)) (join_within (members batch other) (members batch one)) same in
    record {
      sized = are.sized;
      just = λ u v. (
        λ e. join_met (members batch one) (members batch other) u v both.0 ((are.just u v).0 e),
        λ t. (are.just u v).1 (join_met (members batch other) (members batch one) u v both.1 t),
      );
    }

-- ---- the count

-- whether the switch changes, by whether the pairs are the same
abbrev pub change : Bool → ℕ
change same = cond same 0 1

pub counted_more : (batch : List Transfer) (settings : List (List ℕ)) (k count after : ℕ) (setting : List ℕ) (same : Bool) → k < length settings
    → slice_get settings k ≡ Some setting → same ≡ join_same batch (get_or settings (k - 1) []) setting → after ≡ count + change same
    → count + changes_after batch (get_or settings (k - 1) []) (drop k settings) ≡ changes batch settings → after + changes_after batch setting
    (drop (k + 1) settings) ≡ changes batch settings
counted_more batch settings k count after setting same lt here test counts so_far =
    let old : List ℕ = get_or settings (k - 1) [] in
    let at : get_or settings k [] ≡ setting = get_or_from_slice_get settings k setting [] here in
    let split : drop k settings ≡ setting ∷ drop (k + 1) settings = drop_more settings k [] lt ∙ ap (λ (s : List ℕ). s ∷ drop (k + 1) settings) at in
    let step : changes_after batch old (drop k settings) ≡ cond (join_same batch old setting) 0 1 + changes_after batch setting (drop (k + 1) settings) =
    ap (changes_after batch old) split in
    omega (arith, so_far, step, counts, ap change test)

pub started : (batch : List Transfer) (settings : List (List ℕ)) (first : List ℕ) → slice_get settings 0 ≡ Some first
    → (1 + changes_after batch (get_or settings 0 []) (drop 1 settings) ≡ changes batch settings) × (get_or settings 0 [] ≡ first)
started batch [] first here = absurd (none-some first here)
started batch (s ∷ rest) first here = (refl, same_Some s first here)

pub at_setting : (settings : List (List ℕ)) (k : ℕ) (setting : List ℕ) → slice_get settings k ≡ Some setting → get_or settings (k + 1 - 1) [] ≡ setting
at_setting settings k setting here =
    let same : k + 1 - 1 ≡ k = omega arith in
    rw same (get_or_from_slice_get settings k setting [] here)
