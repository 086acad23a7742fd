-- The classes of a colouring, each where its first number is seen.
use Rattle.std.proofs.Common.{◌≡◌, ◌≢◌, ℕ, ◌+◌, ◌<◌, ◌≤◌, ◌↔◌, cond, List, [], ◌∷◌, ◌++◌, length, get_or, set, All, Option, Some, None, IsSome, is_some, ◌⊎◌, refl, sym, ap, subst, ◌∙◌, arith, inl}
use Rattle.std.proofs.Common.{inr}
use Rattle.std.specs.Prelude.{count_by, AllPairs, Contains}
use Rattle.std.proofs.lemmas.Bool.{cases_lt, cases_eq, false≢true}
use Rattle.std.proofs.lemmas.Option.{same_Some, none-some}
use Rattle.std.proofs.lemmas.List.{length-set, length_push, get_or_default, get_or_append_left, get_or_push, get_or-set_same, get_or-set_other}
use Rattle.std.proofs.lemmas.List.Elements.{All-set, All-push, All-get_or, All-weaker, All-from_get_or, Contains-append_left, Contains-push, Contains-push_cases, Contains-get_or}
use Rattle.std.proofs.lemmas.List.Quantifiers.{all_pairs_push}
use Rattle.std.proofs.lemmas.List.Sums.{sum_by-set}
use Rattle.batch.specs.declared.transfer.Transfer.{Transfer}
use Rattle.batch.proofs.Lists.{one, one_same, one_other, times_into, times_alone}
use Rattle.link_graph.specs.Uses.{IsMatching}
use Rattle.link_graph.specs.Schedules.{times, IsScheduleOf}
use Rattle.alternating_path.specs.Colouring.{colour_at, HasColour, IsProper}
use Rattle.alternating_path.specs.Classes.{IsClassOf, AreClassesOf}
use Rattle.alternating_path.proofs.Writes.{some_within}

pub some_is : (o : Option ℕ) → IsSome o → (c : ℕ) × (o ≡ Some c)
some_is None h = absurd (false≢true h)
some_is (Some c) h = (c, refl)

-- ---- the numbers below n stand in their classes

-- the setting holds just the numbers below n of one colour
pub record IsClassBelow (f : List (Option ℕ)) (n c : ℕ) (setting : List ℕ) : Type 0 where
  pub just : (u : ℕ) → Contains setting u ↔ ((u < n) × (colour_at f u ≡ Some c))

-- the least number of a setting
abbrev pub least : List (List ℕ) → ℕ → ℕ
least settings k = get_or (get_or settings k []) 0 0

pub record Partial (f : List (Option ℕ)) (n : ℕ) (setting_of : List (Option ℕ)) (settings : List (List ℕ)) : Type 0 where
  pub known : (c k : ℕ) → get_or setting_of c None ≡ Some k → k < length settings
  pub part : (c k : ℕ) → get_or setting_of c None ≡ Some k → IsClassBelow f n c (get_or settings k [])
  pub owner : (k : ℕ) → k < length settings → (c : ℕ) × (get_or setting_of c None ≡ Some k)
  pub seen : (u c : ℕ) → u < n → colour_at f u ≡ Some c → IsSome (get_or setting_of c None)
  pub count : length settings ≡ count_by (λ o. is_some o) setting_of
  pub once : (u : ℕ) → u < n → HasColour f u → times u settings ≡ 1
  pub not_yet : (u : ℕ) → n ≤ u → times u settings ≡ 0
  pub none_empty : All (λ s. 0 < length s) settings
  pub ascending : All (AllPairs (λ t u. t < u)) settings
  pub below : All (All (λ u. u < n)) settings
  pub by_least : (i j : ℕ) → i < j → j < length settings → least settings i < least settings j

pub rise_all : (n : ℕ) (settings : List (List ℕ)) → All (All (λ u. u < n)) settings → All (All (λ u. u < n + 1)) settings
rise_all n settings = All-weaker (All (λ u. u < n)) (All (λ u. u < n + 1)) (λ s. All-weaker (λ u. u < n) (λ u. u < n + 1) (λ u lt. omega arith) s) settings

-- a number that isn't placed changes nothing
pub passed_over : (f : List (Option ℕ)) (n : ℕ) (setting_of : List (Option ℕ)) (settings : List (List ℕ)) → Partial f n setting_of settings → colour_at f n
    ≡ None → Partial f (n + 1) setting_of settings
passed_over f n setting_of settings p out =
    let earlier : (u c : ℕ) → u < n + 1 → colour_at f u ≡ Some c → u < n = λ u c lt is. elim (cases_eq u n) [
      | inl same ↦ absurd (none-some c (sym out ∙ (ap (colour_at f) (sym same) ∙ is)))
      | inr other ↦ omega arith
    ] in
    record {
      known = p.known;
      part = λ c k is. record {
        just = λ u. (
          λ inside. let old = ((p.part c k is).just u).0 inside in (omega (arith, old.0), old.1),
          λ both. ((p.part c k is).just u).1 (earlier u c both.0 both.1, both.1),
        );
      };
      owner = p.owner;
      seen = λ u c lt is. p.seen u c (earlier u c lt is) is;
      count = p.count;
      once = λ u lt placed. let c = some_is _ placed in p.once u (earlier u c.0 lt c.1) placed;
      not_yet = λ u le. p.not_yet u (omega arith);
      none_empty = p.none_empty;
      ascending = p.ascending;
      below = rise_all n settings p.below;
      by_least = p.by_least;
    }

module _ (f : List (Option ℕ)) (n c : ℕ) (setting_of : List (Option ℕ)) (settings : List (List ℕ)) (p : Partial f n setting_of settings)
    (is : colour_at f n ≡ Some c) where
  -- what holds of u, and how often it stands, once n stands too
  once_more : (new : List (List ℕ)) → ((u : ℕ) → times u new ≡ times u settings + one u n) → (u : ℕ) → u < n + 1 → HasColour f u → times u new ≡ 1
  once_more new more u lt placed = elim (cases_eq u n) [
    | inl same ↦ omega (arith, more u, one_same u n same, p.not_yet u (omega arith))
    | inr other ↦ omega (arith, more u, one_other u n other, p.once u (omega arith) placed)
  ]

  not_yet_more : (new : List (List ℕ)) → ((u : ℕ) → times u new ≡ times u settings + one u n) → (u : ℕ) → n + 1 ≤ u → times u new ≡ 0
  not_yet_more new more u le = let other : u ≢ n = λ e. omega arith in omega (arith, more u, one_other u n other, p.not_yet u (omega arith))

  -- a class gets its next number
  next_part : (setting : List ℕ) → IsClassBelow f n c setting → IsClassBelow f (n + 1) c (setting ++ n ∷ [])
  next_part setting part = record {
    just = λ u. (
      λ inside. elim (Contains-push_cases setting n u inside) [
        | inl old ↦ let both = (part.just u).0 old in (omega (arith, both.0), both.1)
        | inr same ↦ (omega arith, ap (colour_at f) (sym same) ∙ is)
      ],
      λ both. elim (cases_eq u n) [
        | inl same ↦ subst (λ x. Contains (setting ++ n ∷ []) x) (sym same) (Contains-push setting n)
        | inr other ↦ Contains-append_left setting (n ∷ []) u ((part.just u).1 (let lt = both.0 in omega arith, both.1))
      ],
    );
  }

  -- another class stays
  other_part : (d : ℕ) (setting : List ℕ) → d ≢ c → IsClassBelow f n d setting → IsClassBelow f (n + 1) d setting
  other_part d setting other part = record {
    just = λ u. (
      λ inside. let both = (part.just u).0 inside in (omega (arith, both.0), both.1),
      λ both. (part.just u).1 (
        elim (cases_eq u n) [
          | inl same ↦ absurd (other (same_Some d c (sym both.1 ∙ (ap (colour_at f) same ∙ is))))
          | inr away ↦ (let lt = both.0 in omega arith)
        ],
        both.1,
      ),
    );
  }

  -- ---- n goes into the setting of its colour

  module _ (k : ℕ) (at : get_or setting_of c None ≡ Some k) where
    k_in : k < length settings
    k_in = p.known c k at

    -- one setting has one colour
    one_colour : (d : ℕ) → get_or setting_of d None ≡ Some k → d ≡ c
    one_colour d at_d =
        let some : 0 < length (get_or settings k []) = All-get_or (λ s. 0 < length s) settings k [] k_in p.none_empty in
        let first : Contains (get_or settings k []) (get_or (get_or settings k []) 0 0) = Contains-get_or (get_or settings k []) 0 0 some in
        same_Some d c (sym (((p.part d k at_d).just _).0 first).1 ∙ (((p.part c k at).just _).0 first).1)

    same_least : (i : ℕ) → least (set settings k (get_or settings k [] ++ n ∷ [])) i ≡ least settings i
    same_least i = elim (cases_eq i k) [
      | inl same ↦
          let some : 0 < length (get_or settings k []) = All-get_or (λ s. 0 < length s) settings k [] k_in p.none_empty in
          ap (λ j. get_or (get_or (set settings k (get_or settings k [] ++ n ∷ [])) j []) 0 0) same
          ∙ (ap (λ (s : List ℕ). get_or s 0 0) (get_or-set_same settings k (get_or settings k [] ++ n ∷ []) [] k_in)
          ∙ (get_or_append_left (get_or settings k []) (n ∷ []) 0 0 some ∙ ap (λ j. get_or (get_or settings j []) 0 0) (sym same)))
      | inr other ↦ ap (λ (s : List ℕ). get_or s 0 0) (get_or-set_other settings k i (get_or settings k [] ++ n ∷ []) [] other)
    ]

    pub goes_into : Partial f (n + 1) setting_of (set settings k (get_or settings k [] ++ n ∷ []))
    goes_into =
        let sized : length (set settings k (get_or settings k [] ++ n ∷ [])) ≡ length settings = length-set settings k (get_or settings k [] ++ n ∷ []) in
        let seen_n : IsSome (get_or setting_of c None) = ap is_some at in
        record {
          known = λ d j at_j. rw sized (p.known d j at_j);
          part = λ d j at_j. elim (cases_eq j k) [
            | inl same ↦
                let dc : d ≡ c = one_colour d (at_j ∙ ap Some same) in
                subst (λ x. IsClassBelow f (n + 1) d (get_or (set settings k (get_or settings k [] ++ n ∷ [])) x [])) (sym same)
                (rw (get_or-set_same settings k (get_or settings k [] ++ n ∷ []) [] k_in) (rw dc (next_part (get_or settings k []) (p.part c k at))))
            | inr other ↦
                let away : d ≢ c = λ dc. other (same_Some j k (sym at_j ∙ (ap (λ x. get_or setting_of x None) dc ∙ at))) in
                rw (get_or-set_other settings k j (get_or settings k [] ++ n ∷ []) [] other) (other_part d (get_or settings j []) away (p.part d j at_j))
          ];
          owner = λ j lt. p.owner j (rw (← sized) lt);
          seen = λ u d lt at_u. elim (cases_eq u n) [
            | inl same ↦ subst (λ x. IsSome (get_or setting_of x None)) (same_Some c d (sym is ∙ (ap (colour_at f) (sym same) ∙ at_u))) seen_n
            | inr other ↦ p.seen u d (omega arith) at_u
          ];
          count = sized ∙ p.count;
          once = once_more (set settings k (get_or settings k [] ++ n ∷ [])) (λ u. times_into u n k settings k_in);
          not_yet = not_yet_more (set settings k (get_or settings k [] ++ n ∷ [])) (λ u. times_into u n k settings k_in);
          none_empty = All-set (λ s. 0 < length s) settings k (get_or settings k [] ++ n ∷ []) (omega (arith, length_push (get_or settings k []) n))
              p.none_empty;
          ascending = All-set (AllPairs (λ t u. t < u)) settings k (get_or settings k [] ++ n ∷ [])
              (all_pairs_push (λ t u. t < u) (get_or settings k []) n (All-get_or (AllPairs (λ t u. t < u)) settings k [] k_in p.ascending)
              (All-get_or (All (λ u. u < n)) settings k [] k_in p.below)) p.ascending;
          below = All-set (All (λ u. u < n + 1)) settings k (get_or settings k [] ++ n ∷ [])
              (All-push (λ u. u < n + 1) (get_or settings k []) n (All-get_or (All (λ u. u < n + 1)) settings k [] k_in (rise_all n settings p.below))
              (omega arith)) (rise_all n settings p.below);
          by_least = λ i j less lt. rw (same_least i, same_least j) (p.by_least i j less (rw (← sized) lt));
        }

  -- ---- n is the first of its colour

  module _ (none : get_or setting_of c None ≡ None) (c_in : c < length setting_of) where
    at_new : (d k : ℕ) → get_or (set setting_of c (Some (length settings))) d None ≡ Some k → ((d ≡ c) × (k ≡ length settings))
        ⊎ ((d ≢ c) × (get_or setting_of d None ≡ Some k))
    at_new d k at_d = elim (cases_eq d c) [
      | inl same ↦ inl (
        same,
        same_Some k (length settings)
            (sym at_d ∙ (ap (λ x. get_or (set setting_of c (Some (length settings))) x None) same ∙ get_or-set_same setting_of c (Some (length settings)) None
            c_in)),
      )
      | inr other ↦ inr (other, sym (get_or-set_other setting_of c d (Some (length settings)) None other) ∙ at_d)
    ]

    still : (d : ℕ) → IsSome (get_or setting_of d None) → IsSome (get_or (set setting_of c (Some (length settings))) d None)
    still d was = elim (cases_eq d c) [
      | inl same ↦ absurd (false≢true (sym (ap is_some none) ∙ (ap (λ x. is_some (get_or setting_of x None)) (sym same) ∙ was)))
      | inr other ↦ ap is_some (get_or-set_other setting_of c d (Some (length settings)) None other) ∙ was
    ]

    -- the colour had no number yet
    alone_part : IsClassBelow f (n + 1) c (n ∷ [])
    alone_part = record {
      just = λ u. (
        λ inside. elim (Contains-push_cases [] n u inside) [
          | inl old ↦ absurd (omega (arith, old.1))
          | inr same ↦ (omega arith, ap (colour_at f) (sym same) ∙ is)
        ],
        λ both. elim (cases_eq u n) [
          | inl same ↦ subst (λ x. Contains (n ∷ []) x) (sym same) (Contains-push [] n)
          | inr other ↦ absurd (false≢true (sym (ap is_some none) ∙ p.seen u c (let lt = both.0 in omega arith) both.1))
        ],
      );
    }

    least_before : (i : ℕ) → i < length settings → least (settings ++ (n ∷ []) ∷ []) i ≡ least settings i
    least_before i lt = ap (λ (s : List ℕ). get_or s 0 0) (get_or_append_left settings ((n ∷ []) ∷ []) [] i lt)

    least_below : (i : ℕ) → i < length settings → least settings i < n
    least_below i lt = All-get_or (λ u. u < n) (get_or settings i []) 0 0 (All-get_or (λ s. 0 < length s) settings i [] lt p.none_empty)
        (All-get_or (All (λ u. u < n)) settings i [] lt p.below)

    least_last : least (settings ++ (n ∷ []) ∷ []) (length settings) ≡ n
    least_last = ap (λ (s : List ℕ). get_or s 0 0) (get_or_push settings (n ∷ []) [] (length settings) refl)

    pub goes_alone : Partial f (n + 1) (set setting_of c (Some (length settings))) (settings ++ (n ∷ []) ∷ [])
    goes_alone =
        let sized : length (settings ++ (n ∷ []) ∷ []) ≡ length settings + 1 = length_push settings (n ∷ []) in
        record {
          known = λ d k at_d. elim (at_new d k at_d) [
            | inl new ↦ omega (arith, new.1)
            | inr old ↦ omega (arith, p.known d k old.1)
          ];
          part = λ d k at_d. elim (at_new d k at_d) [
            | inl new ↦
                subst (λ x. IsClassBelow f (n + 1) d (get_or (settings ++ (n ∷ []) ∷ []) x [])) (sym new.1)
                (rw (get_or_push settings (n ∷ []) [] (length settings) refl) (rw new.0 alone_part))
            | inr old ↦ rw (get_or_append_left settings ((n ∷ []) ∷ []) [] k (p.known d k old.1)) (other_part d (get_or settings k []) old.0 (p.part d k old.1))
          ];
          owner = λ k lt. elim (cases_lt k (length settings)) [
            | inl within ↦
                let o = p.owner k within in
                let other : o.0 ≢ c = λ same. none-some k (sym none ∙ (ap (λ x. get_or setting_of x None) (sym same) ∙ o.1)) in
                (o.0, get_or-set_other setting_of c o.0 (Some (length settings)) None other ∙ o.1)
            | inr last ↦ (c, get_or-set_same setting_of c (Some (length settings)) None c_in ∙ ap Some (omega arith))
          ];
          seen = λ u d lt at_u. elim (cases_eq u n) [
            | inl same ↦
                let cd : c ≡ d = same_Some c d (sym is ∙ (ap (colour_at f) (sym same) ∙ at_u)) in
                subst (λ x. IsSome (get_or (set setting_of c (Some (length settings))) x None)) cd
                (ap is_some (get_or-set_same setting_of c (Some (length settings)) None c_in))
            | inr other ↦ still d (p.seen u d (omega arith) at_u)
          ];
          count =
              let changed = rw none at (sum_by-set (λ (o : Option ℕ). cond (is_some o) 1 0) setting_of c (Some (length settings)) None c_in) in
              omega (arith, sized, p.count, changed);
          once = once_more (settings ++ (n ∷ []) ∷ []) (λ u. times_alone u n settings);
          not_yet = not_yet_more (settings ++ (n ∷ []) ∷ []) (λ u. times_alone u n settings);
          none_empty = All-push (λ s. 0 < length s) settings (n ∷ []) p.none_empty (omega arith);
          ascending = All-push (AllPairs (λ t u. t < u)) settings (n ∷ []) p.ascending (λ i j d less inside. absurd (omega arith));
          below = All-push (All (λ u. u < n + 1)) settings (n ∷ []) (rise_all n settings p.below)
              (All-push (λ u. u < n + 1) [] n (λ k d lt. absurd (omega arith)) (omega arith));
          by_least = λ i j less lt. elim (cases_lt j (length settings)) [
            | inl within ↦ rw (least_before i (omega arith), least_before j within) (p.by_least i j less within)
            | inr last ↦
                let jn : j ≡ length settings = omega arith in
                let early : i < length settings = omega arith in
                rw (jn, least_last, least_before i early) (least_below i early)
          ];
        }

-- ---- all numbers stand in their classes

module _ (f : List (Option ℕ)) (setting_of : List (Option ℕ)) (settings : List (List ℕ)) (p : Partial f (length f) setting_of settings) where
  pub all_classes : AreClassesOf f settings
  all_classes = record {
    none_empty = p.none_empty;
    classes = All-from_get_or (IsClassOf f) settings [] (λ k lt.
        let o = p.owner k lt in
        record {
          c = o.0;
          just = λ t. (λ inside. (((p.part o.0 k o.1).just t).0 inside).1, λ is. ((p.part o.0 k o.1).just t).1 (some_within f t o.0 is, is));
        });
    every = λ t c is.
        let k = some_is _ (p.seen t c (some_within f t c is) is) in
        let k_in : k.0 < length settings = p.known c k.0 k.1 in
        (k.0, get_or settings k.0 [], k_in, get_or_default settings k.0 _ [] k_in, ((p.part c k.0 k.1).just t).1 (some_within f t c is, is));
    ascending = p.ascending;
    by_least = λ i j d less lt.
        let i_in : i < length settings = omega arith in
        let now : get_or (get_or settings i []) 0 0 < get_or (get_or settings j []) 0 0 = p.by_least i j less lt in
        rw (get_or_default settings i d [] i_in, get_or_default settings j d [] lt) now;
  }

-- ---- where all transfers are placed, the classes are a schedule

pub is_schedule : (batch : List Transfer) (k : ℕ) (f : List (Option ℕ)) (settings : List (List ℕ)) → IsProper batch k f → AreClassesOf f settings
    → ((t : ℕ) → HasColour f t → times t settings ≡ 1) → ((t : ℕ) → t < length batch → HasColour f t) → IsScheduleOf batch settings
is_schedule batch k f settings proper classes once all = record {
  matchings = All-from_get_or (IsMatching batch) settings [] (λ i i_in.
      let class = All-get_or (IsClassOf f) settings i [] i_in classes.classes in
      let ascending = All-get_or (AllPairs (λ t u. t < u)) settings i [] i_in classes.ascending in
      λ a b d less b_in.
      let a_in : a < length (get_or settings i []) = omega arith in
      let lt : get_or (get_or settings i []) a d < get_or (get_or settings i []) b d = ascending a b d less b_in in
      let apart : get_or (get_or settings i []) a d ≢ get_or (get_or settings i []) b d = λ e. omega arith in
      proper.apart (get_or (get_or settings i []) a d) (get_or (get_or settings i []) b d) class.c apart
      ((class.just _).0 (Contains-get_or (get_or settings i []) a d a_in)) ((class.just _).0 (Contains-get_or (get_or settings i []) b d b_in)));
  once = λ t lt. once t (all t lt);
  no_other = All-from_get_or (All (λ t. t < length batch)) settings [] (λ i i_in.
      let class = All-get_or (IsClassOf f) settings i [] i_in classes.classes in
      λ a d a_in.
      let placed = (class.just _).0 (Contains-get_or (get_or settings i []) a d a_in) in
      rw (← proper.sized) (some_within f _ class.c placed));
}
