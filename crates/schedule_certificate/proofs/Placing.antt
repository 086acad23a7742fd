-- Placing one transfer after the other.
use Rattle.std.proofs.Common.{◌≡◌, ℕ, ◌+◌, ◌<◌, ◌≤◌, List, [], ◌∷◌, ◌++◌, length, get_or, set, take, All, sym, ap, subst, ◌∙◌, arith, inl, inr}
use Rattle.std.specs.Prelude.{AllPairs, Contains}
use Rattle.std.proofs.lemmas.Bool.{cases_lt}
use Rattle.std.proofs.lemmas.Bool.Decides.{eqb_tells}
use Rattle.std.proofs.lemmas.List.{length-set, length_push, length-take, get_or_append_left, get_or_push, get_or-set_same, get_or-set_other, get_or-take}
use Rattle.std.proofs.lemmas.List.Elements.{All-set, All-push, All-get_or, All-weaker, All-contains, Contains-append_left, Contains-push_cases}
use Rattle.std.proofs.lemmas.List.Quantifiers.{all_pairs_push}
use Rattle.batch.specs.declared.transfer.Transfer.{Transfer}
use Rattle.batch.proofs.Lists.{one, one_same, one_other, times_into, times_alone}
use Rattle.link_graph.specs.Uses.{AreApart, IsMatching}
use Rattle.link_graph.specs.Schedules.{times, IsScheduleOf}
use Rattle.alternating_path.proofs.FirstSeen.{rise_all}
use Rattle.schedule_certificate.specs.FirstFit.{Places, into, alone, IsBlocked, AllBlocked, SharesWithSmaller, IsFirstFit}

-- ---- the transfers below t are placed

pub record Partial (batch : List Transfer) (t : ℕ) (settings : List (List ℕ)) : Type 0 where
  pub matchings : All (IsMatching batch) settings
  pub once : (u : ℕ) → u < t → times u settings ≡ 1
  pub others : (u : ℕ) → t ≤ u → times u settings ≡ 0
  pub below : All (All (λ u. u < t)) settings
  pub count : length settings ≤ t
  pub fits : IsFirstFit batch settings

counts_more : (batch : List Transfer) (t : ℕ) (old new : List (List ℕ)) → Partial batch t old → ((u : ℕ) → times u new ≡ times u old + one u t)
    → All (IsMatching batch) new → All (All (λ u. u < t + 1)) new → length new ≤ t + 1 → IsFirstFit batch new → Partial batch (t + 1) new
counts_more batch t old new p counts matchings below count fits = record {
  fits = fits;
  below = below;
  count = count;
  matchings = matchings;
  once = λ u lt. elim (eqb_tells u t) [
    | inl e ↦ omega (arith, counts u, one_same u t e.1, p.others u (omega (arith, e.1)))
    | inr e ↦ omega (arith, counts u, one_other u t e.1, p.once u (omega (arith, e.1)))
  ];
  others = λ u le. omega (arith, counts u, one_other u t (λ e. omega arith), p.others u (omega arith));
}

rise : (t : ℕ) (setting : List ℕ) → All (λ u. u < t) setting → All (λ u. u < t + 1) setting
rise t setting = All-weaker (λ u. u < t) (λ u. u < t + 1) (λ u lt. omega arith) setting

-- ---- the first setting that was free

not_in_nothing : (x : ℕ) → Contains [] x → ⊥
not_in_nothing x c = omega (arith, c.1)

grows : (batch : List Transfer) (setting more : List ℕ) (x : ℕ) → SharesWithSmaller batch setting x → SharesWithSmaller batch (setting ++ more) x
grows batch setting more x taken = record {
  u = taken.u;
  stands = Contains-append_left setting more taken.u taken.stands;
  smaller = taken.smaller;
  share =
      taken.share;
}

was_blocked : (batch : List Transfer) (setting : List ℕ) (t : ℕ) → All (λ u. u < t) setting → IsBlocked batch setting t → SharesWithSmaller batch setting t
was_blocked batch setting t below blocked =
    record { u = blocked.u; stands = blocked.stands; smaller = All-contains (λ u. u < t) setting blocked.u below blocked.stands; share = blocked.share }

taken_after : (batch : List Transfer) (old : List (List ℕ)) (k t j x : ℕ) → k < length old → SharesWithSmaller batch (get_or old j []) x
    → SharesWithSmaller batch (get_or (set old k (get_or old k [] ++ t ∷ [])) j []) x
taken_after batch old k t j x lt taken =
    elim (eqb_tells j k) [
      | inl e ↦ subst (λ (s : List ℕ). SharesWithSmaller batch s x) (ap (λ (i : ℕ). get_or old i [] ++ t ∷ []) e.1
          ∙ sym (get_or-set_same old k (get_or old k [] ++ t ∷ []) [] lt) ∙ ap (λ (i : ℕ). get_or (set old k (get_or old k [] ++ t ∷ [])) i []) (sym e.1))
          (grows batch (get_or old j []) (t ∷ []) x taken)
      | inr e ↦ subst (λ (s : List ℕ). SharesWithSmaller batch s x) (sym (get_or-set_other old k j (get_or old k [] ++ t ∷ []) [] e.1)) taken
    ]

fits_into : (batch : List Transfer) (t k : ℕ) (old : List (List ℕ)) → Partial batch t old → k < length old → AllBlocked batch (take k old) t
    → IsFirstFit batch (set old k (get_or old k [] ++ t ∷ []))
fits_into batch t k old p lt blocked = record {
  none_empty = All-set (λ s. 0 < length s) old k (get_or old k [] ++ t ∷ []) (omega (arith, length_push (get_or old k []) t)) p.fits.none_empty;
  ascending = All-set (AllPairs (λ a b. a < b)) old k (get_or old k [] ++ t ∷ [])
      (all_pairs_push (λ a b. a < b) (get_or old k []) t (All-get_or (AllPairs (λ a b. a < b)) old k [] lt p.fits.ascending)
      (All-get_or (All (λ u. u < t)) old k [] lt p.below)) p.fits.ascending;
  first = λ j i x less within stands. taken_after batch old k t j x lt (elim (eqb_tells i k) [
    | inl e ↦
        let at : Contains (get_or old k [] ++ t ∷ []) x = subst (λ (s : List ℕ). Contains s x)
        (ap (λ (n : ℕ). get_or (set old k (get_or old k [] ++ t ∷ [])) n []) e.1 ∙ get_or-set_same old k (get_or old k [] ++ t ∷ []) [] lt) stands in
        let before : j < k = omega (arith, e.1, less) in
        elim (Contains-push_cases (get_or old k []) t x at) [
          | inl inside ↦ p.fits.first j k x before lt inside
          | inr is ↦
              let there : IsBlocked batch (get_or old j []) t = subst (λ (s : List ℕ). IsBlocked batch s t) (get_or-take k old j [] before)
              (All-get_or (λ s. IsBlocked batch s t) (take k old) j [] (omega (arith, length-take k old)) blocked) in
              subst (λ (n : ℕ). SharesWithSmaller batch (get_or old j []) n) is
              (was_blocked batch (get_or old j []) t (All-get_or (All (λ u. u < t)) old j [] (omega arith) p.below) there)
        ]
    | inr e ↦ p.fits.first j i x less (omega (arith, within, length-set old k (get_or old k [] ++ t ∷ [])))
        (subst (λ (s : List ℕ). Contains s x) (get_or-set_other old k i (get_or old k [] ++ t ∷ []) [] e.1) stands)
  ]);
}

fits_alone : (batch : List Transfer) (t : ℕ) (old : List (List ℕ)) → Partial batch t old → AllBlocked batch old t → IsFirstFit batch (old ++ (t ∷ []) ∷ [])
fits_alone batch t old p blocked = record {
  none_empty = All-push (λ s. 0 < length s) old (t ∷ []) p.fits.none_empty (omega arith);
  ascending = All-push (AllPairs (λ a b. a < b)) old (t ∷ []) p.fits.ascending (λ i j d lt inside. absurd (omega arith));
  first = λ j i x less within stands.
      let few : i < length old + 1 = omega (arith, within, length_push old (t ∷ [])) in
      let early : j < length old = omega arith in
      subst (λ (s : List ℕ). SharesWithSmaller batch s x) (sym (get_or_append_left old ((t ∷ []) ∷ []) [] j early)) (elim (cases_lt i (length old)) [
        | inl inside ↦ p.fits.first j i x less inside (subst (λ (s : List ℕ). Contains s x) (get_or_append_left old ((t ∷ []) ∷ []) [] i inside) stands)
        | inr last ↦
            let at : Contains (t ∷ []) x = subst (λ (s : List ℕ). Contains s x) (get_or_push old (t ∷ []) [] i (omega arith)) stands in
            elim (Contains-push_cases [] t x at) [
              | inl none ↦ absurd (not_in_nothing x none)
              | inr is ↦ subst (λ (n : ℕ). SharesWithSmaller batch (get_or old j []) n) is
                  (was_blocked batch (get_or old j []) t (All-get_or (All (λ u. u < t)) old j [] early p.below)
                  (All-get_or (λ s. IsBlocked batch s t) old j [] early blocked))
            ]
      ]);
}

pub places_more : (batch : List Transfer) (t : ℕ) (old new : List (List ℕ)) → Partial batch t old → Places batch t old new → Partial batch (t + 1) new
places_more batch t old new p (into k lt first is) =
    counts_more batch t old new p (λ u. rw is (times_into u t k old lt))
    (rw is (All-set (IsMatching batch) old k (get_or old k [] ++ t ∷ [])
    (all_pairs_push (AreApart batch) (get_or old k []) t (All-get_or (IsMatching batch) old k [] lt p.matchings) first.0.apart) p.matchings))
    (rw is (All-set (All (λ u. u < t + 1)) old k (get_or old k [] ++ t ∷ [])
    (All-push (λ u. u < t + 1) (get_or old k []) t (rise t (get_or old k []) (All-get_or (All (λ u. u < t)) old k [] lt p.below)) (omega arith))
    (rise_all t old p.below)))
    (rw (is, length-set) (omega (arith, p.count)))
    (rw is (fits_into batch t k old p lt first.1))
places_more batch t old new p (alone none is) =
    counts_more batch t old new p (λ u. rw is (times_alone u t old))
    (rw is (All-push (IsMatching batch) old (t ∷ []) p.matchings (λ i j d lt inside. absurd (omega arith))))
    (rw is (All-push (All (λ u. u < t + 1)) old (t ∷ []) (rise_all t old p.below)
    (All-push (λ u. u < t + 1) [] t (λ k d lt. absurd (omega arith)) (omega arith))))
    (rw (is, length_push) (omega (arith, p.count)))
    (rw is (fits_alone batch t old p none))

pub all_placed : (batch : List Transfer) (t : ℕ) (settings : List (List ℕ)) → t ≡ length batch → Partial batch t settings → IsScheduleOf batch settings
all_placed batch t settings e p = record {
  matchings = p.matchings;
  once = λ u lt. p.once u (omega arith);
  no_other =
      subst (λ (n : ℕ). All (All (λ u. u < n)) settings) e p.below;
}
