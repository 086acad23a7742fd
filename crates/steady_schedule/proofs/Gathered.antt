-- Lists of transfers by the numbers of their settings, grown one transfer at a time.
use Rattle.std.proofs.Common.{◌≡◌, ℕ, ◌+◌, ◌-◌, ◌<◌, ◌≤◌, List, [], ◌∷◌, ◌++◌, length, get_or, drop, slice_get, Some, All, refl, sym, ap, ◌∙◌, subst, inl, inr, get_or-set_same, get_or-set_other}
use Rattle.std.proofs.Common.{arith}
use Rattle.std.specs.Prelude.{AllPairs, Contains}
use Rattle.std.proofs.lemmas.Bool.{cases_eq, cases_lt}
use Rattle.std.proofs.lemmas.List.{get_or_default, length-set, get_or_past, get_or_append_left, get_or_push, length_push, map_push}
use Rattle.std.proofs.lemmas.List.Elements.{All-set, All-push, All-head, All-tail, All-get_or, Contains-get_or, Contains-push_cases}
use Rattle.std.proofs.lemmas.List.Quantifiers.{all_pairs_push}
use Rattle.std.proofs.lemmas.List.Sums.{sum_by-cons}
use Rattle.std.specs.Global.{Vec}
use Rattle.batch.proofs.Lists.{count_of, one_same, one_other, times_into}
use Rattle.link_graph.specs.Schedules.{times, lists_of, IsScheduleOf}
use Rattle.link_graph.specs.Uses.{IsMatching}
use Rattle.batch.specs.declared.transfer.Transfer.{Transfer}
use Rattle.steady_schedule.specs.Slots.{slot, AreReadInto, AreSlotsBelow, AreProper}
use Rattle.steady_schedule.specs.Waiting.{pair_count, count_at}
use Rattle.steady_schedule.proofs.Slots.{read_more}
use Rattle.batch.specs.declared.limits.TheConstants.{MAX_MODULES}
use Rattle.steady_schedule.specs.Gathered.{AreEmpty, AreGathered, with_pushed}

none_stand : (lists : List (List ℕ)) (t : ℕ) → All (λ list. list ≡ []) lists → times t lists ≡ 0
none_stand [] t none = refl
none_stand (list ∷ lists) t none =
    let here : list ≡ [] = All-head (λ l. l ≡ []) list lists none in
    omega (arith, sum_by-cons (count_of t) list lists, ap (count_of t) here, none_stand lists t (All-tail (λ l. l ≡ []) list lists none))

empty_at : (lists : List (List ℕ)) (k : ℕ) → All (λ list. list ≡ []) lists → get_or lists k [] ≡ []
empty_at lists k none = elim (cases_lt k (length lists)) [ inl lt ↦ none k [] lt | inr le ↦ get_or_past lists k [] le ]

pub none_gathered : (lists : List (List ℕ)) (count : ℕ) → AreEmpty lists count → AreGathered [] count lists
none_gathered lists count e = record {
  sized = e.sized;
  ascending = λ k d lt i j d' less within. absurd (omega (arith, within, ap length (e.none k d lt)));
  once = λ t lt. absurd (omega arith);
  no_other = λ t le. none_stand lists t e.none;
  within = λ k t stands. absurd (omega (arith, stands.1, ap length (empty_at lists k e.none)));
}

module _ (numbers : List ℕ) (k count : ℕ) (lists : List (List ℕ)) (k_in : k < count) (so_far : AreGathered numbers count lists) where
  abbrev t : ℕ
  t = length numbers

  abbrev more : List ℕ
  more = numbers ++ k ∷ []

  abbrev old : List ℕ
  old = get_or lists k []

  sized_more : length more ≡ t + 1
  sized_more = length_push numbers k

  in_lists : k < length lists
  in_lists = omega (arith, so_far.sized, k_in)

  stood : (j u : ℕ) → Contains (get_or lists j []) u → (u < length more) × (get_or more u 0 ≡ j)
  stood j u stands =
      let was = so_far.within j u stands in
      (omega (arith, was.0, sized_more), get_or_append_left numbers (k ∷ []) 0 u was.0 ∙ was.1)

  pub gathered_more : AreGathered more count (with_pushed lists k t)
  gathered_more = record {
    sized = length-set lists k (old ++ t ∷ []) ∙ so_far.sized;
    ascending = All-set (AllPairs (λ a b. a < b)) lists k (old ++ t ∷ [])
        (all_pairs_push (λ a b. a < b) old t (All-get_or (AllPairs (λ a b. a < b)) lists k [] in_lists so_far.ascending)
        (λ i d lt. (so_far.within k (get_or old i d) (Contains-get_or old i d lt)).0)) so_far.ascending;
    once = λ u lt. elim (cases_eq u t) [
      | inl e ↦ omega (arith, times_into u t k lists in_lists, one_same u t e, so_far.no_other u (omega (arith, e)))
      | inr ne ↦ omega (arith, times_into u t k lists in_lists, one_other u t ne, so_far.once u (omega (arith, ne, lt, sized_more)))
    ];
    no_other = λ u le. omega (
      arith,
      times_into u t k lists in_lists,
      one_other u t (λ e. omega (arith, e, le, sized_more)),
      so_far.no_other u (omega (arith, le, sized_more)),
    );
    within = λ j u stands. elim (cases_eq j k) [
      | inl e ↦
          let here : get_or (with_pushed lists k t) j [] ≡ old ++ t ∷ [] = ap (λ (i : ℕ). get_or (with_pushed lists k t) i []) e
          ∙ get_or-set_same lists k (old ++ t ∷ []) [] in_lists in
          elim (Contains-push_cases old t u (subst (λ (xs : List ℕ). Contains xs u) here stands)) [
            | inl before ↦ let was = stood k u before in (was.0, was.1 ∙ sym e)
            | inr same ↦ (omega (arith, sized_more, same), get_or_push numbers k 0 u same ∙ sym e)
          ]
      | inr ne ↦ stood j u (subst (λ (xs : List ℕ). Contains xs u) (get_or-set_other lists k j (old ++ t ∷ []) [] ne) stands)
    ];
  }

-- ---- settings of the numbers that are read

pub none_into : (batch : List Transfer) (totals slots : List ℕ) (settings : ℕ) (lists : List (List ℕ)) → AreEmpty lists settings
    → AreReadInto batch totals slots settings 0 lists
none_into batch totals slots settings lists empty = record {
  numbers = [];
  read = record { sized = refl; at = λ t x lt. absurd (omega arith) };
  gathered = none_gathered lists settings empty;
}

pub read_into : (batch : List Transfer) (totals slots : List ℕ) (settings n number : ℕ) (x : Transfer) (lists : List (List ℕ)) → number < settings
    → AreReadInto batch totals slots settings n lists → slice_get batch n ≡ Some x → number ≡ slot totals slots x.initiator x.responder
    (pair_count (drop (n + 1) batch) x.initiator x.responder) → AreReadInto batch totals slots settings (n + 1) (with_pushed lists number n)
read_into batch totals slots settings n number x lists low so_far here is = record {
  numbers = so_far.numbers ++ number ∷ [];
  read = read_more batch totals slots so_far.numbers n number x so_far.read here is;
  gathered = subst (λ (t : ℕ). AreGathered (so_far.numbers ++ number ∷ []) settings (with_pushed lists number t)) so_far.read.sized
      (gathered_more so_far.numbers number settings lists low so_far.gathered);
}

-- a number that is read is below that of the settings
pub low_number : (totals slots : List ℕ) (settings a b remaining number : ℕ) → AreSlotsBelow totals slots settings → a < MAX_MODULES → b < MAX_MODULES
    → 0 < remaining → remaining ≤ count_at totals a b → number ≡ slot totals slots a b (remaining - 1) → number < settings
low_number totals slots settings a b remaining number below a_in b_in some few is =
    omega (arith, is, below a b (remaining - 1) a_in b_in (omega (arith, some, few)))

-- ---- empty lists

pub no_lists : AreEmpty [] 0
no_lists = record { sized = refl; none = λ k d lt. absurd (omega arith) }

pub more_lists : (lists all : List (Vec ℕ)) (v : Vec ℕ) (n : ℕ) → all ≡ lists ++ v ∷ [] → v.items ≡ [] → AreEmpty (lists_of lists) n
    → AreEmpty (lists_of all) (n + 1)
more_lists lists all v n pushed empty so_far =
    rw (pushed, map_push (λ (w : Vec ℕ). w.items) lists v)
    (record {
      sized = length_push (lists_of lists) v.items ∙ ap (λ (k : ℕ). k + 1) so_far.sized;
      none = All-push (λ l. l ≡ []) (lists_of lists) v.items so_far.none empty;
    })

-- ---- a schedule

module _ (batch : List Transfer) (count : ℕ) (numbers : List ℕ) (settings : List (List ℕ)) (proper : AreProper batch count numbers)
    (g : AreGathered numbers count settings) where
  known : (k t : ℕ) → Contains (get_or settings k []) t → t < length batch
  known k t stands = omega (arith, (g.within k t stands).0, proper.sized)

  pub gathered_schedule : IsScheduleOf batch settings
  gathered_schedule = record {
    matchings = λ k d k_in. subst (IsMatching batch) (get_or_default settings k [] d k_in) (λ i j e less j_in.
        let list : List ℕ = get_or settings k [] in
        let ascend : AllPairs (λ t u. t < u) list = g.ascending k [] k_in in
        let t_stands : Contains list (get_or list i e) = Contains-get_or list i e (omega arith) in
        let u_stands : Contains list (get_or list j e) = Contains-get_or list j e j_in in
        proper.apart (get_or list i e) (get_or list j e) (ascend i j e less j_in) (known k (get_or list j e) u_stands)
        ((g.within k (get_or list i e) t_stands).1 ∙ sym (g.within k (get_or list j e) u_stands).1));
    once = λ t t_in. g.once t (omega (arith, t_in, proper.sized));
    no_other = λ k d k_in. subst (All (λ t. t < length batch)) (get_or_default settings k [] d k_in)
        (λ i e i_in. known k (get_or (get_or settings k []) i e) (Contains-get_or (get_or settings k []) i e i_in));
  }
