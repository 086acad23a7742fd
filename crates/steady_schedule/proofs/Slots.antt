-- Slots, as the numbers of some settings are written, and as they are read.
use Rattle.std.proofs.Common.{◌≡◌, ◌≢◌, ◌==◌, ℕ, zero, suc, ◌+◌, ◌-◌, ◌*◌, ◌/◌, ◌%◌, ◌<◌, ◌≤◌, ◌⊎◌, All, List, [], ◌∷◌, ◌++◌, length, get_or, set, drop, slice_index, slice_get, Option, Some, refl}
use Rattle.std.proofs.Common.{sym, ap, ◌∙◌, subst, inl, inr, get_or-set_same, get_or-set_other, arith, None, true}
use borrow.Author.Count.{below_more}
use Rattle.std.proofs.lemmas.Bool.{cases_eq, cases_lt, cases_order, cases_Bool, and_parts, eqb-true}
use Rattle.std.proofs.lemmas.List.{length_push, drop_more, get_or_append_left, get_or_push}
use Rattle.std.proofs.lemmas.List.Sums.{sum_by-cons, count_by-le-length}
use Rattle.std.proofs.lemmas.List.Elements.{All-from_get_or}
use Rattle.std.proofs.lemmas.Option.{same_Some, slice_get_cases, slice_get_within, get_or_from_slice_get, none-some}
use Rattle.batch.specs.declared.limits.TheConstants.{MAX_MODULES}
use Rattle.batch.specs.declared.transfer.Transfer.{Transfer}
use Rattle.link_graph.specs.declared.link.End.{End}
use Rattle.link_graph.specs.declared.link.End.TheVariants.{Zero, Three}
use Rattle.link_graph.specs.Counts.{module_at}
use Rattle.link_graph.specs.Uses.{AreApart}
use Rattle.link_graph.proofs.Users.{made, at_used}
use Rattle.link_graph.proofs.Masks.{bit}
use Rattle.steady_schedule.specs.Matchings.{partner, AreMatched, AreBelow}
use Rattle.steady_schedule.specs.Waiting.{sum_below, pair_count, pair_index, count_at, HaveMost, ArePairCounts}
use Rattle.steady_schedule.specs.Slots.{LinkHas, IsOverAt, AreAtNeed, UsesAs, IsOverAs, HaveNeeds, slot, IsWritten, AreOneOrApart, AreNumbered, AreNumberedFrom, AreSlotsFilled, AreReadTo, AreProper}
use Rattle.steady_schedule.specs.Slots.{StandsIn, KeepNumbers, JoinsAs}
use Rattle.steady_schedule.specs.Slots.IsOverAt.{pair_done as pair_at, link_needed as link_at}
use Rattle.steady_schedule.specs.Slots.IsOverAs.{pair_done as pair_as, link_needed as link_as}
use Rattle.steady_schedule.proofs.Matchings.{has_low, partner_low}
use Rattle.steady_schedule.proofs.Sums.{at_most_sum}
use Rattle.steady_schedule.proofs.Waiting.{same_place, same_or_other, count_here, count_other, hits, own_hit, counted_now}

-- ---- where slots lie

prefix_less : (p q : ℕ) (f : ℕ → ℕ) → p < q → sum_below p f + f p ≤ sum_below q f
unfolding sum_below
prefix_less p zero f lt = absurd (omega arith)
prefix_less p (suc q) f lt = elim (cases_eq p q) [
  | inl e ↦ omega (arith, ap f e, ap (λ (n : ℕ). sum_below n f) e)
  | inr ne ↦ omega (arith, prefix_less p q f (omega arith))
]

one_place : (p q i j : ℕ) (f : ℕ → ℕ) → i < f p → j < f q → sum_below p f + i ≡ sum_below q f + j → p ≡ q
one_place p q i j f i_in j_in same = elim (cases_order p q) [
  | inl e ↦ e
  | inr other ↦ elim other [ inl lt ↦ absurd (omega (arith, prefix_less p q f lt)) | inr lt ↦ absurd (omega (arith, prefix_less q p f lt)) ]
]

module _ (totals : List ℕ) where
  abbrev start : ℕ → ℕ → ℕ
  start u v = sum_below (pair_index u v) (slice_index totals)

  pub same_slot : (u v i w x j : ℕ) → v < MAX_MODULES → x < MAX_MODULES → i < count_at totals u v → j < count_at totals w x → start u v + i ≡ start w x + j
      → (u ≡ w) × (v ≡ x)
  same_slot u v i w x j v_in x_in i_in j_in same =
      same_place u v w x v_in x_in (one_place (pair_index u v) (pair_index w x) i j (slice_index totals) i_in j_in same)

  pub slot_inside : (u v i : ℕ) → u < MAX_MODULES → v < MAX_MODULES → i ≤ count_at totals u v → start u v + i ≤ sum_below (MAX_MODULES * MAX_MODULES)
      (slice_index totals)
  slot_inside u v i u_in v_in le =
      let low : pair_index u v < MAX_MODULES * MAX_MODULES = omega arith in
      omega (arith, le, prefix_less (pair_index u v) (MAX_MODULES * MAX_MODULES) (slice_index totals) low)

-- ---- nothing is written

pub none_numbered : (totals slots : List ℕ) → length slots ≡ sum_below (MAX_MODULES * MAX_MODULES) (slice_index totals) → AreNumbered totals totals slots 0
none_numbered totals slots sized = record {
  sized = sized;
  within = λ u v u_in v_in. omega arith;
  below = λ u v i w. absurd (omega (arith, w.done, w.there));
  falling = λ u v i j w lt there. absurd (omega (arith, w.done, w.there));
  apart = λ u v i w x j one other same. absurd (omega (arith, one.done, one.there));
}

-- ---- the numbers of one step

pub begun : (totals remaining slots : List ℕ) (zeros : List (Option ℕ)) (first k : ℕ) → AreNumbered totals remaining slots first
    → AreNumberedFrom zeros first 0 totals remaining slots (first + k)
begun totals remaining slots zeros first k a = record {
  numbered = record { sized = a.sized; within = a.within; below = λ u v i w. omega (arith, a.below u v i w); falling = a.falling; apart = a.apart };
  recent = λ u v i w le. absurd (omega (arith, le, a.below u v i w));
  each = λ u v d u_in. absurd (omega arith);
}

pub not_joined : (totals remaining slots : List ℕ) (zeros : List (Option ℕ)) (first n next : ℕ) → partner zeros n ≡ None → AreNumberedFrom zeros first n totals
    remaining slots next → AreNumberedFrom zeros first (n + 1) totals remaining slots next
not_joined totals remaining slots zeros first n next none a = record {
  numbered = a.numbered;
  recent = λ u v i w le. let r = a.recent u v i w le in (omega (arith, r.0), r.1);
  each = λ u v d u_in joined. elim (cases_eq u n) [
    | inl e ↦ absurd (none-some v (sym none ∙ subst (λ (x : ℕ). partner zeros x ≡ Some v) e joined))
    | inr ne ↦ a.each u v d (omega arith) joined
  ];
}

-- joined pairs of the first n modules are all, where no other has a partner
pub all_numbered : (totals remaining slots : List ℕ) (zeros : List (Option ℕ)) (first n next : ℕ) → n ≤ MAX_MODULES → AreBelow zeros n
    → AreNumberedFrom zeros first n totals remaining slots next → AreNumberedFrom zeros first MAX_MODULES totals remaining slots next
all_numbered totals remaining slots zeros first n next within low a = record {
  numbered = a.numbered;
  recent = λ u v i w le. let r = a.recent u v i w le in (omega (arith, r.0, within), r.1);
  each = λ u v d u_in joined. a.each u v d (low u v joined) joined;
}

module _ (totals remaining slots after : List ℕ) (zero three : List (Option ℕ)) (first k n y : ℕ) (m : AreMatched zero three) (joined : partner zero n ≡ Some y)
    (so_far : AreNumberedFrom zero first n totals remaining slots (first + k)) (places : length remaining ≡ MAX_MODULES * MAX_MODULES)
    (k_there : k ≤ count_at remaining n y) (w : AreSlotsFilled (sum_below (pair_index n y) (slice_index totals) + (count_at remaining n y - k)) first k slots
    after) where
  n_in : n < MAX_MODULES
  n_in = has_low zero n y m.sized joined

  y_in : y < MAX_MODULES
  y_in = partner_low zero three n y m joined

  abbrev c : ℕ
  c = count_at remaining n y

  abbrev less : List ℕ
  less = set remaining (pair_index n y) (c - k)

  within_old : c ≤ count_at totals n y
  within_old = so_far.numbered.within n y n_in y_in

  abbrev IsNew : ℕ → ℕ → ℕ → Type 0
  IsNew u v i = (u ≡ n) × (v ≡ y) × (i < c) × (slot totals after u v i + i + 1 ≡ first + c)

  abbrev IsOld : ℕ → ℕ → ℕ → Type 0
  IsOld u v i = IsWritten totals remaining u v i × (slot totals after u v i ≡ slot totals slots u v i)

  here : (i : ℕ) → c - k ≤ i → i < count_at totals n y → IsNew n y i ⊎ IsOld n y i
  here i done there = elim (cases_lt i c) [
    | inl lt ↦ inr_new (omega (arith, w.here (start totals n y + i) (omega (arith, done)) (omega (arith, lt, k_there))), lt)
    | inr le ↦ inr (record { zero_in = n_in; three_in = y_in; done = le; there = there }, w.behind (start totals n y + i) (omega (arith, le, k_there)))
  ]
    where
      inr_new : (slot totals after n y i + i + 1 ≡ first + c) × (i < c) → IsNew n y i ⊎ IsOld n y i
      inr_new p = inl (refl, refl, p.1, p.0)

  elsewhere : (u v i : ℕ) → (n ≡ u → y ≡ v → ⊥) → IsWritten totals remaining u v i → slot totals after u v i ≡ slot totals slots u v i
  elsewhere u v i other is =
      let at : ℕ = start totals n y + (c - k) in
      let p : ℕ = start totals u v + i in
      elim (cases_lt p at) [
        | inl lt ↦ w.before p lt
        | inr from ↦ elim (cases_lt p (at + k)) [
          | inr behind ↦ w.behind p behind
          | inl inside ↦
              let same = same_slot totals n y (p - start totals n y) u v i y_in is.three_in (omega (arith, inside, from, within_old, k_there)) is.there
              (omega (arith, from)) in
              absurd (other same.0 same.1)
        ]
      ]

  new_or_old : (u v i : ℕ) → IsWritten totals less u v i → IsNew u v i ⊎ IsOld u v i
  new_or_old u v i = same_or_other n y u v (λ a b. IsWritten totals less a b i → IsNew a b i ⊎ IsOld a b i)
      (λ is. here i (omega (arith, is.done, count_here remaining n y (c - k) places n_in y_in)) is.there)
      (λ other is.
      let was : IsWritten totals remaining u v i =
      record {
        zero_in = is.zero_in;
        three_in = is.three_in;
        done =
            omega (arith, is.done, count_other remaining n y (c - k) places n_in y_in u v is.three_in other);
        there = is.there;
      } in
      inr (was, elsewhere u v i other was))

  -- numbers of the pair that were written before are less
  old_less : (i : ℕ) → IsWritten totals remaining n y i → slot totals slots n y i < first
  old_less i is = elim (cases_lt (slot totals slots n y i) first) [ inl lt ↦ lt | inr le ↦ absurd (omega (arith, (so_far.recent n y i is le).0)) ]

  falls : (u v i j : ℕ) → IsWritten totals less u v i → i < j → j < count_at totals u v → slot totals after u v j < slot totals after u v i
  falls u v i j is lt there =
      let later : IsWritten totals less u v j = record { zero_in = is.zero_in; three_in = is.three_in; done = omega (arith, is.done, lt); there = there } in
      elim (new_or_old u v i is) [
        | inl new ↦ elim (new_or_old u v j later) [
          | inl new_too ↦ omega (arith, new.3, new_too.3, lt)
          | inr old ↦
              let less_old : slot totals slots u v j < first = subst (λ (a : ℕ). slot totals slots a v j < first) (sym new.0)
              (subst (λ (b : ℕ). slot totals slots n b j < first) (sym new.1)
              (old_less j (subst (λ (b : ℕ). IsWritten totals remaining n b j) new.1 (subst (λ (a : ℕ). IsWritten totals remaining a v j) new.0 old.0)))) in
              omega (arith, less_old, old.1, new.2, new.3)
        ]
        | inr old ↦ elim (new_or_old u v j later) [
          | inl new ↦
              let done : c ≤ i = subst (λ (b : ℕ). count_at remaining n b ≤ i) new.1 (subst (λ (a : ℕ). count_at remaining a v ≤ i) new.0 old.0.done) in
              absurd (omega (arith, done, new.2, lt))
          | inr old_too ↦ omega (arith, old.1, old_too.1, so_far.numbered.falling u v i j old.0 lt there)
        ]
      ]

  -- a pair that has the number of one that is new
  new_apart : (u v i a b j : ℕ) → IsNew u v i → IsOld a b j → slot totals after u v i ≡ slot totals after a b j → (u ≢ a) × (v ≢ b)
  new_apart u v i a b j new old same =
      let r = so_far.recent a b j old.0 (omega (arith, same, new.2, new.3, old.1)) in (
        λ e. omega (arith, r.0, e, new.0),
        λ e.
            let own : partner three y ≡ Some a = subst (λ (z : ℕ). partner three z ≡ Some a) (sym e ∙ new.1) ((m.each_other a b).0 r.1) in
            omega (arith, r.0, same_Some a n (sym own ∙ (m.each_other n y).0 joined)),
      )

  are_apart : (u v i a b j : ℕ) → IsWritten totals less u v i → IsWritten totals less a b j → slot totals after u v i ≡ slot totals after a b j
      → AreOneOrApart u v a b
  are_apart u v i a b j one other same = elim (new_or_old u v i one) [
    | inl new ↦ elim (new_or_old a b j other) [
      | inl new_too ↦ inl (new.0 ∙ sym new_too.0, new.1 ∙ sym new_too.1)
      | inr old ↦ inr (new_apart u v i a b j new old same)
    ]
    | inr old ↦ elim (new_or_old a b j other) [
      | inl new ↦ let p = new_apart a b j u v i new old (sym same) in inr (λ e. p.0 (sym e), λ e. p.1 (sym e))
      | inr old_too ↦ so_far.numbered.apart u v i a b j old.0 old_too.0 (sym old.1 ∙ (same ∙ old_too.1))
    ]
  ]

  still_written : (u v i : ℕ) → IsWritten totals remaining u v i → IsWritten totals less u v i
  still_written u v i is = record {
    zero_in = is.zero_in;
    three_in = is.three_in;
    done = same_or_other n y u v (λ a b. count_at remaining a b ≤ i → count_at less a b ≤ i)
        (λ le. omega (arith, le, count_here remaining n y (c - k) places n_in y_in))
        (λ other le. omega (arith, le, count_other remaining n y (c - k) places n_in y_in u v is.three_in other)) is.done;
    there = is.there;
  }

  pub joined_numbered : AreNumberedFrom zero first (n + 1) totals less after (first + k)
  joined_numbered = record {
    numbered = record {
      sized = w.sized ∙ so_far.numbered.sized;
      within = λ u v u_in v_in. same_or_other n y u v (λ a b. count_at less a b ≤ count_at totals a b)
          (omega (arith, count_here remaining n y (c - k) places n_in y_in, within_old))
          (λ other. omega (arith, count_other remaining n y (c - k) places n_in y_in u v v_in other, so_far.numbered.within u v u_in v_in));
      below = λ u v i is. elim (new_or_old u v i is) [
        | inl new ↦ omega (arith, new.3, new_done u v i is new, k_there)
        | inr old ↦ omega (arith, old.1, so_far.numbered.below u v i old.0)
      ];
      falling = falls;
      apart = are_apart;
    };
    recent = λ u v i is le. elim (new_or_old u v i is) [
      | inl new ↦ (omega (arith, new.0), ap (partner zero) new.0 ∙ (joined ∙ ap (λ (z : ℕ). Some z) (sym new.1)))
      | inr old ↦ let r = so_far.recent u v i old.0 (omega (arith, le, old.1)) in (omega (arith, r.0), r.1)
    ];
    each = λ u v d u_in own from to. elim (cases_eq u n) [
      | inl e ↦
          let same : y ≡ v = same_Some y v (sym joined ∙ subst (λ (a : ℕ). partner zero a ≡ Some v) e own) in
          subst (λ (a : ℕ). StandsIn totals less after d a v) (sym e) (subst (λ (b : ℕ). StandsIn totals less after d n b) same (new_has d from to))
      | inr ne ↦
          let has = so_far.each u v d (omega arith) own from to in
          let is = still_written u v has.0 has.1 in
          (has.0, is, elsewhere u v has.0 (λ f _. ne (sym f)) has.1 ∙ has.2)
    ];
  }
    where
      new_done : (u v i : ℕ) → IsWritten totals less u v i → IsNew u v i → c - k ≤ i
      new_done u v i is new =
          let place : pair_index u v ≡ pair_index n y = omega (arith, new.0, new.1) in
          omega (arith, is.done, count_here remaining n y (c - k) places n_in y_in, ap (λ (q : ℕ). get_or less q 0) place)

      new_has : (d : ℕ) → first ≤ d → d < first + k → StandsIn totals less after d n y
      new_has d from to =
          let i : ℕ = c - 1 - (d - first) in
          let in_c : i < c = omega (arith, from, to, k_there) in
          let done : c - k ≤ i = omega (arith, from, to, k_there) in (
            i,
            record {
              zero_in = n_in;
              three_in = y_in;
              done = omega (arith, done, count_here remaining n y (c - k) places n_in y_in);
              there =
                  omega (arith, in_c, within_old);
            },
            omega (arith, from, to, k_there, w.here (start totals n y + i) (omega (arith, done)) (omega (arith, in_c, k_there))),
          )

  -- the numbers before it stay
  pub joined_keeps : KeepNumbers totals first remaining slots less after
  joined_keeps = record {
    old = λ u v d lt has. elim (new_or_old u v has.0 (still_written u v has.0 has.1)) [
      | inl new ↦
          let done : c ≤ has.0 = subst (λ (b : ℕ). count_at remaining n b ≤ has.0) new.1 (subst (λ (a : ℕ). count_at remaining a v ≤ has.0) new.0 has.1.done) in
          absurd (omega (arith, done, new.2))
      | inr old ↦ (has.0, still_written u v has.0 has.1, old.1 ∙ has.2)
    ];
    only = λ u v d lt has. elim (new_or_old u v has.0 has.1) [
      | inl new ↦ absurd (omega (arith, lt, new.2, new.3, has.2))
      | inr old ↦ (has.0, old.0, sym old.1 ∙ has.2)
    ];
  }

pub keep_all : (totals : List ℕ) (first : ℕ) (remaining slots : List ℕ) → KeepNumbers totals first remaining slots remaining slots
keep_all totals first remaining slots = record { old = λ u v d lt has. has; only = λ u v d lt has. has }

pub keep_both : (totals : List ℕ) (first : ℕ) (remaining slots remaining_now slots_now remaining_then slots_then : List ℕ) → KeepNumbers totals first remaining
    slots remaining_now slots_now → KeepNumbers totals first remaining_now slots_now remaining_then slots_then → KeepNumbers totals first remaining slots
    remaining_then slots_then
keep_both totals first remaining slots remaining_now slots_now remaining_then slots_then one other = record {
  old = λ u v d lt has. other.old u v d lt (one.old u v d lt has);
  only = λ u v d lt has. one.only u v d lt (other.only u v d lt has);
}

-- ---- the numbers as they are read

pub pair_after : (batch : List Transfer) (t : ℕ) (x : Transfer) (u v : ℕ) → slice_get batch t ≡ Some x → pair_count (drop t batch) u v
    ≡ bit (hits u v x) + pair_count (drop (t + 1) batch) u v
pair_after batch t x u v here =
    let split : drop t batch ≡ x ∷ drop (t + 1) batch = drop_more batch t x (slice_get_within batch t x here) ∙ ap (λ (y : Transfer). y ∷ drop (t + 1) batch)
    (get_or_from_slice_get batch t x x here) in
    ap (λ (xs : List Transfer). pair_count xs u v) split ∙ sum_by-cons (λ y. bit (hits u v y)) x (drop (t + 1) batch)

pair_drop : (batch : List Transfer) (n u v : ℕ) → pair_count (drop n batch) u v ≤ pair_count batch u v
pair_drop batch zero u v = omega arith
pair_drop [] (suc n) u v = omega arith
pair_drop (x ∷ xs) (suc n) u v = omega (arith, pair_drop xs n u v, sum_by-cons (λ y. bit (hits u v y)) x xs)

pair_later : (batch : List Transfer) (n m u v : ℕ) → n ≤ m → pair_count (drop m batch) u v ≤ pair_count (drop n batch) u v
pair_later batch zero m u v le = pair_drop batch m u v
pair_later batch (suc n) zero u v le = absurd (omega arith)
pair_later [] (suc n) (suc m) u v le = omega arith
pair_later (x ∷ xs) (suc n) (suc m) u v le = pair_later xs n m u v (omega arith)

own_behind : (batch : List Transfer) (t : ℕ) (x : Transfer) → slice_get batch t ≡ Some x → pair_count (drop (t + 1) batch) x.initiator x.responder < pair_count
    batch x.initiator x.responder
own_behind batch t x here = omega (
  arith,
  pair_after batch t x x.initiator x.responder here,
  own_hit x x.initiator x.responder refl refl,
  pair_drop batch t x.initiator x.responder,
)

later_fewer : (batch : List Transfer) (t u : ℕ) (y : Transfer) → t < u → slice_get batch u ≡ Some y → pair_count (drop (u + 1) batch) y.initiator y.responder <
    pair_count (drop (t + 1) batch) y.initiator y.responder
later_fewer batch t u y less there = omega (
  arith,
  pair_after batch u y y.initiator y.responder there,
  own_hit y y.initiator y.responder refl refl,
  pair_later batch (t + 1) u y.initiator y.responder (omega arith),
)

other_modules : (e : End) (m : ℕ) (x y : Transfer) → (x.initiator ≢ y.initiator) × (x.responder ≢ y.responder) → module_at e x ≡ m → module_at e y ≡ m → ⊥
other_modules Zero m x y apart one other = apart.0 (one ∙ sym other)
other_modules Three m x y apart one other = apart.1 (one ∙ sym other)

-- the transfer of a pair after which so many of its transfers stand
find_after : (batch : List Transfer) (u v i : ℕ) → i < pair_count batch u v → (t : ℕ) × (x : Transfer) × (slice_get batch t ≡ Some x) × (hits u v x ≡ true)
    × (pair_count (drop (t + 1) batch) u v ≡ i)
find_after [] u v i lt = absurd (omega arith)
find_after (x ∷ xs) u v i lt =
    let split = sum_by-cons (λ y. bit (hits u v y)) x xs in
    elim (cases_lt i (pair_count xs u v)) [
      | inl later ↦
          let r = find_after xs u v i later in
          let more : suc r.0 + 1 ≡ suc (r.0 + 1) = omega arith in
          (suc r.0, r.1, r.2, r.3, ap (λ (n : ℕ). pair_count (drop n (x ∷ xs)) u v) more ∙ r.4)
      | inr here ↦ elim (cases_Bool (hits u v x)) [
        | inl hit ↦ (0, x, refl, hit, omega (arith, split, ap bit hit, here))
        | inr none ↦ absurd (omega (arith, split, ap bit none, here))
      ]
    ]

module _ (batch : List Transfer) (totals remaining slots numbers : List ℕ) (settings : ℕ) (counted : ArePairCounts batch totals)
    (done : (u v : ℕ) → u < MAX_MODULES → v < MAX_MODULES → count_at remaining u v ≡ 0) (n : AreNumbered totals remaining slots settings)
    (read : AreReadTo batch totals slots numbers (length batch)) (low : (t : ℕ) (x : Transfer) → slice_get batch t ≡ Some x → (x.initiator < MAX_MODULES)
    × (x.responder < MAX_MODULES)) where
  -- how many of a pair stand after transfer t
  abbrev behind : ℕ → ℕ → ℕ → ℕ
  behind t u v = pair_count (drop (t + 1) batch) u v

  known : (t : ℕ) → t < length batch → (x : Transfer) × (slice_get batch t ≡ Some x)
  known t t_in = elim (slice_get_cases batch t).1 [ inl p ↦ (p.0, p.2) | inr p ↦ absurd (omega (arith, p.0)) ]

  own_written : (t : ℕ) (x : Transfer) → slice_get batch t ≡ Some x → IsWritten totals remaining x.initiator x.responder (behind t x.initiator x.responder)
  own_written t x here =
      let is_low = low t x here in record {
        zero_in = is_low.0;
        three_in = is_low.1;
        done = omega (arith, done x.initiator x.responder is_low.0 is_low.1);
        there = omega (arith, counted.at x.initiator x.responder is_low.0 is_low.1, own_behind batch t x here);
      }

  -- two transfers of one pair have different numbers
  same_pair : (t u : ℕ) (x y : Transfer) → t < u → slice_get batch t ≡ Some x → slice_get batch u ≡ Some y → (x.initiator ≡ y.initiator)
      × (x.responder ≡ y.responder) → slot totals slots x.initiator x.responder (behind t x.initiator x.responder) ≡ slot totals slots y.initiator y.responder
      (behind u y.initiator y.responder) → ⊥
  same_pair t u x y less here there one same =
      let moved : slot totals slots y.initiator y.responder (behind u y.initiator y.responder) ≡ slot totals slots x.initiator x.responder
      (behind u x.initiator x.responder) = rw (one.0, one.1) refl in
      let fewer : behind u x.initiator x.responder < behind t x.initiator x.responder = rw (one.0, one.1) (later_fewer batch t u y less there) in
      let at_u : IsWritten totals remaining x.initiator x.responder (behind u x.initiator x.responder) = rw (one.0, one.1) (own_written u y there) in
      omega (
        arith,
        same,
        moved,
        n.falling x.initiator x.responder (behind u x.initiator x.responder) (behind t x.initiator x.responder) at_u fewer
            (own_written t x here).there,
      )

  apart_transfers : (t u : ℕ) (x y : Transfer) → slice_get batch t ≡ Some x → slice_get batch u ≡ Some y → (x.initiator ≢ y.initiator)
      × (x.responder ≢ y.responder) → AreApart batch t u
  apart_transfers t u x y here there apart = record {
    none_common = λ link one other. other_modules link.end link.«module» x y apart (at_used batch t link x here one) (at_used batch u link y there other);
  }

  pub are_proper : AreProper batch settings numbers
  are_proper = record {
    sized = read.sized;
    below = λ t t_in.
        let x = known t t_in in
        omega (arith, read.at t x.0 t_in x.1, n.below x.0.initiator x.0.responder (behind t x.0.initiator x.0.responder) (own_written t x.0 x.1));
    apart = λ t u less u_in same.
        let x = known t (omega arith) in
        let y = known u u_in in
        let x_at = read.at t x.0 (omega arith) x.1 in
        let y_at = read.at u y.0 u_in y.1 in
        apart_transfers t u x.0 y.0 x.1 y.1
        (elim (n.apart x.0.initiator x.0.responder (behind t x.0.initiator x.0.responder) y.0.initiator y.0.responder (behind u y.0.initiator y.0.responder)
        (own_written t x.0 x.1) (own_written u y.0 y.1) (sym x_at ∙ (same ∙ y_at))) [
          | inr apart ↦ apart
          | inl one ↦ absurd (same_pair t u x.0 y.0 less x.1 y.1 one (sym x_at ∙ (same ∙ y_at)))
        ]);
  }

  -- just the pairs that have a number of slots have one of transfers
  pub joins_from : (d u v : ℕ) → JoinsAs batch numbers d u v → StandsIn totals remaining slots d u v
  joins_from d u v j =
      let is = own_written j.t j.x j.here in
      let at = read.at j.t j.x (slice_get_within batch j.t j.x j.here) j.here in
      subst (λ (a : ℕ). StandsIn totals remaining slots d a v) j.zero_is (subst (λ (b : ℕ). StandsIn totals remaining slots d j.x.initiator b) j.three_is
      (behind j.t j.x.initiator j.x.responder, is, sym at ∙ j.number))

  pub joins_to_number : (d u v : ℕ) → StandsIn totals remaining slots d u v → JoinsAs batch numbers d u v
  joins_to_number d u v has =
      let is = has.1 in
      let f = find_after batch u v has.0 (omega (arith, is.there, counted.at u v is.zero_in is.three_in)) in
      let both = and_parts (f.1.initiator == u) (f.1.responder == v) f.3 in
      let a = eqb-true f.1.initiator u both.0 in
      let b = eqb-true f.1.responder v both.1 in
      let at = read.at f.0 f.1 (slice_get_within batch f.0 f.1 f.2) f.2 in
      let moved : slot totals slots f.1.initiator f.1.responder (behind f.0 f.1.initiator f.1.responder) ≡ slot totals slots u v (behind f.0 u v) =
      rw (a, b) refl in
      record { t = f.0; x = f.1; here = f.2; zero_is = a; three_is = b; number = at ∙ (moved ∙ (ap (slot totals slots u v) f.4 ∙ has.2)) }

  -- ---- what is over, as they are read

  uses_from : (d : ℕ) (end : End) (x : ℕ) → LinkHas totals remaining slots d end x → UsesAs batch numbers d (made end x)
  uses_from d Zero x has =
      let j = joins_to_number d x has.0 has.1 in
      record { t = j.t; used = (j.x, j.here, inl (ap (made Zero) (sym j.zero_is))); number = j.number }
  uses_from d Three x has =
      let j = joins_to_number d has.0 x has.1 in
      record { t = j.t; used = (j.x, j.here, inr (ap (made Three) (sym j.three_is))); number = j.number }

  uses_to : (d : ℕ) (end : End) (x : ℕ) → UsesAs batch numbers d (made end x) → LinkHas totals remaining slots d end x
  uses_to d Zero x u = (
    u.used.0.responder,
    joins_from d x u.used.0.responder
        (record {
          t = u.t;
          x = u.used.0;
          here = u.used.1;
          zero_is = at_used batch u.t (made Zero x) u.used.0 u.used.1 u.used;
          three_is = refl;
          number =
              u.number;
        }),
  )
  uses_to d Three x u = (
    u.used.0.initiator,
    joins_from d u.used.0.initiator x
        (record {
          t = u.t;
          x = u.used.0;
          here = u.used.1;
          zero_is = refl;
          three_is = at_used batch u.t (made Three x) u.used.0 u.used.1 u.used;
          number =
              u.number;
        }),
  )

  over_read : (d : ℕ) → IsOverAt totals remaining slots settings settings d → IsOverAs batch settings numbers d
  over_read d (pair_at u v has none gone) = pair_as u v (joins_to_number d u v has) (λ e later j. none e later (joins_from e u v j))
  over_read d (link_at end x x_in unused used full) = link_as (made end x) (λ u. unused (uses_to d end x u)) (λ e later to. uses_from e end x (used e later to))

  pub needs_read : AreAtNeed totals remaining slots settings settings → HaveNeeds batch settings numbers
  needs_read needs d lt = elim (needs d (omega arith) lt) [
    | inl same ↦ inl (λ u v. (
      λ j. joins_to_number (d + 1) u v ((same.1 u v).0 (joins_from d u v j)),
      λ j. joins_to_number d u v ((same.1 u v).1 (joins_from (d + 1) u v j)),
    ))
    | inr is ↦ inr (over_read d is)
  ]

-- ---- where slots begin

pub starts_more : (totals starts : List ℕ) (n room : ℕ) → n < length starts → room ≡ sum_below n (slice_index totals)
    → ((p : ℕ) → p < n → get_or starts p 0 ≡ sum_below p (slice_index totals)) → (p : ℕ) → p < n + 1 → get_or (set starts n room) p 0
    ≡ sum_below p (slice_index totals)
starts_more totals starts n room n_in is so_far =
    below_more (λ p. get_or (set starts n room) p 0 ≡ sum_below p (slice_index totals)) n
    (λ p lt. get_or-set_other starts n p room 0 (λ e. omega (arith, e, lt)) ∙ so_far p lt) (get_or-set_same starts n room 0 n_in ∙ is)

-- ---- one pair at a time

pub all_taken : (remaining : List ℕ) → HaveMost remaining 0 → (u v : ℕ) → u < MAX_MODULES → v < MAX_MODULES → count_at remaining u v ≡ 0
all_taken remaining most u v u_in v_in = omega (arith, most Zero u u_in, at_most_sum MAX_MODULES v (λ w. count_at remaining u w) v_in)

pub counted_less : (batch : List Transfer) (t : ℕ) (x : Transfer) (remaining : List ℕ) (a b : ℕ) → ArePairCounts (drop t batch) remaining → slice_get batch t
    ≡ Some x → a ≡ x.initiator → b ≡ x.responder → a < MAX_MODULES → b < MAX_MODULES → ArePairCounts (drop (t + 1) batch)
    (set remaining (pair_index a b) (count_at remaining a b - 1))
counted_less batch t x remaining a b c here start answer a_in b_in =
    counted_now (drop t batch) (drop (t + 1) batch) x remaining a b (count_at remaining a b - 1) c start answer a_in b_in
    (omega (arith, pair_after batch t x a b here, own_hit x a b start answer, c.at a b a_in b_in))
    (λ u v none. omega (arith, pair_after batch t x u v here, none))

-- the transfer waits
pub own_waits : (batch : List Transfer) (t : ℕ) (x : Transfer) (remaining : List ℕ) (a b : ℕ) → ArePairCounts (drop t batch) remaining → slice_get batch t
    ≡ Some x → a ≡ x.initiator → b ≡ x.responder → a < MAX_MODULES → b < MAX_MODULES → count_at remaining a b ≡ 1 + pair_count (drop (t + 1) batch) a b
own_waits batch t x remaining a b c here start answer a_in b_in =
    omega (arith, c.at a b a_in b_in, pair_after batch t x a b here, own_hit x a b start answer)

pub few_left : (batch : List Transfer) (t : ℕ) (totals remaining : List ℕ) (a b : ℕ) → ArePairCounts batch totals → ArePairCounts (drop t batch) remaining
    → a < MAX_MODULES → b < MAX_MODULES → count_at remaining a b ≤ count_at totals a b
few_left batch t totals remaining a b all c a_in b_in = omega (arith, all.at a b a_in b_in, c.at a b a_in b_in, pair_drop batch t a b)

pub read_more : (batch : List Transfer) (totals slots numbers : List ℕ) (n number : ℕ) (x : Transfer) → AreReadTo batch totals slots numbers n
    → slice_get batch n ≡ Some x → number ≡ slot totals slots x.initiator x.responder (pair_count (drop (n + 1) batch) x.initiator x.responder)
    → AreReadTo batch totals slots (numbers ++ number ∷ []) (n + 1)
read_more batch totals slots numbers n number x r here is = record {
  sized = omega (arith, length_push numbers number, r.sized);
  at = λ t y lt there. elim (cases_eq t n) [
    | inl e ↦
        let same : x ≡ y = same_Some x y (sym here ∙ subst (λ (k : ℕ). slice_get batch k ≡ Some y) e there) in
        let value = get_or_push numbers number 0 t (omega (arith, e, r.sized)) in
        value ∙ (is ∙ subst (λ (z : Transfer). slot totals slots x.initiator x.responder (pair_count (drop (n + 1) batch) x.initiator x.responder)
        ≡ slot totals slots z.initiator z.responder (pair_count (drop (t + 1) batch) z.initiator z.responder)) same
        (ap (λ (k : ℕ). slot totals slots x.initiator x.responder (pair_count (drop (k + 1) batch) x.initiator x.responder)) (sym e)))
    | inr ne ↦
        let before : t < n = omega arith in
        get_or_append_left numbers (number ∷ []) 0 t (omega (arith, before, r.sized)) ∙ r.at t y before there
  ];
}

pub own_number : (batch : List Transfer) (totals slots : List ℕ) (t : ℕ) (x : Transfer) (remaining : List ℕ) (a b : ℕ) → ArePairCounts (drop t batch) remaining
    → slice_get batch t ≡ Some x → a ≡ x.initiator → b ≡ x.responder → a < MAX_MODULES → b < MAX_MODULES → slot totals slots a b (count_at remaining a b - 1)
    ≡ slot totals slots x.initiator x.responder (pair_count (drop (t + 1) batch) x.initiator x.responder)
own_number batch totals slots t x remaining a b c here start answer a_in b_in =
    let i : count_at remaining a b - 1 ≡ pair_count (drop (t + 1) batch) a b = omega (arith, own_waits batch t x remaining a b c here start answer a_in b_in) in
    ap (λ (k : ℕ). slot totals slots a b k) i ∙ (ap (λ (u : ℕ). slot totals slots u b (pair_count (drop (t + 1) batch) u b)) start
    ∙ ap (λ (v : ℕ). slot totals slots x.initiator v (pair_count (drop (t + 1) batch) x.initiator v)) answer)

pub counts_few : (batch : List Transfer) (counts : List ℕ) (most : ℕ) → ArePairCounts batch counts → length batch ≤ most → All (λ count. count ≤ most) counts
counts_few batch counts most c few = All-from_get_or (λ count. count ≤ most) counts 0 (λ k lt.
    let u : ℕ = k / MAX_MODULES in
    let v : ℕ = k % MAX_MODULES in
    let place : pair_index u v ≡ k = omega arith in
    let u_in : u < MAX_MODULES = omega (arith, c.places) in
    omega (arith, few, ap (λ (p : ℕ). get_or counts p 0) place, c.at u v u_in (omega arith), count_by-le-length (hits u v) batch))
