-- Steps: which matchings can be held, and what waits after that.
use Rattle.std.proofs.Common.{◌≡◌, ◌≢◌, ℕ, ◌+◌, ◌-◌, ◌*◌, ◌<◌, ◌≤◌, List, length, set, Bool, true, false, ◌&&◌, cond, Option, Some, None, refl, sym, ap, ◌∙◌, subst, inl, inr, arith}
use Rattle.std.specs.Prelude.{min, ◌⊎◌, nat_lt}
use borrow.Author.Count.{below_more}
use Rattle.std.proofs.lemmas.Bool.{cases_eq, lt-ltb, le-ltb, eq-eqb, ne_eqb, ltb-true, cases_lt}
use Rattle.std.proofs.lemmas.Bool.Decides.{nat_tests}
use Rattle.std.proofs.lemmas.List.{length-set}
use Rattle.std.proofs.lemmas.Option.{none-some, same_Some}
use Rattle.batch.specs.declared.limits.TheConstants.{MAX_MODULES}
use Rattle.link_graph.specs.declared.link.End.TheVariants.{Zero, Three}
use Rattle.link_graph.specs.Masks.{has_pair}
use Rattle.steady_schedule.specs.Matchings.{partner, AreMatched, AreBelow}
use Rattle.steady_schedule.specs.Searches.{AreNear}
use Rattle.steady_schedule.specs.Waiting.{pair_index, count_at, waiting, AreSummaries, HaveMost, NoneWait}
use Rattle.steady_schedule.specs.Steps.{CanHoldAt, CanHold, is_partner, AreTaken, IsTight}
use Rattle.steady_schedule.specs.Steps.IsTight.{all, by_pair, by_zero, by_three}
use Rattle.steady_schedule.proofs.Matchings.{has_low, partner_low}
use Rattle.steady_schedule.proofs.Sums.{sum_same, sum_changed, at_most_sum, partner_cases}
use Rattle.steady_schedule.proofs.Waiting.{count_here, count_other}
use Rattle.link_graph.specs.declared.link.End.{End}

-- ---- pairs that have transfers

module _ (counts zn zu tn tu : List ℕ) (t : AreSummaries counts zn zu tn tu) where
  module _ (zero three : List (Option ℕ)) (m : AreMatched zero three) where
    pub near_counts : (x y : ℕ) → AreNear zn zero → partner zero x ≡ Some y → 0 < count_at counts x y
    near_counts x y near joined =
        ltb-true 0 (count_at counts x y) (sym (t.near_zero x y (has_low zero x y m.sized joined) (partner_low zero three x y m joined)) ∙ near x y joined)

    pub near_from_counts : (x y : ℕ) → partner zero x ≡ Some y → 0 < count_at counts x y → has_pair zn x y ≡ true
    near_from_counts x y joined some = t.near_zero x y (has_low zero x y m.sized joined) (partner_low zero three x y m joined)
        ∙ lt-ltb 0 (count_at counts x y) some

    -- where no transfer waits from some module on, the others have no partners
    module _ (n : ℕ) (none : NoneWait counts n) (near : AreNear zn zero) where
      pub joined_below : AreBelow zero n
      joined_below x y joined = elim (cases_lt x n) [
        | inl lt ↦ lt
        | inr le ↦ absurd
            (omega (
              arith,
              near_counts x y near joined,
              at_most_sum MAX_MODULES y (λ v. count_at counts x v) (partner_low zero three x y m joined),
              none Zero x le (has_low zero x y m.sized joined),
            ))
      ]

      pub none_held : (most k x : ℕ) → k ≤ most → n ≤ x → x < MAX_MODULES → CanHoldAt counts zero three most k x
      none_held most k x few le x_in = record {
        pair = λ y joined. absurd (omega (arith, joined_below x y joined, le));
        zero_out = λ free. omega (arith, none Zero x le x_in, few);
        three_out = λ free. omega (arith, none Three x le x_in, few);
      }

-- ---- for how many settings

pub held_less : (counts : List ℕ) (zero three : List (Option ℕ)) (most k l x : ℕ) → l ≤ k → CanHoldAt counts zero three most k x
    → CanHoldAt counts zero three most l x
held_less counts zero three most k l x le h = record {
  pair = λ y e. omega (arith, le, h.pair y e);
  zero_out = λ e. omega (arith, le, h.zero_out e);
  three_out = λ e. omega (arith, le, h.three_out e);
}

-- ---- what waits after that

taken_of : (o : Option ℕ) (v old k : ℕ) → o ≡ Some v → cond (true && is_partner o v) (old - k) old ≡ old - k
taken_of o v old k e = rw (e, eq-eqb v v refl) refl

not_taken : (o : Option ℕ) (v old k : ℕ) (b : Bool) → (o ≡ Some v → ⊥) → cond (b && is_partner o v) (old - k) old ≡ old
not_taken None v old k true other = refl
not_taken None v old k false other = refl
not_taken (Some w) v old k true other = rw (ne_eqb w v (λ e. other (ap (λ (n : ℕ). Some n) e))) refl
not_taken (Some w) v old k false other = refl

module _ (zero three : List (Option ℕ)) (m : AreMatched zero three) (k : ℕ) (old new : List ℕ) (taken : AreTaken zero k MAX_MODULES old new) where
  pub at_pair : (x y : ℕ) → partner zero x ≡ Some y → count_at new x y ≡ count_at old x y - k
  at_pair x y joined =
      let x_in = has_low zero x y m.sized joined in
      taken.at x y x_in (partner_low zero three x y m joined) ∙ (rw (lt-ltb x MAX_MODULES x_in) (taken_of (partner zero x) y (count_at old x y) k joined))

  pub at_others : (x y : ℕ) → x < MAX_MODULES → y < MAX_MODULES → (partner zero x ≡ Some y → ⊥) → count_at new x y ≡ count_at old x y
  at_others x y x_in y_in other = taken.at x y x_in y_in ∙ not_taken (partner zero x) y (count_at old x y) k (nat_lt x MAX_MODULES) other

  -- with as many transfers fewer where a link is joined, and as many where it isn't
  pub zero_joined : (x y : ℕ) → partner zero x ≡ Some y → k ≤ count_at old x y → waiting new Zero x + k ≡ waiting old Zero x
  zero_joined x y joined le =
      let x_in = has_low zero x y m.sized joined in
      let changed = sum_changed MAX_MODULES y (λ v. count_at old x v) (λ v. count_at new x v) (partner_low zero three x y m joined)
      (λ v v_in ne. at_others x v x_in v_in (λ e. ne (same_Some v y (sym e ∙ joined)))) in
      omega (arith, changed, at_pair x y joined, le)

  pub zero_free : (x : ℕ) → x < MAX_MODULES → partner zero x ≡ None → waiting new Zero x ≡ waiting old Zero x
  zero_free x x_in none = sum_same MAX_MODULES (λ v. count_at new x v) (λ v. count_at old x v)
      (λ v v_in. at_others x v x_in v_in (λ e. none-some v (sym none ∙ e)))

  pub three_joined : (x y : ℕ) → partner zero x ≡ Some y → k ≤ count_at old x y → waiting new Three y + k ≡ waiting old Three y
  three_joined x y joined le =
      let y_in = partner_low zero three x y m joined in
      let changed = sum_changed MAX_MODULES x (λ u. count_at old u y) (λ u. count_at new u y) (has_low zero x y m.sized joined)
      (λ u u_in ne. at_others u y u_in y_in (λ e. ne (same_Some u x (sym ((m.each_other u y).0 e) ∙ (m.each_other x y).0 joined)))) in
      omega (arith, changed, at_pair x y joined, le)

  pub three_free : (y : ℕ) → y < MAX_MODULES → partner three y ≡ None → waiting new Three y ≡ waiting old Three y
  three_free y y_in none = sum_same MAX_MODULES (λ u. count_at new u y) (λ u. count_at old u y)
      (λ u u_in. at_others u y u_in y_in (λ e. none-some u (sym none ∙ (m.each_other u y).0 e)))

  pub fewer : (x y : ℕ) → x < MAX_MODULES → y < MAX_MODULES → count_at new x y ≤ count_at old x y
  fewer x y x_in y_in = partner_cases (partner zero x) (count_at new x y ≤ count_at old x y)
      (λ none. omega (arith, at_others x y x_in y_in (λ e. none-some y (sym none ∙ e))))
      (λ z joined. elim (cases_eq z y) [
        | inl e ↦ omega (arith, at_pair x y (joined ∙ ap (λ (n : ℕ). Some n) e))
        | inr ne ↦ omega (arith, at_others x y x_in y_in (λ e. ne (same_Some z y (sym joined ∙ e))))
      ])

  module _ (most : ℕ) (h : HaveMost old most) (can : CanHold old zero three most k) where
    -- how many wait of a link: as many fewer, or as many, which are few
    pub waits_now : (end : End) (x : ℕ) → x < MAX_MODULES → (waiting new end x + k ≡ waiting old end x)
        ⊎ ((waiting new end x ≡ waiting old end x) × (waiting old end x + k ≤ most))
    waits_now Zero x x_in = partner_cases (partner zero x) ((waiting new Zero x + k ≡ waiting old Zero x)
        ⊎ ((waiting new Zero x ≡ waiting old Zero x) × (waiting old Zero x + k ≤ most)))
        (λ none. inr (zero_free x x_in none, (can.each x x_in).zero_out none))
        (λ y joined. inl (zero_joined x y joined ((can.each x x_in).pair y joined)))
    waits_now Three y y_in = partner_cases (partner three y) ((waiting new Three y + k ≡ waiting old Three y)
        ⊎ ((waiting new Three y ≡ waiting old Three y) × (waiting old Three y + k ≤ most)))
        (λ none. inr (three_free y y_in none, (can.each y y_in).three_out none))
        (λ x back.
        let joined = (m.each_other x y).1 back in
        inl (three_joined x y joined ((can.each x (has_low zero x y m.sized joined)).pair y joined)))

    -- a link that is full is joined
    pub full_joined : (end : End) (x : ℕ) → x < MAX_MODULES → waiting old end x ≡ most → waiting new end x + k ≡ waiting old end x
    full_joined end x x_in full = elim (waits_now end x x_in) [
      | inl less ↦ less
      | inr same ↦ absurd (omega (arith, same.1, full, can.some))
    ]

    pub none_wait : (n : ℕ) → NoneWait old n → NoneWait new n
    none_wait n none end x le x_in = elim (waits_now end x x_in) [
      | inl less ↦ omega (arith, less, none end x le x_in)
      | inr same ↦ omega (arith, same.0, none end x le x_in)
    ]

    pub less_waits : HaveMost new (most - k)
    less_waits end x x_in = elim (waits_now end x x_in) [
      | inl less ↦ omega (arith, less, h end x x_in)
      | inr same ↦ omega (arith, same.0, same.1)
    ]

-- ---- one module more

pub none_taken : (zero : List (Option ℕ)) (k : ℕ) (old : List ℕ) → length old ≡ MAX_MODULES * MAX_MODULES → AreTaken zero k 0 old old
none_taken zero k old places = record { places = places; at = λ u v u_in v_in. rw (le-ltb u 0 (omega arith)) refl }

module _ (zero : List (Option ℕ)) (k n : ℕ) (old now : List ℕ) (so_far : AreTaken zero k n old now) (n_in : n < MAX_MODULES) where
  still : (u v : ℕ) → u < MAX_MODULES → v < MAX_MODULES → u ≢ n → count_at now u v ≡ cond (nat_lt u (n + 1) && is_partner (partner zero u) v)
      (count_at old u v - k) (count_at old u v)
  still u v u_in v_in ne =
      let same : nat_lt u (n + 1) ≡ nat_lt u n = grind (arith, nat_tests) in
      rw same (so_far.at u v u_in v_in)

  pub untouched : (v : ℕ) → v < MAX_MODULES → count_at now n v ≡ count_at old n v
  untouched v v_in = so_far.at n v n_in v_in ∙ (rw (le-ltb n n (omega arith)) refl)

  pub free_taken : partner zero n ≡ None → AreTaken zero k (n + 1) old now
  free_taken none = record {
    places = so_far.places;
    at = λ u v u_in v_in. elim (cases_eq u n) [
      | inl e ↦ subst (λ (x : ℕ). count_at now x v ≡ cond (nat_lt x (n + 1) && is_partner (partner zero x) v) (count_at old x v - k) (count_at old x v)) (sym e)
          (untouched v v_in ∙ sym (not_taken (partner zero n) v (count_at old n v) k (nat_lt n (n + 1)) (λ j. none-some v (sym none ∙ j))))
      | inr ne ↦ still u v u_in v_in ne
    ];
  }

  pub joined_taken : (y : ℕ) → y < MAX_MODULES → partner zero n ≡ Some y → AreTaken zero k (n + 1) old (set now (pair_index n y) (count_at now n y - k))
  joined_taken y y_in joined =
      let after : List ℕ = set now (pair_index n y) (count_at now n y - k) in
      record {
        places = length-set now (pair_index n y) (count_at now n y - k) ∙ so_far.places;
        at = λ u v u_in v_in. elim (cases_eq u n) [
          | inl e ↦ subst (λ (x : ℕ). count_at after x v ≡ cond (nat_lt x (n + 1) && is_partner (partner zero x) v) (count_at old x v - k) (count_at old x v))
              (sym e)
              (elim (cases_eq v y) [
                | inl f ↦ subst (λ (w : ℕ). count_at after n w ≡ cond (nat_lt n (n + 1) && is_partner (partner zero n) w) (count_at old n w - k)
                    (count_at old n w)) (sym f) (count_here now n y (count_at now n y - k) so_far.places n_in y_in
                    ∙ (ap (λ (c : ℕ). c - k) (untouched y y_in)
                    ∙ sym (rw (lt-ltb n (n + 1) (omega arith)) (taken_of (partner zero n) y (count_at old n y) k joined))))
                | inr ne ↦ count_other now n y (count_at now n y - k) so_far.places n_in y_in n v v_in (λ _ g. ne (sym g))
                    ∙ (untouched v v_in ∙ sym (not_taken (partner zero n) v (count_at old n v) k (nat_lt n (n + 1)) (λ j. ne (same_Some v y (sym j ∙ joined)))))
              ])
          | inr ne ↦ count_other now n y (count_at now n y - k) so_far.places n_in y_in u v v_in (λ g _. ne (sym g)) ∙ still u v u_in v_in ne
        ];
      }

-- those of the first n modules are all, where no other has a partner
pub all_taken : (zero : List (Option ℕ)) (k n : ℕ) (old new : List ℕ) → n ≤ MAX_MODULES → AreBelow zero n → AreTaken zero k n old new
    → AreTaken zero k MAX_MODULES old new
all_taken zero k n old new within low taken = record {
  places = taken.places;
  at = λ u v u_in v_in. elim (cases_lt u n) [
    | inl lt ↦ taken.at u v u_in v_in ∙ rw (lt-ltb u n lt, lt-ltb u MAX_MODULES u_in) refl
    | inr le ↦
        taken.at u v u_in v_in
        ∙ (not_taken (partner zero u) v (count_at old u v) k (nat_lt u n) (λ joined. omega (arith, low u v joined, le))
        ∙ sym (not_taken (partner zero u) v (count_at old u v) k (nat_lt u MAX_MODULES) (λ joined. omega (arith, low u v joined, le))))
  ];
}

-- where one module's pair is parted if none of it waits, and the others stay
pub after_now : (zero zero_now : List (Option ℕ)) (counts now : List ℕ) (n : ℕ) → ((x y : ℕ) → x < n → partner zero x ≡ Some y → 0 < count_at counts x y)
    → ((x : ℕ) → x ≢ n → partner zero_now x ≡ partner zero x) → ((y : ℕ) → partner zero_now n ≡ Some y → 0 < count_at now n y)
    → ((x y : ℕ) → x ≢ n → partner zero x ≡ Some y → count_at now x y ≡ count_at counts x y) → (x y : ℕ) → x < n + 1 → partner zero_now x ≡ Some y
    → 0 < count_at now x y
after_now zero zero_now counts now n so_far others here same x y = below_more (λ u. partner zero_now u ≡ Some y → 0 < count_at now u y) n (λ u lt joined.
    let ne : u ≢ n = λ e. omega (arith, e, lt) in
    let was = sym (others u ne) ∙ joined in
    omega (arith, same u y ne was, so_far u y lt was)) (here y) x

-- ---- no longer

pub tighter : (counts : List ℕ) (zero three : List (Option ℕ)) (most old z t k n : ℕ) → n < MAX_MODULES → k ≡ min (min old z) t
    → IsTight counts zero three most old → ((y : ℕ) → partner zero n ≡ Some y → z ≡ count_at counts n y)
    → (partner zero n ≡ None → waiting counts Zero n + z ≡ most) → ((y : ℕ) → partner three n ≡ Some y → t ≡ most)
    → (partner three n ≡ None → waiting counts Three n + t ≡ most) → IsTight counts zero three most k
tighter counts zero three most old z t k n n_in is tight z_pair z_out t_pair t_out = elim (cases_lt k old) [
  | inr le ↦ subst (IsTight counts zero three most) (omega arith) tight
  | inl lt ↦ elim (cases_lt k z) [
    | inr le ↦ partner_cases (partner zero n) (IsTight counts zero three most k)
        (λ none. by_zero n n_in none (omega (arith, z_out none)))
        (λ y joined. by_pair n y joined (omega (arith, z_pair y joined)))
    | inl lt_too ↦ partner_cases (partner three n) (IsTight counts zero three most k)
        (λ none. by_three n n_in none (omega (arith, t_out none)))
        (λ y joined. all (omega (arith, t_pair y joined)))
  ]
]
