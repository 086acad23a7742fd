-- Partners that are each other's, as links are joined and parted.
use Rattle.std.proofs.Common.{◌≡◌, ◌≢◌, ℕ, ◌<◌, List, length, set, replicate, Option, Some, None, sym, ap, ◌∙◌, subst, inl, inr, get_or-set_same, get_or-set_other, arith}
use Rattle.std.proofs.lemmas.Bool.{cases_eq, cases_lt}
use Rattle.std.proofs.lemmas.List.{length-set, length-replicate, get_or_past}
use Rattle.std.proofs.lemmas.Option.{none-some, same_Some}
use Rattle.batch.specs.declared.limits.TheConstants.{MAX_MODULES}
use Rattle.steady_schedule.specs.Matchings.{partner, AreMatched}
use Rattle.steady_schedule.proofs.Joined.{none_there}

-- a module that has a partner is one that there may be
pub has_low : (of : List (Option ℕ)) (x y : ℕ) → length of ≡ MAX_MODULES → partner of x ≡ Some y → x < MAX_MODULES
has_low of x y sized joined = elim (cases_lt x MAX_MODULES) [
  | inl lt ↦ lt
  | inr le ↦ absurd (none-some y (sym (get_or_past of x None (omega (arith, sized))) ∙ joined))
]

pub partner_low : (of back : List (Option ℕ)) (x y : ℕ) → AreMatched of back → partner of x ≡ Some y → y < MAX_MODULES
partner_low of back x y m joined = has_low back y x m.back_sized ((m.each_other x y).0 joined)

pub none_matched : AreMatched (replicate MAX_MODULES None) (replicate MAX_MODULES None)
none_matched = record {
  sized = length-replicate {A = Option ℕ} MAX_MODULES None;
  back_sized = length-replicate {A = Option ℕ} MAX_MODULES None;
  each_other = λ x y. (λ e. absurd (none-some y (sym (none_there MAX_MODULES x) ∙ e)), λ e. absurd (none-some x (sym (none_there MAX_MODULES y) ∙ e)));
}

pub turned : (of back : List (Option ℕ)) → AreMatched of back → AreMatched back of
turned of back m = record { sized = m.back_sized; back_sized = m.sized; each_other = λ x y. ((m.each_other y x).1, (m.each_other y x).0) }

-- what stands at a place, after it was set there
pub at_set : (of : List (Option ℕ)) (x : ℕ) (o : Option ℕ) → x < length of → partner (set of x o) x ≡ o
at_set of x o lt = get_or-set_same of x o None lt

pub at_other : (of : List (Option ℕ)) (x z : ℕ) (o : Option ℕ) → z ≢ x → partner (set of x o) z ≡ partner of z
at_other of x z o ne = get_or-set_other of x z o None ne

module _ (of back : List (Option ℕ)) (x y : ℕ) (m : AreMatched of back) (x_in : x < MAX_MODULES) (y_in : y < MAX_MODULES) where
  x_there : x < length of
  x_there = omega (arith, m.sized)

  y_there : y < length back
  y_there = omega (arith, m.back_sized)

  one_way : partner back y ≡ None → (u v : ℕ) → partner (set of x (Some y)) u ≡ Some v → partner (set back y (Some x)) v ≡ Some u
  one_way y_free u v e = elim (cases_eq u x) [
    | inl here ↦
        let same : y ≡ v = same_Some y v (sym (at_set of x (Some y) x_there) ∙ subst (λ (w : ℕ). partner (set of x (Some y)) w ≡ Some v) here e) in
        ap (partner (set back y (Some x))) (sym same) ∙ (at_set back y (Some x) y_there ∙ ap (λ (n : ℕ). Some n) (sym here))
    | inr other ↦
        let was : partner of u ≡ Some v = sym (at_other of x u (Some y) other) ∙ e in
        at_other back y v (Some x) (λ same. none-some u (sym y_free ∙ (ap (partner back) (sym same) ∙ (m.each_other u v).0 was))) ∙ (m.each_other u v).0 was
  ]

pub joined_matched : (of back : List (Option ℕ)) (x y : ℕ) → AreMatched of back → x < MAX_MODULES → y < MAX_MODULES → partner of x ≡ None → partner back y
    ≡ None → AreMatched (set of x (Some y)) (set back y (Some x))
joined_matched of back x y m x_in y_in x_free y_free = record {
  sized = length-set of x (Some y) ∙ m.sized;
  back_sized = length-set back y (Some x) ∙ m.back_sized;
  each_other = λ u v. (one_way of back x y m x_in y_in y_free u v, one_way back of y x (turned of back m) y_in x_in x_free v u);
}

module _ (of back : List (Option ℕ)) (x y : ℕ) (m : AreMatched of back) (joined : partner of x ≡ Some y) where
  part_way : (u v : ℕ) → partner (set of x None) u ≡ Some v → partner (set back y None) v ≡ Some u
  part_way u v e = elim (cases_eq u x) [
    | inl here ↦ absurd
        (none-some v (sym (at_set of x None (omega (arith, m.sized, has_low of x y m.sized joined))) ∙ subst (λ (w : ℕ). partner (set of x None) w ≡ Some v)
        here e))
    | inr other ↦
        let was : partner of u ≡ Some v = sym (at_other of x u None other) ∙ e in
        at_other back y v None (λ same. other (same_Some u x (sym ((m.each_other u v).0 was) ∙ (ap (partner back) same ∙ (m.each_other x y).0 joined))))
        ∙ (m.each_other u v).0 was
  ]

pub parted_matched : (of back : List (Option ℕ)) (x y : ℕ) → AreMatched of back → partner of x ≡ Some y → AreMatched (set of x None) (set back y None)
parted_matched of back x y m joined = record {
  sized = length-set of x None ∙ m.sized;
  back_sized = length-set back y None ∙ m.back_sized;
  each_other = λ u v. (part_way of back x y m joined u v, part_way back of y x (turned of back m) ((m.each_other x y).0 joined) v u);
}
