-- Steps of the search for a partner.
use Rattle.std.proofs.Common.{◌≡◌, ◌≢◌, ℕ, ◌^◌, ◌<◌, List, length, set, Option, Some, None, true, false, refl, sym, ap, ◌∙◌, subst, inl, inr, arith}
use Rattle.std.specs.Prelude.{IsSome}
use Rattle.std.specs.Int.RustNames.{bit_and, bit_xor}
use Rattle.std.proofs.lemmas.Bool.{cases_eq, cases_Bool, false≢true}
use Rattle.std.proofs.lemmas.Bool.Decides.{nat_tests}
use Rattle.std.proofs.lemmas.Nat.Bits.{bit_at_and, bit_at-zero, bit_at-lt}
use Rattle.std.proofs.lemmas.Option.{none-some, same_Some}
use Rattle.batch.specs.declared.limits.TheConstants.{MAX_MODULES}
use Rattle.link_graph.specs.Masks.{has_bit, has_pair}
use Rattle.link_graph.proofs.Masks.{bit_toggled}
use Rattle.steady_schedule.specs.Matchings.{partner, AreMatched}
use Rattle.steady_schedule.specs.Searches.{IsStuck, IsInVain, IsFound, IsFreed}
use Rattle.steady_schedule.proofs.Matchings.{has_low, at_set, at_other}

-- ---- masks

pub both_bits : (m n i : ℕ) → has_bit (bit_and m n) i ≡ true → (has_bit m i ≡ true) × (has_bit n i ≡ true)
both_bits m n i t = (
  grind (arith, nat_tests, bit_at_and m n i, bit_at-lt m i, bit_at-lt n i),
  grind (arith, nat_tests, bit_at_and m n i, bit_at-lt m i, bit_at-lt n i),
)

pub no_bit : (m n i : ℕ) → bit_and m n ≡ 0 → has_bit m i ≡ true → has_bit n i ≡ false
no_bit m n i none had = grind (arith, nat_tests, bit_at_and m n i, bit_at-zero i, bit_at-lt m i, bit_at-lt n i)

-- the bit that is taken out
module _ (n k : ℕ) (had : has_bit n k ≡ true) where
  pub out_here : has_bit (bit_xor n (2 ^ k)) k ≡ false
  out_here = grind (arith, nat_tests, bit_toggled n k k)

  pub out_other : (i : ℕ) → i ≢ k → has_bit (bit_xor n (2 ^ k)) i ≡ has_bit n i
  out_other i ne = grind (arith, nat_tests, bit_toggled n k i)

-- ---- options

some_is : (o : Option ℕ) (v : ℕ) → o ≡ Some v → IsSome o
some_is o v e = rw e refl

pub along : (o p : Option ℕ) → o ≡ p → IsSome p → IsSome o
along o p e some = rw e some

-- ---- a link is freed

module _ (near : List ℕ) (needed unseen y : ℕ) (of back : List (Option ℕ)) (m : AreMatched of back) where
  module _ (x : ℕ) (joined : partner back y ≡ Some x) where
    own : partner of x ≡ Some y
    own = (m.each_other x y).1 joined

    x_in : x < length of
    x_in = omega (arith, m.sized, has_low of x y m.sized own)

    y_in : y < length back
    y_in = omega (arith, m.back_sized, has_low back y x m.back_sized joined)

    abbrev of_less : List (Option ℕ)
    of_less = set of x None

    abbrev back_less : List (Option ℕ)
    back_less = set back y None

    pub y_less : partner back_less y ≡ None
    y_less = at_set back y None y_in

    pub x_less : partner of_less x ≡ None
    x_less = at_set of x None x_in

    less_joined : (z w : ℕ) → partner of_less z ≡ Some w → partner of z ≡ Some w
    less_joined z w e = elim (cases_eq z x) [
      | inl here ↦ absurd (none-some w (sym x_less ∙ subst (λ (v : ℕ). partner of_less v ≡ Some w) here e))
      | inr other ↦ sym (at_other of x z None other) ∙ e
    ]

    free_less : (z : ℕ) → partner of z ≡ None → partner of_less z ≡ None
    free_less z none = elim (cases_eq z x) [
      | inl here ↦ ap (partner of_less) here ∙ x_less
      | inr other ↦ at_other of x z None other ∙ none
    ]

    not_x : (z : ℕ) → partner of z ≡ None → z ≢ x
    not_x z none same = none-some y (sym none ∙ (ap (partner of) same ∙ own))

    -- its partner finds another
    pub goes_elsewhere : (of_now back_now : List (Option ℕ)) → has_bit unseen y ≡ false → IsFound near needed unseen x of_less of_now back_less back_now
        → IsFreed near needed unseen y of of_now back back_now
    goes_elsewhere of_now back_now y_seen f = record {
      freed = f.seen_kept y y_seen ∙ y_less;
      joins_near = λ z w e. elim (f.joins_near z w e) [ inl old ↦ inl (less_joined z w old) | inr near ↦ inr near ];
      needed_kept = λ z is_needed s. elim (cases_eq z x) [
        | inl here ↦ subst (λ (v : ℕ). IsSome (partner of_now v)) (sym here) f.found
        | inr other ↦ f.needed_kept z is_needed (along (partner of_less z) (partner of z) (at_other of x z None other) s)
      ];
      free_kept = λ z none. f.free_kept z (not_x z none) (free_less z none);
      back_kept = λ w ne s. f.back_kept w (along (partner back_less w) (partner back w) (at_other back y w None ne) s);
      seen_kept = λ w ne s. f.seen_kept w s ∙ at_other back y w None ne;
    }

    -- nobody gives way
    module _ (of_now back_now : List (Option ℕ)) (now : ℕ) (m_now : AreMatched of_now back_now)
        (v : IsInVain near needed unseen now of_less of_now back_less back_now) where
      pub x_free : partner of_now x ≡ None
      x_free = v.same x ∙ x_less

      pub y_free : partner back_now y ≡ None
      y_free = v.back_same y ∙ y_less

      abbrev of_again : List (Option ℕ)
      of_again = set of_now x (Some y)

      abbrev back_again : List (Option ℕ)
      back_again = set back_now y (Some x)

      back_at : partner back_again y ≡ Some x
      back_at = at_set back_now y (Some x) (omega (arith, m_now.back_sized, m.back_sized, y_in))

      pub stays : IsInVain near needed unseen now of of_again back back_again
      stays = record {
        same = λ z. elim (cases_eq z x) [
          | inl here ↦ subst (λ (w : ℕ). partner of_again w ≡ partner of w) (sym here) (at_set of_now x (Some y) (omega (arith, m_now.sized, m.sized, x_in))
              ∙ sym own)
          | inr other ↦ at_other of_now x z (Some y) other ∙ (v.same z ∙ at_other of x z None other)
        ];
        back_same = λ w. elim (cases_eq w y) [
          | inl here ↦ subst (λ (u : ℕ). partner back_again u ≡ partner back u) (sym here) (back_at ∙ sym joined)
          | inr other ↦ at_other back_now y w (Some x) other ∙ (v.back_same w ∙ at_other back y w None other)
        ];
        fewer = v.fewer;
        stuck = λ w was is.
            let s = v.stuck w was is in
            let other : w ≢ y = λ same. none-some s.x (sym y_free ∙ (ap (partner back_now) (sym same) ∙ s.joined)) in
            record { x = s.x; joined = at_other back_now y w (Some x) other ∙ s.joined; is_needed = s.is_needed; seen = s.seen };
      }

-- ---- the search from a link

module _ (near : List ℕ) (needed unseen now x y : ℕ) (of of_now back back_now : List (Option ℕ)) (v : IsInVain near needed unseen now of of_now back back_now)
    (is_near : has_pair near x y ≡ true) (was : has_bit now y ≡ true) (less : ℕ) (out : has_bit less y ≡ false) (others : (i : ℕ) → i ≢ y → has_bit less i
    ≡ has_bit now i) where
  less_fewer : (i : ℕ) → has_bit less i ≡ true → has_bit now i ≡ true
  less_fewer i t = sym (others i (λ same. false≢true (sym out ∙ (ap (has_bit less) (sym same) ∙ t)))) ∙ t

  -- one link more is stuck
  pub one_stuck : (after : ℕ) (of_after back_after : List (Option ℕ)) → IsInVain near needed less after of_now of_after back_now back_after
      → IsStuck near needed after back_after y → IsInVain near needed unseen after of of_after back back_after
  one_stuck after of_after back_after w here = record {
    same = λ z. w.same z ∙ v.same z;
    back_same = λ z. w.back_same z ∙ v.back_same z;
    fewer = λ z t. v.fewer z (less_fewer z (w.fewer z t));
    stuck = λ z t f. elim (cases_eq z y) [
      | inl same ↦ subst (IsStuck near needed after back_after) (sym same) here
      | inr other ↦ elim (cases_Bool (has_bit now z)) [
        | inl still ↦ w.stuck z (others z other ∙ still) f
        | inr seen ↦
            let s = v.stuck z t seen in
            record {
              x = s.x;
              joined = w.back_same z ∙ s.joined;
              is_needed = s.is_needed;
              seen = λ u n. elim (cases_Bool (has_bit after u)) [
                | inl bad ↦ absurd (false≢true (sym (s.seen u n) ∙ less_fewer u (w.fewer u bad)))
                | inr fine ↦ fine
              ];
            }
      ]
    ];
  }

  -- a link that was freed is the partner
  module _ (of_after back_after : List (Option ℕ)) (m : AreMatched of_after back_after) (x_in : x < MAX_MODULES) (y_in : y < MAX_MODULES)
      (x_free : partner of x ≡ None) (f : IsFreed near needed less y of_now of_after back_now back_after) where
    abbrev of_new : List (Option ℕ)
    of_new = set of_after x (Some y)

    abbrev back_new : List (Option ℕ)
    back_new = set back_after y (Some x)

    here : partner of_new x ≡ Some y
    here = at_set of_after x (Some y) (omega (arith, m.sized, x_in))

    back_here : partner back_new y ≡ Some x
    back_here = at_set back_after y (Some x) (omega (arith, m.back_sized, y_in))

    pub found_here : IsFound near needed unseen x of of_new back back_new
    found_here = record {
      found = some_is (partner of_new x) y here;
      joins_near = λ z w e. elim (cases_eq z x) [
        | inl same ↦
            let at : y ≡ w = same_Some y w (sym here ∙ subst (λ (u : ℕ). partner of_new u ≡ Some w) same e) in
            inr (subst (λ (u : ℕ). has_pair near u w ≡ true) (sym same) (subst (λ (u : ℕ). has_pair near x u ≡ true) at is_near))
        | inr other ↦ elim (f.joins_near z w (sym (at_other of_after x z (Some y) other) ∙ e)) [ inl old ↦ inl (sym (v.same z) ∙ old) | inr near ↦ inr near ]
      ];
      needed_kept = λ z is_needed s. elim (cases_eq z x) [
        | inl same ↦ subst (λ (u : ℕ). IsSome (partner of_new u)) (sym same) (some_is (partner of_new x) y here)
        | inr other ↦ along (partner of_new z) (partner of_after z) (at_other of_after x z (Some y) other)
            (f.needed_kept z is_needed (along (partner of_now z) (partner of z) (v.same z) s))
      ];
      free_kept = λ z ne none. at_other of_after x z (Some y) ne ∙ f.free_kept z (v.same z ∙ none);
      back_kept = λ w s. elim (cases_eq w y) [
        | inl same ↦ subst (λ (u : ℕ). IsSome (partner back_new u)) (sym same) (some_is (partner back_new y) x back_here)
        | inr other ↦ along (partner back_new w) (partner back_after w) (at_other back_after y w (Some x) other)
            (f.back_kept w other (along (partner back_now w) (partner back w) (v.back_same w) s))
      ];
      seen_kept = λ w seen.
          let other : w ≢ y = λ same. false≢true (sym seen ∙ (ap (has_bit unseen) same ∙ v.fewer y was)) in
          let still : has_bit less w ≡ false = elim (cases_Bool (has_bit less w)) [
            | inl bad ↦ absurd (false≢true (sym seen ∙ v.fewer w (less_fewer w bad)))
            | inr fine ↦ fine
          ] in
          at_other back_after y w (Some x) other ∙ (f.seen_kept w other still ∙ v.back_same w);
    }
