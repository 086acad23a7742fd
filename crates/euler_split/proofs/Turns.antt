-- A walk from partner to partner, by the two ends in turn, that puts them into the two halves in
-- turn.
use Rattle.std.proofs.Common.{◌≡◌, ◌≢◌, ℕ, ◌+◌, ◌<◌, ◌⊎◌, inl, inr, List, length, get_or, set, Option, Some, None, IsSome, is_some, Bool, true, false, not, refl, sym, ap, ◌∙◌, subst, get_or-set_same}
use Rattle.std.proofs.Common.{get_or-set_other, below_more}
use Rattle.std.proofs.lemmas.List.{get_or_past}
use Rattle.std.proofs.lemmas.Option.{same_Some, none-some}
use Rattle.std.proofs.lemmas.Bool.{cases_eq, cases_lt, true≢false, false≢true}
use Rattle.link_graph.specs.declared.link.End.{End}
use Rattle.link_graph.specs.declared.link.End.TheVariants.{Zero, Three}
use Rattle.euler_split.specs.Pairs.{ArePartners}
use Rattle.link_graph.specs.Links.{other_end}
use Rattle.euler_split.specs.Walks.{partner_at, half_at, is_three, IsWalk, IsClosed, IsHalved, Keeps}

pub not-not : (b : Bool) → not (not b) ≡ b
not-not true = refl
not-not false = refl

three-other : (e : End) → not (is_three e) ≡ is_three (other_end e)
three-other Zero = refl
three-other Three = refl

zero≢three : Zero ≢ Three
zero≢three e = false≢true (ap is_three e)

end_cases : (o e : End) → (o ≡ e) ⊎ (o ≡ other_end e)
end_cases Zero Zero = inl refl
end_cases Zero Three = inr refl
end_cases Three Zero = inr refl
end_cases Three Three = inl refl

-- what a write leaves
pub at_written : (h : List (Option Bool)) (w u : ℕ) (v : Option Bool) → w < length h → ((u ≡ w) × (half_at (set h w v) u ≡ v))
    ⊎ ((u ≢ w) × (half_at (set h w v) u ≡ half_at h u))
at_written h w u v within = elim (cases_eq u w) [
  | inl same ↦ inl (same, subst (λ x. half_at (set h w v) x ≡ v) (sym same) (get_or-set_same h w v None within))
  | inr apart ↦ inr (apart, get_or-set_other h w u v None apart)
]

pub differs : (h : List (Option Bool)) (u v : ℕ) (x : Bool) → half_at h u ≡ Some x → half_at h v ≡ None → u ≢ v
differs h u v x at out same = let e : half_at h u ≡ half_at h v = ap (half_at h) same in cc

pub some_of : {A : Type 0} (o : Option A) → IsSome o → (x : A) × (o ≡ Some x)
some_of None h = absurd (false≢true h)
some_of (Some x) h = (x, refl)

module _ (zs ts : List (Option ℕ)) (pz : ArePartners zs) (pt : ArePartners ts) where
  pub mutual_at : (e : End) (u v : ℕ) → partner_at zs ts e u ≡ Some v → partner_at zs ts e v ≡ Some u
  mutual_at Zero u v p = pz.symmetric u v p
  mutual_at Three u v p = pt.symmetric u v p

  pub apart_at : (e : End) (u v : ℕ) → partner_at zs ts e u ≡ Some v → u ≢ v
  apart_at Zero u v p = pz.apart u v p
  apart_at Three u v p = pt.apart u v p

module _ (zs ts : List (Option ℕ)) (pz : ArePartners zs) (pt : ArePartners ts) (s : ℕ) (first : End) where
  -- one more place is put into the half that the last isn't in
  pub walk_on : (h : List (Option Bool)) (at v : ℕ) (e : End) (x : Bool) → IsWalk zs ts s first h at e → partner_at zs ts e at ≡ Some v → v < length h
      → half_at h v ≡ None → half_at h at ≡ Some x → IsWalk zs ts s first (set h v (Some (not x))) v (other_end e)
  walk_on h at v e x w p v_in out is =
      let now : List (Option Bool) = set h v (Some (not x)) in
      let new : half_at now v ≡ Some (not x) = get_or-set_same h v (Some (not x)) None v_in in
      let kept : (u : ℕ) (y : Bool) → half_at h u ≡ Some y → half_at now u ≡ Some y = λ u y old. get_or-set_other h v u (Some (not x)) None
      (differs h u v y old out) ∙ old in
      record {
        start = kept s true w.start;
        here = (not x, new);
        turn = λ by. new ∙ ap Some (ap not (same_Some x (is_three e) (sym is ∙ w.turn by)) ∙ three-other e);
        met = λ u t o q some. elim (at_written h v u (Some (not x)) v_in) [
          | inl fresh ↦ elim (end_cases o e) [
            | inl same ↦
                let back : t ≡ at = same_Some t
                at (sym q ∙ (ap (λ m. partner_at zs ts m u) same ∙ (ap (partner_at zs ts e) fresh.0 ∙ mutual_at zs ts pz pt e at v p))) in
                inl (record {
                  opposed = λ y is_y.
                      let y_is : y ≡ not x = same_Some y (not x) (sym is_y ∙ fresh.1) in
                      ap (half_at now) back ∙ (kept at x is ∙ ap Some (sym (ap not y_is ∙ not-not x)));
                })
            | inr other ↦ inr (inl (fresh.0, other))
          ]
          | inr old ↦
              let y = some_of (half_at h u) (subst IsSome old.1 some) in
              elim (w.met u t o q (subst IsSome old.1 some)) [
                | inl m ↦ inl (record { opposed = λ z is_z. kept t (not z) (m.opposed z (sym old.1 ∙ is_z)) })
                | inr still ↦ elim still [
                  | inl last ↦
                      let tv : t ≡ v = same_Some t v (sym q ∙ (ap (λ m. partner_at zs ts m u) last.1 ∙ (ap (partner_at zs ts e) last.0 ∙ p))) in
                      inl (record {
                        opposed = λ z is_z.
                            let z_is : z ≡ x = same_Some z x (sym is_z ∙ (old.1 ∙ (ap (half_at h) last.0 ∙ is))) in
                            ap (half_at now) tv ∙ (new ∙ ap (λ b. Some (not b)) (sym z_is));
                      })
                  | inr loose ↦ inr (inr loose)
                ]
              ]
        ];
      }

  -- at the end of a walk: no partner, or one that is in a half already
  pub walk_closed : (h : List (Option Bool)) (at : ℕ) (e : End) → IsWalk zs ts s first h at e
      → ((v : ℕ) → partner_at zs ts e at ≡ Some v → IsSome (half_at h v)) → IsClosed zs ts s first h
  walk_closed h at e w stop = record {
    met = λ u v o q some. elim (w.met u v o q some) [
      | inl m ↦ inl m
      | inr still ↦ elim still [
        | inr loose ↦ inr loose
        | inl last ↦
            let p : partner_at zs ts e at ≡ Some v = ap (partner_at zs ts e) (sym last.0) ∙ (ap (λ m. partner_at zs ts m u) (sym last.1) ∙ q) in
            let back : partner_at zs ts e v ≡ Some at = mutual_at zs ts pz pt e at v p in
            let y = some_of (half_at h v) (stop v p) in
            elim (w.met v at e back (stop v p)) [
              | inl m ↦ inl (record {
                opposed = λ z is_z.
                    let z_is : z ≡ not y.0 = same_Some z (not y.0) (sym is_z ∙ (ap (half_at h) last.0 ∙ m.opposed y.0 y.1)) in
                    y.1 ∙ ap Some (sym (ap not z_is ∙ not-not y.0));
              })
              | inr again ↦ elim again [
                | inl self ↦ absurd (apart_at zs ts pz pt e at v p (sym self.0))
                | inr round ↦ inl (record {
                  opposed = λ z is_z.
                      let z_is : z ≡ false = same_Some z false (sym is_z ∙ (ap (half_at h) last.0 ∙ (w.turn round.0 ∙ ap (λ m. Some (is_three m)) round.2))) in
                      ap (half_at h) round.1 ∙ (w.start ∙ ap (λ b. Some (not b)) (sym z_is));
                })
              ]
            ]
      ]
    ];
  }

  pub walk_keeps : (h : List (Option Bool)) (v : ℕ) (x : Bool) → half_at h v ≡ None → Keeps h (set h v (Some x))
  walk_keeps h v x out = record { kept = λ u y old. get_or-set_other h v u (Some x) None (differs h u v y old out) ∙ old }

pub keeps_then : (h i j : List (Option Bool)) → Keeps h i → Keeps i j → Keeps h j
keeps_then h i j a b = record { kept = λ u x at. b.kept u x (a.kept u x at) }

module _ (zs ts : List (Option ℕ)) where
  -- a new walk begins at a place that is in no half
  pub first_walk : (h : List (Option Bool)) (n s : ℕ) → IsHalved zs ts n h → s < length h → half_at h s ≡ None → IsWalk zs ts s Three (set h s (Some true)) s
      Three
  first_walk h n s all s_in out =
      let now : List (Option Bool) = set h s (Some true) in
      let new : half_at now s ≡ Some true = get_or-set_same h s (Some true) None s_in in
      record {
        start = new;
        here = (true, new);
        turn = λ _. new;
        met = λ u v o q some. elim (at_written h s u (Some true) s_in) [
          | inl fresh ↦ elim (end_cases o Three) [ inl three ↦ inr (inl (fresh.0, three)) | inr zero' ↦ inr (inr (refl, fresh.0, zero')) ]
          | inr old ↦
              let m = all.met u v o q (subst IsSome old.1 some) in
              inl (record {
                opposed = λ x is_x.
                    let there : half_at h v ≡ Some (not x) = m.opposed x (sym old.1 ∙ is_x) in
                    get_or-set_other h s v (Some true) None (differs h v s (not x) there out) ∙ there;
              })
        ];
      }

  -- and goes on from there by the other end
  pub second_walk : (h : List (Option Bool)) (s : ℕ) → IsClosed zs ts s Three h → half_at h s ≡ Some true → IsWalk zs ts s Zero h s Zero
  second_walk h s closed start = record {
    start = start;
    here = (true, start);
    turn = λ e. absurd (zero≢three e);
    met = λ u v o q some. elim (closed.met u v o q some) [ inl m ↦ inl m | inr loose ↦ inr (inl (loose.1, loose.2)) ];
  }

  -- then one place more is done
  pub one_more : (h now : List (Option Bool)) (n : ℕ) → IsHalved zs ts n h → Keeps h now → IsSome (half_at now n) → length now ≡ length h
      → IsClosed zs ts n Zero now → IsHalved zs ts (n + 1) now
  one_more h now n all keeps here len closed = record {
    sized = len ∙ all.sized;
    done = below_more _ _ (λ u below. let x = some_of (half_at h u) (all.done u below) in subst IsSome (sym (keeps.kept u x.0 x.1)) refl) here;
    met = λ u v o q some. elim (closed.met u v o q some) [ inl m ↦ m | inr loose ↦ absurd (zero≢three loose.0) ];
  }

pub pair_in : (ps : List (Option ℕ)) (u v : ℕ) → ArePartners ps → get_or ps u None ≡ Some v → v < length ps
pair_in ps u v pairs at = elim (cases_lt v (length ps)) [
  | inl within ↦ within
  | inr past ↦ absurd (none-some u (sym (get_or_past ps v None past) ∙ pairs.symmetric u v at))
]

pub none_of : {A : Type 0} (o : Option A) → is_some o ≡ false → o ≡ None
none_of None h = refl
none_of (Some x) h = absurd (true≢false h)
