-- Pairing the places at each link two by two: of each pair one passes a test that tells partners
-- apart.
use Rattle.std.proofs.Common.{◌≡◌, ◌≢◌, ℕ, suc, ◌+◌, ◌<◌, ◌≤◌, inl, inr, List, length, get_or, set, replicate, Option, Some, None, Bool, true, false, not, ◌&&◌, cond, refl, sym, ap, ◌∙◌, subst, arith}
use Rattle.std.proofs.Common.{get_or-set_same, get_or-set_other, length-set, eq-eqb}
use Rattle.std.proofs.lemmas.List.{get_or_past, get_or-replicate, length-replicate}
use Rattle.std.proofs.lemmas.Option.{same_Some, none-some}
use Rattle.std.proofs.lemmas.Bool.{cases_eq, cases_lt}
use Rattle.std.proofs.lemmas.Bool.Decides.{eqb_tells}
use Rattle.batch.specs.declared.limits.TheConstants.{MAX_MODULES}
use Rattle.euler_split.specs.Pairs.{ArePartners, TellsApart, passing, AreBalanced, HasCome}

-- a passing and b failing places, of which one may have no partner yet
abbrev pub Evens : Option ℕ → (ℕ → Bool) → ℕ → ℕ → Type 0
Evens None p a b = a ≡ b
Evens (Some w) p a b = (p w ≡ true → a ≡ b + 1) × (p w ≡ false → b ≡ a + 1)

-- the first i places are paired at each link, but for the one that waits there
pub record ArePaired (module_of : ℕ → ℕ) (count i : ℕ) (ws ps : List (Option ℕ)) : Type 0 where
  pub sized : length ps ≡ count
  pub links : length ws ≡ MAX_MODULES
  pub pairs : ArePartners ps
  pub fresh : (u : ℕ) → i ≤ u → get_or ps u None ≡ None
  pub waits : (l w : ℕ) → get_or ws l None ≡ Some w → (w < i) × (get_or ps w None ≡ None) × (module_of w ≡ l)
  pub even : (p : ℕ → Bool) → TellsApart ps p → (l : ℕ) → Evens (get_or ws l None) p (passing module_of l i p) (passing module_of l i (λ j. not (p j)))

passing_here : (module_of : ℕ → ℕ) (l i : ℕ) (p : ℕ → Bool) → l ≡ module_of i → passing module_of l (suc i) p ≡ cond (p i) 1 0 + passing module_of l i p
passing_here module_of l i p here =
    rw (eq-eqb _ l (sym here)) (elim (p i) as (λ b. cond (b && true) 1 0 + passing module_of l i p ≡ cond b 1 0 + passing module_of l i p)
    [ true ↦ refl | false ↦ refl ])

passing_away : (module_of : ℕ → ℕ) (l i : ℕ) (p : ℕ → Bool) → l ≢ module_of i → passing module_of l (suc i) p ≡ passing module_of l i p
passing_away module_of l i p away = elim (eqb_tells (module_of i) l) [
  | inl same ↦ absurd (away (sym same.1))
  | inr other ↦
      rw other.0 (elim (p i) as (λ b. cond (b && false) 1 0 + passing module_of l i p ≡ passing module_of l i p) [ true ↦ omega arith | false ↦ omega arith ])
]

evens_first : (p : ℕ → Bool) (i a b : ℕ) → a ≡ b → Evens (Some i) p (cond (p i) 1 0 + a) (cond (not (p i)) 1 0 + b)
evens_first p i a b e = (λ is. rw is (omega arith), λ is. rw is (omega arith))

evens_second : (p : ℕ → Bool) (i w a b : ℕ) → p w ≡ not (p i) → Evens (Some w) p a b → cond (p i) 1 0 + a ≡ cond (not (p i)) 1 0 + b
evens_second p i w a b told old =
    let go : (x : Bool) → p w ≡ not x → cond x 1 0 + a ≡ cond (not x) 1 0 + b = λ x. elim x as (λ x. p w ≡ not x → cond x 1 0 + a ≡ cond (not x) 1 0 + b)
    [ true ↦ λ is. let h = old.1 is in omega arith | false ↦ λ is. let h = old.0 is in omega arith ] in
    go (p i) told

evens_by : (o o' : Option ℕ) (p : ℕ → Bool) (a a' b b' : ℕ) → o ≡ o' → a ≡ a' → b ≡ b' → Evens o p a b → Evens o' p a' b'
evens_by o o' p a a' b b' eo ea eb h = subst (λ x. Evens x p a' b') eo (subst (λ x. Evens o p x b') ea (subst (λ x. Evens o p a x) eb h))

nothing_at : (n i : ℕ) (ws : List (Option ℕ)) → ws ≡ replicate n None → get_or ws i None ≡ None
nothing_at n i ws is = elim (cases_lt i n) [
  | inl within ↦ rw is (get_or-replicate n i None None within)
  | inr past ↦ get_or_past _ i None (rw (is, length-replicate) past)
]

pub none_paired : (module_of : ℕ → ℕ) (count : ℕ) (ws ps : List (Option ℕ)) → ws ≡ replicate MAX_MODULES None → length ps ≡ count
    → ((u : ℕ) → get_or ps u None ≡ None) → ArePaired module_of count 0 ws ps
none_paired module_of count ws ps is sized none = record {
  sized = sized;
  links = rw is (length-replicate {A = Option ℕ} MAX_MODULES None);
  pairs = record { symmetric = λ u v at. absurd (none-some v (sym (none u) ∙ at)); apart = λ u v at. absurd (none-some v (sym (none u) ∙ at)) };
  fresh = λ u _. none u;
  waits = λ l w at. absurd (none-some w (sym (nothing_at MAX_MODULES l ws is) ∙ at));
  even = λ p tells l. evens_by None (get_or ws l None) p 0 0 0 0 (sym (nothing_at MAX_MODULES l ws is)) refl refl refl;
}

module _ (module_of : ℕ → ℕ) (count i : ℕ) (ws ps : List (Option ℕ)) (x : ArePaired module_of count i ws ps) (i_in : i < count) (l₀ : ℕ)
    (l_in : l₀ < MAX_MODULES) (link : l₀ ≡ module_of i) where
  -- the first at its link waits
  pub waits_now : get_or ws l₀ None ≡ None → ArePaired module_of count (suc i) (set ws l₀ (Some i)) ps
  waits_now free =
      let now : List (Option ℕ) = set ws l₀ (Some i) in
      let within : l₀ < length ws = let n = x.links in omega arith in
      let here : get_or now l₀ None ≡ Some i = get_or-set_same ws l₀ (Some i) None within in
      record {
        sized = x.sized;
        links = length-set ws l₀ (Some i) ∙ x.links;
        pairs = x.pairs;
        fresh = λ u past. x.fresh u (omega arith);
        waits = λ l w at. elim (cases_eq l l₀) [
          | inl same ↦
              let wi : w ≡ i = same_Some w i (sym at ∙ (ap (λ m. get_or now m None) same ∙ here)) in
              (omega arith, ap (λ m. get_or ps m None) wi ∙ x.fresh i (omega arith), ap module_of wi ∙ (sym link ∙ sym same))
          | inr apart ↦
              let old = x.waits l w (sym (get_or-set_other ws l₀ l (Some i) None apart) ∙ at) in
              (omega (arith, old.0), old.1, old.2)
        ];
        even = λ p tells l. elim (cases_eq l l₀) [
          | inl same ↦
              let was : get_or ws l None ≡ None = ap (λ m. get_or ws m None) same ∙ free in
              let old : Evens None p (passing module_of l i p) (passing module_of l i (λ j. not (p j))) =
              subst (λ o. Evens o p (passing module_of l i p) (passing module_of l i (λ j. not (p j)))) was (x.even p tells l) in
              evens_by (Some i) _ p _ _ _ _ (sym here ∙ ap (λ m. get_or now m None) (sym same)) (sym (passing_here module_of l i p (same ∙ link)))
              (sym (passing_here module_of l i (λ j. not (p j)) (same ∙ link))) (evens_first p i _ _ old)
          | inr apart ↦
              let away : l ≢ module_of i = λ q. apart (q ∙ sym link) in
              evens_by _ _ p _ _ _ _ (sym (get_or-set_other ws l₀ l (Some i) None apart)) (sym (passing_away module_of l i p away))
              (sym (passing_away module_of l i (λ j. not (p j)) away)) (x.even p tells l)
        ];
      }

  -- the second is paired with the one that waited
  pub paired_now : (w : ℕ) → get_or ws l₀ None ≡ Some w → ArePaired module_of count (suc i) (set ws l₀ None) (set (set ps w (Some i)) i (Some w))
  paired_now w waited =
      let old_w = x.waits l₀ w waited in
      let within : l₀ < length ws = let n = x.links in omega arith in
      let gone : get_or (set ws l₀ None) l₀ None ≡ None = get_or-set_same ws l₀ None None within in
      let now : List (Option ℕ) = set (set ps w (Some i)) i (Some w) in
      let wi : w ≢ i = λ same. omega (arith, old_w.0) in
      let n = x.sized in
      let w_in : w < length ps = omega (arith, old_w.0) in
      let i_len : i < length (set ps w (Some i)) = rw length-set (omega arith) in
      let at_i : get_or now i None ≡ Some w = get_or-set_same (set ps w (Some i)) i (Some w) None i_len in
      let at_w : get_or now w None ≡ Some i = get_or-set_other (set ps w (Some i)) i w (Some w) None wi ∙ get_or-set_same ps w (Some i) None w_in in
      let at_other : (u : ℕ) → u ≢ i → u ≢ w → get_or now u None ≡ get_or ps u None = λ u a b. get_or-set_other (set ps w (Some i)) i u (Some w) None a
      ∙ get_or-set_other ps w u (Some i) None b in
      let fresh_i : get_or ps i None ≡ None = x.fresh i (omega arith) in
      let not_out : (u v m : ℕ) → get_or ps u None ≡ Some v → get_or ps m None ≡ None → u ≢ m = λ u v m
      at out same. none-some v (sym out ∙ (ap (λ k. get_or ps k None) (sym same) ∙ at)) in
      let kept : (u v : ℕ) → get_or ps u None ≡ Some v → get_or now u None ≡ Some v = λ u v at. at_other u (not_out u v i at fresh_i) (not_out u v w at old_w.1)
      ∙ at in
      record {
        sized = length-set _ _ _ ∙ (length-set _ _ _ ∙ x.sized);
        links = length-set ws l₀ None ∙ x.links;
        pairs = record {
          symmetric = λ u v at. elim (cases_eq u i) [
            | inl ui ↦ let vw : v ≡ w = same_Some v w (sym at ∙ (ap (λ k. get_or now k None) ui ∙ at_i)) in ap (λ k. get_or now k None) vw
                ∙ (at_w ∙ ap Some (sym ui))
            | inr a ↦ elim (cases_eq u w) [
              | inl uw ↦ let vi : v ≡ i = same_Some v i (sym at ∙ (ap (λ k. get_or now k None) uw ∙ at_w)) in ap (λ k. get_or now k None) vi
                  ∙ (at_i ∙ ap Some (sym uw))
              | inr b ↦ kept v u (x.pairs.symmetric u v (sym (at_other u a b) ∙ at))
            ]
          ];
          apart = λ u v at. elim (cases_eq u i) [
            | inl ui ↦ let vw : v ≡ w = same_Some v w (sym at ∙ (ap (λ k. get_or now k None) ui ∙ at_i)) in (λ same. wi (sym vw ∙ (sym same ∙ ui)))
            | inr a ↦ elim (cases_eq u w) [
              | inl uw ↦ let vi : v ≡ i = same_Some v i (sym at ∙ (ap (λ k. get_or now k None) uw ∙ at_w)) in (λ same. wi (sym uw ∙ (same ∙ vi)))
              | inr b ↦ x.pairs.apart u v (sym (at_other u a b) ∙ at)
            ]
          ];
        };
        fresh = λ u past. at_other u (λ same. omega arith) (λ same. omega (arith, old_w.0)) ∙ x.fresh u (omega arith);
        waits = λ l v at. elim (cases_eq l l₀) [
          | inl same ↦ absurd (none-some v (sym gone ∙ (ap (λ m. get_or (set ws l₀ None) m None) (sym same) ∙ at)))
          | inr apart ↦
              let old = x.waits l v (sym (get_or-set_other ws l₀ l None None apart) ∙ at) in
              let vw : v ≢ w = λ same. apart (sym old.2 ∙ (ap module_of same ∙ old_w.2)) in
              (omega (arith, old.0), at_other v (λ same. omega (arith, old.0)) vw ∙ old.1, old.2)
        ];
        even = λ p tells l.
            let before = x.even p (λ u v at. tells u v (kept u v at)) l in
            elim (cases_eq l l₀) [
              | inl same ↦
                  let was : get_or ws l None ≡ Some w = ap (λ m. get_or ws m None) same ∙ waited in
                  let old : Evens (Some w) p (passing module_of l i p) (passing module_of l i (λ j. not (p j))) =
                  subst (λ o. Evens o p (passing module_of l i p) (passing module_of l i (λ j. not (p j)))) was before in
                  evens_by None _ p _ _ _ _ (sym gone ∙ ap (λ m. get_or (set ws l₀ None) m None) (sym same)) (sym (passing_here module_of l i p (same ∙ link)))
                  (sym (passing_here module_of l i (λ j. not (p j)) (same ∙ link))) (evens_second p i w _ _ (tells w i at_w) old)
              | inr apart ↦
                  let away : l ≢ module_of i = λ q. apart (q ∙ sym link) in
                  evens_by _ _ p _ _ _ _ (sym (get_or-set_other ws l₀ l None None apart)) (sym (passing_away module_of l i p away))
                  (sym (passing_away module_of l i (λ j. not (p j)) away)) before
            ];
      }

  -- it comes to its link
  pub come_paired : (waiting partners : List (Option ℕ)) → HasCome l₀ i ws ps waiting partners → ArePaired module_of count (suc i) waiting partners
  come_paired waiting partners come =
      let go : (o : Option ℕ) → get_or ws l₀ None ≡ o → ArePaired module_of count (suc i) waiting partners =
      λ o. elim o as (λ o. get_or ws l₀ None ≡ o → ArePaired module_of count (suc i) waiting partners) [
        | None ↦ λ is. let now = come.waits is in rw (now.0, now.1) (waits_now is)
        | Some w ↦ λ is. let now = come.paired w is in rw (now.0, now.1) (paired_now w is)
      ] in
      go (get_or ws l₀ None) refl

at_most_one : (o : Option ℕ) (p : ℕ → Bool) (a b : ℕ) → Evens o p a b → (a ≤ b + 1) × (b ≤ a + 1)
at_most_one None p a b h = (omega arith, omega arith)
at_most_one (Some w) p a b h =
    let go : (y : Bool) → p w ≡ y → (a ≤ b + 1) × (b ≤ a + 1) = λ y. elim y as (λ y. p w ≡ y → (a ≤ b + 1) × (b ≤ a + 1))
    [ true ↦ λ is. let k = h.0 is in (omega arith, omega arith) | false ↦ λ is. let k = h.1 is in (omega arith, omega arith) ] in
    go (p w) refl

pub all_paired : (module_of : ℕ → ℕ) (count : ℕ) (ws ps : List (Option ℕ)) → ArePaired module_of count count ws ps → AreBalanced module_of count ps
all_paired module_of count ws ps x = record {
  sized = x.sized;
  pairs = x.pairs;
  even = λ p tells l. at_most_one (get_or ws l None) p _ _ (x.even p tells l);
}
