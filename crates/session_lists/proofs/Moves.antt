-- Each step keeps the rule of the lists.
use Rattle.std.proofs.Common.{◌≡◌, ◌≢◌, ◌⊎◌, ℕ, zero, suc, ◌+◌, ◌==◌, List, [], ◌∷◌, ◌++◌, length, set, cond, nat_eq, true, false, true≢false, refl, sym, ap, ◌∙◌, subst, inl, inr, ⊎_elim, arith}
use Rattle.std.proofs.lemmas.Bool.{eq-eqb, ne_eqb}
use Rattle.std.proofs.lemmas.List.{append-nil}
use Rattle.std.proofs.lemmas.List.Elements.{filter-append}
use mathlib.Core.Option.{some, none, some-ne-none, some-injective}
use lib.ListN.{get_elem?}
use prog.Atomic.{either}
use Rattle.atomic_table.specs.Table.{Me, step, opening, Allows, Splits, Joins, keeps}
use Rattle.atomic_table.proofs.Lists.{at_set, set_else}
use Rattle.session_lists.specs.declared.rule.ListsView.{ListsView}
use Rattle.session_lists.specs.Lists.{own_of, keeper, nobody, IsRightView, HaveLists, KeepsLists, with_new_list, HasDealt, added, HasAdded, HasCompared, without_own, own_alone, with_own}

off : {P : Type 0} → false ≡ true → P
off e = absurd (true≢false (sym e))

-- ---- who has a session's list

-- as before, but for one session
abbrev placed : ℕ → ℕ → (ℕ → ℕ) → ℕ → ℕ
placed session by holder s = cond (nat_eq s session) by (holder s)

placed_here : (session by : ℕ) (holder : ℕ → ℕ) (s : ℕ) → s ≡ session → by ≡ placed session by holder s
placed_here session by holder s same = ap (λ b. cond b by (holder s)) (sym (eq-eqb s session same))

placed_else : (session by : ℕ) (holder : ℕ → ℕ) (s n : ℕ) → s ≢ session → n ≡ holder s → n ≡ placed session by holder s
placed_else session by holder s n other is = is ∙ ap (λ b. cond b by (holder s)) (sym (ne_eqb s session other))

module _ {E : Type 0} (session_of : E → ℕ) where
  -- ---- an entry more

  own_same : (session : ℕ) (es : List E) (e : E) → session_of e ≡ session → own_of session_of session (es ++ e ∷ []) ≡ own_of session_of session es ++ e ∷ []
  own_same session es e same = filter-append (λ x. nat_eq (session_of x) session) es (e ∷ []) ∙ ap (λ b. own_of session_of session es ++ cond b (e ∷ []) [])
      (eq-eqb (session_of e) session same)

  own_other : (session : ℕ) (es : List E) (e : E) → session_of e ≢ session → own_of session_of session (es ++ e ∷ []) ≡ own_of session_of session es
  own_other session es e other = filter-append (λ x. nat_eq (session_of x) session) es (e ∷ []) ∙ ap (λ b. own_of session_of session es ++ cond b (e ∷ []) [])
      (ne_eqb (session_of e) session other) ∙ append-nil _

  -- ---- the views, of which one changes

  abbrev AllFit : ℕ → List E → ℕ → (ℕ → ℕ) → List (ListsView E) → Type 0
  AllFit seat es sessions holder views = (by : ℕ) (v : ListsView E) → get_elem? views by ≡ some v → IsRightView session_of seat es sessions holder by v

  fits_set : (seat : ℕ) (es : List E) (sessions : ℕ) (holder : ℕ → ℕ) (views : List (ListsView E)) (by : ℕ) (w : ListsView E)
      → ((j : ℕ) (u : ListsView E) → j ≢ by → get_elem? views j ≡ some u → IsRightView session_of seat es sessions holder j u)
      → IsRightView session_of seat es sessions holder by w → AllFit seat es sessions holder (set views by w)
  fits_set seat es sessions holder views by w others mine j u e =
      ⊎_elim
      (λ (x : (j ≡ by) × (w ≡ u)). subst (λ (y : ℕ × ListsView E). IsRightView session_of seat es sessions holder y.0 y.1) (λ i. (sym x.0 i, x.1 i)) mine)
      (λ (x : (j ≢ by) × (get_elem? views j ≡ some u)). others j u x.0 x.1)
      (at_set views by j w u e)

  at_end : {A : Type 0} (l : List A) (a b : A) (j : ℕ) → get_elem? (l ++ a ∷ []) j ≡ some b → (get_elem? l j ≡ some b) ⊎ ((j ≡ length l) × (a ≡ b))
  at_end [] a b zero e = inr (refl, some-injective a b e)
  at_end [] a b (suc j) e = absurd (some-ne-none b (sym e))
  at_end (x ∷ xs) a b zero e = inl e
  at_end (x ∷ xs) a b (suc j) e = ⊎_elim (λ t. inl t) (λ t. inr (ap suc t.0, t.1)) (at_end xs a b j e)

  -- ---- the steps

  pub begins : KeepsLists session_of (opening (0 ∷ []) [] (keeper [] 0))
  begins = record { seat = 0; history = []; dealt = 0; holder = λ s. s; fits = one }
    where
      first : IsRightView session_of 0 [] 0 (λ s. s) 0 (keeper [] 0)
      first = record { alone = λ _. refl; history = λ _. refl; dealt = λ _. refl; place = λ h. off h; below = λ h. off h; own = λ h. off h }

      one : AllFit 0 [] 0 (λ s. s) (keeper [] 0 ∷ [])
      one zero v e = subst (IsRightView session_of 0 [] 0 (λ s. s) 0) (some-injective _ _ e) first
      one (suc by) v e = absurd (some-ne-none v (sym e))

  -- a session more is dealt
  rule_opened : (views : List (ListsView E)) (by : ℕ) (v : ListsView E) → HaveLists session_of views → get_elem? views by ≡ some v → v.keeps ≡ true → v.history
      ≡ [] → HaveLists session_of (set views by (with_new_list v))
  rule_opened views by v h at kept empty =
      let mine = h.fits by v at in
      let holder = placed v.dealt by h.holder in
      let here = mine.alone kept in
      let dealt = mine.dealt kept in
      record {
        seat = h.seat;
        history = h.history;
        dealt = h.dealt + 1;
        holder = holder;
        fits = fits_set h.seat h.history (h.dealt + 1) holder views by (with_new_list v)
            (λ j u apart there.
            let f = h.fits j u there in
            record {
              alone = f.alone;
              history = f.history;
              dealt = λ k. absurd (apart (f.alone k ∙ sym here));
              place = λ o. placed_else v.dealt by h.holder u.session j (λ same. (let b = f.below o in absurd (omega arith))) (f.place o);
              below = λ o. (let b = f.below o in omega arith);
              own = f.own;
            })
            record {
              alone = mine.alone;
              history = mine.history;
              dealt = λ k. ap (λ n. n + 1) (mine.dealt k);
              place = λ o. placed_here v.dealt by h.holder v.dealt refl;
              below = λ o. omega arith;
              own = λ o. ap (own_of session_of v.dealt) (sym empty ∙ mine.history kept);
            };
      }

  -- an entry is added to the history and to the list that the keeper has
  rule_added : (views : List (ListsView E)) (by : ℕ) (v : ListsView E) (e : E) → HaveLists session_of views → get_elem? views by ≡ some v → v.keeps ≡ true
      → v.owns ≡ true → session_of e ≡ v.session → HaveLists session_of (set views by (added (some e) v))
  rule_added views by v e h at kept owns is =
      let mine = h.fits by v at in
      let here = mine.alone kept in
      let es = h.history ++ e ∷ [] in
      record {
        seat = h.seat;
        history = es;
        dealt = h.dealt;
        holder = h.holder;
        fits = fits_set h.seat es h.dealt h.holder views by (added (some e) v)
            (λ j u apart there.
            let f = h.fits j u there in
            record {
              alone = f.alone;
              history = λ k. absurd (apart (f.alone k ∙ sym here));
              dealt = f.dealt;
              place = f.place;
              below = f.below;
              own = λ o. f.own o ∙ sym (own_other u.session h.history e (λ same. apart (f.place o ∙ ap h.holder (sym same ∙ is) ∙ sym (mine.place owns))));
            })
            record {
              alone = mine.alone;
              history = λ k. ap (λ l. l ++ e ∷ []) (mine.history k);
              dealt = mine.dealt;
              place = mine.place;
              below = mine.below;
              own = λ o. ap (λ l. l ++ e ∷ []) (mine.own o) ∙ sym (own_same v.session h.history e is);
            };
      }

  rule_same : (views : List (ListsView E)) (by : ℕ) (v : ListsView E) → HaveLists session_of views → get_elem? views by ≡ some v
      → HaveLists session_of (set views by v)
  rule_same views by v h at = record {
    seat = h.seat;
    history = h.history;
    dealt = h.dealt;
    holder = h.holder;
    fits = fits_set h.seat h.history h.dealt h.holder views by v (λ j u apart there. h.fits j u there) (h.fits by v at);
  }

  -- the list that the keeper has goes to a new view
  rule_split : (views : List (ListsView E)) (by : ℕ) (v : ListsView E) → HaveLists session_of views → get_elem? views by ≡ some v → v.owns ≡ true
      → HaveLists session_of (set views by (without_own v) ++ own_alone v ∷ [])
  rule_split views by v h at owns =
      let mine = h.fits by v at in
      let left = set views by (without_own v) in
      let holder = placed v.session (length left) h.holder in
      let others : AllFit h.seat h.history h.dealt holder left = fits_set h.seat h.history h.dealt holder views by (without_own v)
      (λ j u apart there.
      let f = h.fits j u there in
      record {
        alone = f.alone;
        history = f.history;
        dealt = f.dealt;
        place = λ o. placed_else v.session (length left) h.holder u.session j (λ same. apart (f.place o ∙ ap h.holder same ∙ sym (mine.place owns)))
            (f.place o);
        below = f.below;
        own = f.own;
      })
      record { alone = mine.alone; history = mine.history; dealt = mine.dealt; place = λ o. off o; below = λ o. off o; own = λ o. off o } in
      let new : IsRightView session_of h.seat h.history h.dealt holder (length left) (own_alone v) = record {
        alone = λ k. off k;
        history = λ k. off k;
        dealt = λ k. off k;
        place = λ o. placed_here v.session (length left) h.holder v.session refl;
        below = mine.below;
        own = mine.own;
      } in
      record {
        seat = h.seat;
        history = h.history;
        dealt = h.dealt;
        holder = holder;
        fits = λ j u there. ⊎_elim
            (λ was. others j u was)
            (λ (x : (j ≡ length left) × (own_alone v ≡ u)). subst (λ (y : ℕ × ListsView E). IsRightView session_of h.seat h.history h.dealt holder y.0 y.1)
            (λ i. (sym x.0 i, x.1 i)) new)
            (at_end left (own_alone v) u j there);
      }

  -- the keeper takes a session's list in
  rule_joined : (views : List (ListsView E)) (by : ℕ) (v : ListsView E) (other : ℕ) (w : ListsView E) → HaveLists session_of views → get_elem? views by ≡ some v
      → v.keeps ≡ true → other ≢ by → get_elem? views other ≡ some w → w.owns ≡ true
      → HaveLists session_of (set (set views by (with_own v w)) other nobody)
  rule_joined views by v other w h at kept apart there owns =
      let mine = h.fits by v at in
      let theirs = h.fits other w there in
      let holder = placed w.session by h.holder in
      record {
        seat = h.seat;
        history = h.history;
        dealt = h.dealt;
        holder = holder;
        fits = fits_set h.seat h.history h.dealt holder (set views by (with_own v w)) other nobody
            (λ j u far at'. ⊎_elim
            (λ (x : (j ≡ by) × (with_own v w ≡ u)). subst (λ (y : ℕ × ListsView E). IsRightView session_of h.seat h.history h.dealt holder y.0 y.1)
            (λ i. (sym x.0 i, x.1 i)) record {
              alone = mine.alone;
              history = mine.history;
              dealt = mine.dealt;
              place = λ o. placed_here w.session by h.holder w.session refl;
              below = theirs.below;
              own = theirs.own;
            })
            (λ (x : (j ≢ by) × (get_elem? views j ≡ some u)).
            let f = h.fits j u x.1 in
            record {
              alone = f.alone;
              history = f.history;
              dealt = f.dealt;
              place = λ o. placed_else w.session by h.holder u.session j (λ same. far (f.place o ∙ ap h.holder same ∙ sym (theirs.place owns))) (f.place o);
              below = f.below;
              own = f.own;
            })
            (at_set views by j (with_own v w) u at'))
            record { alone = λ k. off k; history = λ k. off k; dealt = λ k. off k; place = λ o. off o; below = λ o. off o; own = λ o. off o };
      }

  -- ---- the steps on the table

  pub opens : (slots id : ℕ) (me : Me E (ListsView E)) (held : List (ℕ × E)) → me ≡ (keeper [] me.0.dealt, held) → Allows (KeepsLists session_of) slots id me 0
      (λ n. n) (HasDealt (step slots 0 0 0 none) me)
  opens slots id me held is s h homes at small =
      let v = me.0 in (
        with_new_list v,
        keeps,
        tt,
        rule_opened s.views id v h at (ap (λ (m : Me E (ListsView E)). m.0.keeps) is)
            (ap (λ (m : Me E (ListsView E)). m.0.history) is),
        refl,
      )

  pub adds : (slots id : ℕ) (me : Me E (ListsView E)) (v w : ListsView E) (held : List (ℕ × E)) (e : E) → me ≡ (with_own v w, held) → v.keeps ≡ true → w.owns
      ≡ true → session_of e ≡ w.session
      → Allows (KeepsLists session_of) slots id me 0 (λ n. either (n == 0) 0 n) (HasAdded (step slots 0 0 0 (some e)) me)
  adds slots id me v w held e is kept owns by s h homes at small =
      let u = me.0 in (
        added (some e) u,
        keeps,
        tt,
        rule_added s.views id u e h at (ap (λ (m : Me E (ListsView E)). m.0.keeps) is ∙ kept)
            (ap (λ (m : Me E (ListsView E)). m.0.owns) is ∙ owns) (by ∙ sym (ap (λ (m : Me E (ListsView E)). m.0.session) is)),
        refl,
      )

  pub compares : (slots id : ℕ) (me : Me E (ListsView E)) (v w : ListsView E) (held : List (ℕ × E)) → me ≡ (with_own v w, held) → v.keeps ≡ true → w.owns ≡ true
      → Allows (KeepsLists session_of) slots id me 0 (λ n. n) (HasCompared session_of (step slots 0 0 0 none) me)
  compares slots id me v w held is kept owns s h homes at small =
      let u = me.0 in
      let mine = h.fits id u at in
      let own = mine.own (ap (λ (m : Me E (ListsView E)). m.0.owns) is ∙ owns) in
      let all = mine.history (ap (λ (m : Me E (ListsView E)). m.0.keeps) is ∙ kept) in
      (u, keeps, tt, rule_same s.views id u h at, (refl, own ∙ ap (own_of session_of u.session) (sym all)))

  pub gives : (id : ℕ) (v : ListsView E) → v.owns ≡ true → Splits (KeepsLists session_of) id v (without_own v) (own_alone v)
  gives id v owns s h at = rule_split s.views id v h at owns

  pub takes : (id : ℕ) (v : ListsView E) (other : ℕ) (w : ListsView E) → v.keeps ≡ true → w.owns ≡ true → Joins (KeepsLists session_of) id v other w
      (with_own v w) nobody
  takes id v other w kept owns s h at apart there =
      rule_joined s.views id v other w h at kept apart (sym (set_else s.views id other (with_own v w) apart) ∙ there) owns
