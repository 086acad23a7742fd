-- Each kind of step keeps the rule of the word.
use Rattle.std.proofs.Common.{◌≡◌, ◌≢◌, ℕ, zero, suc, ◌+◌, ◌<◌, ◌≤◌, max, List, [], ◌∷◌, ◌++◌, set, refl, sym, ap, ◌∙◌, subst, ⊎_elim, arith}
use Rattle.std.specs.Prelude.{slice_index, slice_set}
use mathlib.Core.Option.{some, none, some-ne-none, some-injective}
use mathlib.Core.Logic.{dite}
use native.Mathlib.Decide.{dec_le, ℕ_discrete}
use lib.ListN.{get_elem?}
use Rattle.atomic_table.specs.Table.{Me, step, opening, Allows, Splits, Joins, keeps}
use Rattle.atomic_table.proofs.Lists.{at_set, at_snoc, at_longer, set_else}
use Rattle.progress_word.specs.declared.limits.TheConstants.{ALL_PARTS}
use Rattle.progress_word.specs.declared.rule.WordView.{WordView}
use Rattle.progress_word.specs.declared.rule.WordStep.TheVariants.{Make, Load, Raise, Split, Join}
use Rattle.progress_word.specs.Rule.{whole_view, absorbed, progress, all_parts, IsViewAt, IsBelow, IsRaised, HasRule, loaded, raised_to, without_part, split_off, joined, MakesRule, KeepsRule}
use Rattle.progress_word.specs.Rule.{HasNoOther}
use Rattle.progress_word.specs.Plays.{MeetsRule, HasLoaded, HasRaised}

parts_set : (vs : List WordView) (j : ℕ) (v w : WordView) → IsViewAt vs j v → all_parts (set vs j w) + v.parts ≡ all_parts vs + w.parts
parts_set [] j v w e = absurd (some-ne-none v (sym e))
parts_set (x ∷ xs) zero v w e = omega (arith, ap (λ (s : WordView). s.parts) (some-injective x v e))
parts_set (x ∷ xs) (suc j) v w e = omega (arith, parts_set xs j v w e)

parts_snoc : (vs : List WordView) (w : WordView) → all_parts (vs ++ w ∷ []) ≡ all_parts vs + w.parts
parts_snoc [] w = omega arith
parts_snoc (x ∷ xs) w = omega (arith, parts_snoc xs w)

part_le : (vs : List WordView) (j : ℕ) (v : WordView) → IsViewAt vs j v → v.parts ≤ all_parts vs
part_le [] j v e = absurd (some-ne-none v (sym e))
part_le (x ∷ xs) zero v e = omega (arith, ap (λ (s : WordView). s.parts) (some-injective x v e))
part_le (x ∷ xs) (suc j) v e = omega (arith, part_le xs j v e)

here_set : (vs : List WordView) (j : ℕ) (v w : WordView) → IsViewAt vs j v → IsViewAt (set vs j w) j w
here_set [] j v w e = absurd (some-ne-none v (sym e))
here_set (x ∷ xs) zero v w e = refl
here_set (x ∷ xs) (suc j) v w e = here_set xs j v w e

two_parts : (vs : List WordView) (j k : ℕ) (v u : WordView) → IsViewAt vs j v → k ≢ j → IsViewAt vs k u → v.parts + u.parts ≤ all_parts vs
two_parts vs j k v u e apart f =
    let a = parts_set vs j v absorbed e in
    let b = part_le (set vs j absorbed) k u (set_else vs j k absorbed apart ∙ f) in
    omega arith

-- ---- views that are below the word

abbrev AreBelow : ℕ → List WordView → Type 0
AreBelow word views = (i : ℕ) (v : WordView) → IsViewAt views i v → IsBelow word v

below : (word : ℕ) (v : WordView) → v.raised ≤ v.seen → v.seen ≤ word → 0 < v.parts → IsBelow word v
below word v raised seen part = record { seen = seen; raised = raised; no_parts = λ none. absurd (omega arith) }

spent_below : (word : ℕ) → IsBelow word absorbed
spent_below word = record { seen = omega arith; raised = omega arith; no_parts = λ none. refl }

higher : (m n : ℕ) (v : WordView) → m ≤ n → IsBelow m v → IsBelow n v
higher m n v le b = let a = b.seen in record { seen = omega arith; raised = b.raised; no_parts = b.no_parts }

below_set : (m n : ℕ) (vs : List WordView) (j : ℕ) (w : WordView) → m ≤ n → AreBelow m vs → IsBelow n w → AreBelow n (set vs j w)
below_set m n vs j w le all mine k u e =
    ⊎_elim
    (λ (x : (k ≡ j) × (w ≡ u)). subst (IsBelow n) x.1 mine)
    (λ (x : (k ≢ j) × (get_elem? vs k ≡ some u)). higher m n u le (all k u x.1))
    (at_set vs j k w u e)

-- ---- who raised the word

raised_at : (word i : ℕ) (views : List WordView) (v : WordView) → IsViewAt views i v → v.raised ≡ word → IsRaised word views
raised_at word i views v at is = record { number = i; by = v; stands = at; raised = is }

same_view : (vs : List WordView) (i j : ℕ) (u v : WordView) → i ≡ j → IsViewAt vs i u → IsViewAt vs j v → u ≡ v
same_view vs i j u v same at e = some-injective u v (sym at ∙ ap (get_elem? vs) same ∙ e)

raised_set : (word : ℕ) (vs : List WordView) (j : ℕ) (v w : WordView) → IsRaised word vs → IsViewAt vs j v → (v.raised ≡ word → w.raised ≡ word)
    → IsRaised word (set vs j w)
raised_set word vs j v w r e as_high =
    dite (ℕ_discrete r.number j)
    (λ same. raised_at word j (set vs j w) w (here_set vs j v w e)
    (as_high (ap (λ (s : WordView). s.raised) (sym (same_view vs r.number j r.by v same r.stands e)) ∙ r.raised)))
    (λ apart. raised_at word r.number (set vs j w) r.by (set_else vs j r.number w apart ∙ r.stands) r.raised)

-- ---- the steps of one view

-- one view changes and keeps its parts
changed : (m n : ℕ) (vs : List WordView) (j : ℕ) (v w : WordView) → HasRule (progress m vs) → IsViewAt vs j v → m ≤ n → w.parts ≡ v.parts → IsBelow n w
    → IsRaised n (set vs j w) → HasRule (progress n (set vs j w))
changed m n vs j v w h e le parts fit r = record {
  below = below_set m n vs j w le h.below fit;
  raised = r;
  parts = let a = parts_set vs j v w e in let b = h.parts in omega arith;
}

-- who has all parts is alone
alone : (word : ℕ) (vs : List WordView) (j k : ℕ) (v u : WordView) → HasRule (progress word vs) → IsViewAt vs j v → v.parts ≡ ALL_PARTS → k ≢ j
    → IsViewAt vs k u → u ≡ absorbed
alone word vs j k v u h e all apart there =
    let t = two_parts vs j k v u e apart there in
    let sum = h.parts in
    (h.below k u there).no_parts (omega arith)

-- and has raised the word to what it is
whole_raised : (word : ℕ) (vs : List WordView) (j : ℕ) (v : WordView) → HasRule (progress word vs) → IsViewAt vs j v → v.parts ≡ ALL_PARTS → word ≡ v.raised
whole_raised word vs j v h e all =
    let r = h.raised in
    dite (ℕ_discrete r.number j)
    (λ same. sym r.raised ∙ ap (λ (s : WordView). s.raised) (same_view vs r.number j r.by v same r.stands e))
    (λ apart.
    let is = ap (λ (s : WordView). s.raised) (alone word vs j r.number v r.by h e all apart r.stands) in
    let b = h.below j v e in
    let b0 = b.seen in let b1 = b.raised in let r0 = r.raised in
    omega arith)

rule_whole : HasRule (progress 0 (whole_view ∷ []))
rule_whole = record { below = one; raised = raised_at 0 0 (whole_view ∷ []) whole_view refl refl; parts = refl }
  where
    one : (i : ℕ) (v : WordView) → IsViewAt (whole_view ∷ []) i v → IsBelow 0 v
    one zero v e = subst (IsBelow 0) (some-injective _ _ e) (below 0 whole_view (omega arith) (omega arith) (omega arith))
    one (suc k) v e = absurd (some-ne-none v (sym e))

rule_loaded : (word : ℕ) (vs : List WordView) (j : ℕ) (v : WordView) → HasRule (progress word vs) → IsViewAt vs j v → 0 < v.parts
    → HasRule (progress word (set vs j (loaded word v)))
rule_loaded word vs j v h e part =
    let b = h.below j v e in let b0 = b.seen in let b1 = b.raised in
    changed word word vs j v (loaded word v) h e (omega arith) refl (below word (loaded word v) (omega arith) (omega arith) part)
    (raised_set word vs j v (loaded word v) h.raised e (λ r. r))

raised_low : (word value : ℕ) (vs : List WordView) (j : ℕ) (v : WordView) → HasRule (progress word vs) → IsViewAt vs j v → value ≤ word
    → IsRaised (max word value) (set vs j (raised_to value word v))
raised_low word value vs j v h e le =
    let b = h.below j v e in let b0 = b.seen in let b1 = b.raised in
    let same : max word value ≡ word = omega arith in
    subst (λ n. IsRaised n (set vs j (raised_to value word v))) (sym same) (raised_set word vs j v (raised_to value word v) h.raised e (λ is. omega arith))

raised_high : (word value : ℕ) (vs : List WordView) (j : ℕ) (v : WordView) → HasRule (progress word vs) → IsViewAt vs j v → word ≤ value
    → IsRaised (max word value) (set vs j (raised_to value word v))
raised_high word value vs j v h e le =
    let b = h.below j v e in let b0 = b.seen in let b1 = b.raised in
    raised_at (max word value) j (set vs j (raised_to value word v)) (raised_to value word v) (here_set vs j v (raised_to value word v) e) (omega arith)

rule_raised : (word value : ℕ) (vs : List WordView) (j : ℕ) (v : WordView) → HasRule (progress word vs) → IsViewAt vs j v → 0 < v.parts
    → HasRule (progress (max word value) (set vs j (raised_to value word v)))
rule_raised word value vs j v h e part =
    let b = h.below j v e in let b0 = b.seen in let b1 = b.raised in
    changed word (max word value) vs j v (raised_to value word v) h e (omega arith) refl
    (below (max word value) (raised_to value word v) (omega arith) (omega arith) part)
    (dite (dec_le value word) (λ le. raised_low word value vs j v h e le) (λ more. raised_high word value vs j v h e (omega arith)))

-- ---- the steps of two views

rule_split : (word : ℕ) (vs : List WordView) (j : ℕ) (v : WordView) → HasRule (progress word vs) → IsViewAt vs j v → 1 < v.parts
    → HasRule (progress word (set vs j (without_part v) ++ split_off v ∷ []))
rule_split word vs j v h e parts =
    let b = h.below j v e in let b0 = b.seen in let b1 = b.raised in
    let w = without_part v in let n = split_off v in
    let first : AreBelow word (set vs j w) = below_set word word vs j w (omega arith) h.below (below word w b1 b0 (omega arith)) in
    let r = raised_set word vs j v w h.raised e (λ is. is) in
    record {
      below = λ k u there. ⊎_elim (λ was. first k u was) (λ (is : n ≡ u). subst (IsBelow word) is (below word n (omega arith) b0 (omega arith)))
          (at_snoc (set vs j w) n u k there);
      raised = raised_at word r.number (set vs j w ++ n ∷ []) r.by (at_longer (set vs j w) (n ∷ []) r.number r.by r.stands) r.raised;
      parts = let a = parts_set vs j v w e in let c = parts_snoc (set vs j w) n in let all = h.parts in omega arith;
    }

joined_raised : (word : ℕ) (vs : List WordView) (j k : ℕ) (v u : WordView) → HasRule (progress word vs) → IsViewAt vs j v → k ≢ j → IsViewAt vs k u
    → IsRaised word (set (set vs j (joined v u)) k absorbed)
joined_raised word vs j k v u h e apart there =
    let f = h.below j v e in let f0 = f.seen in let f1 = f.raised in
    let g = h.below k u there in let g0 = g.seen in let g1 = g.raised in
    let both = joined v u in
    let r = h.raised in
    let now = set (set vs j both) k absorbed in
    let here : IsViewAt now j both = set_else (set vs j both) k j absorbed (λ q. apart (sym q)) ∙ here_set vs j v both e in
    dite (ℕ_discrete r.number k)
    (λ same.
    let high : u.raised ≡ word = ap (λ (s : WordView). s.raised) (sym (same_view vs r.number k r.by u same r.stands there)) ∙ r.raised in
    raised_at word j now both here (omega arith))
    (λ other. dite (ℕ_discrete r.number j)
    (λ same.
    let high : v.raised ≡ word = ap (λ (s : WordView). s.raised) (sym (same_view vs r.number j r.by v same r.stands e)) ∙ r.raised in
    raised_at word j now both here (omega arith))
    (λ third. raised_at word r.number now r.by (set_else (set vs j both) k r.number absorbed other ∙ (set_else vs j r.number both third ∙ r.stands)) r.raised))

rule_joined : (word : ℕ) (vs : List WordView) (j k : ℕ) (v u : WordView) → HasRule (progress word vs) → IsViewAt vs j v → 0 < v.parts → k ≢ j → IsViewAt vs k u
    → HasRule (progress word (set (set vs j (joined v u)) k absorbed))
rule_joined word vs j k v u h e part apart there =
    let f = h.below j v e in let f0 = f.seen in let f1 = f.raised in
    let g = h.below k u there in let g0 = g.seen in let g1 = g.raised in
    let both = joined v u in
    let still : IsViewAt (set vs j both) k u = set_else vs j k both apart ∙ there in
    let first : AreBelow word (set vs j both) = below_set word word vs j both (omega arith) h.below
    (below word both (omega arith) (omega arith) (omega arith)) in
    record {
      below = below_set word word (set vs j both) k absorbed (omega arith) first (spent_below word);
      raised = joined_raised word vs j k v u h e apart there;
      parts = let a = parts_set vs j v both e in let b = parts_set (set vs j both) k u absorbed still in let all = h.parts in omega arith;
    }

-- ---- the law

pub makes_rule : MakesRule
makes_rule p q is = subst HasRule (sym is) rule_whole

pub keeps_rule : KeepsRule
keeps_rule Make p q h is = subst HasRule (sym is) rule_whole
keeps_rule (Load i) p q h is = subst HasRule (sym is.2) (rule_loaded p.word p.views i is.0 h is.1.stands is.1.parts)
keeps_rule (Raise i value) p q h is = subst HasRule (sym is.2) (rule_raised p.word value p.views i is.0 h is.1.stands is.1.parts)
keeps_rule (Split i) p q h is = subst HasRule (sym is.2) (rule_split p.word p.views i is.0 h is.1.stands is.1.parts)
keeps_rule (Join i j) p q h is = subst HasRule (sym is.5) (rule_joined p.word p.views i j is.0 is.1 h is.2.stands is.2.parts is.4 is.3.stands)

pub has_no_other : HasNoOther
has_no_other p i v h e all = (sym (whole_raised p.word p.views i v h e all), λ j w apart there. alone p.word p.views i j v w h e all apart there)

-- ---- the steps on the table

pub begins : MeetsRule (opening (0 ∷ []) [] whole_view)
begins = (0, refl, rule_whole)

-- the words of a table whose one word is this
word_is : (ws : List ℕ) (word : ℕ) → ws ≡ word ∷ [] → slice_index ws 0 ≡ word
word_is ws word e = ap (λ l. slice_index l 0) e

pub loads : (slots id : ℕ) (me : Me ℕ WordView) → 0 < me.0.parts → Allows MeetsRule slots id me 0 (λ n. n) (HasLoaded (step slots 0 0 0 none) me)
loads slots id me part s kept homes at small =
    let word = kept.0 in
    let found = word_is s.words word kept.1 in
    let v = me.0 in (
      loaded (slice_index s.words 0) v,
      keeps,
      tt,
      (
        word,
        ap (λ l. slice_set l 0 (slice_index l 0)) kept.1,
        subst (λ n. HasRule (progress word (set s.views id (loaded n v)))) (sym found)
            (rule_loaded word s.views id v kept.2 at part),
      ),
      (refl, (let b = (kept.2.below id v at).seen in omega arith), (λ all. found ∙ whole_raised word s.views id v kept.2 at all)),
    )

pub raises : (slots id value : ℕ) (me : Me ℕ WordView) → 0 < me.0.parts → Allows MeetsRule slots id me 0 (λ n. max n value)
    (HasRaised (step slots 0 value 0 none) me)
raises slots id value me part s kept homes at small =
    let word = kept.0 in
    let found = word_is s.words word kept.1 in
    let v = me.0 in (
      raised_to value (slice_index s.words 0) v,
      keeps,
      tt,
      (
        max word value,
        ap (λ l. slice_set l 0 (max (slice_index l 0) value)) kept.1,
        subst (λ n. HasRule (progress (max word value) (set s.views id (raised_to value n v)))) (sym found) (rule_raised word value s.views id v kept.2
            at part),
      ),
      (refl, (let b = (kept.2.below id v at).seen in omega arith)),
    )

pub splits : (id : ℕ) (v : WordView) → 1 < v.parts → Splits MeetsRule id v (without_part v) (split_off v)
splits id v parts s kept at = (kept.0, kept.1, rule_split kept.0 s.views id v kept.2 at parts)

pub joins : (id other : ℕ) (v u : WordView) → 0 < v.parts → Joins MeetsRule id v other u (joined v u) absorbed
joins id other v u part s kept at apart there =
    let before : IsViewAt s.views other u = sym (set_else s.views id other (joined v u) apart) ∙ there in
    (kept.0, kept.1, rule_joined kept.0 s.views id other v u kept.2 at part apart before)
