-- The pairs of a setting: as the list of its transfers, and as a table by initiators.
use Rattle.std.proofs.Common.{◌≡◌, ◌≢◌, ◌<◌, ◌≤◌, ◌+◌, ◌⊎◌, inl, inr, ℕ, Bool, true, false, cond, zero, suc, List, [], ◌∷◌, ◌++◌, map, length, take, get_or, set, replicate, length-set, refl, sym, ap}
use Rattle.std.proofs.Common.{ap₂, ◌∙◌, subst, arith, Option, Some, None, get_or-set_same, get_or-set_other}
use Rattle.std.specs.Prelude.{All}
use Rattle.std.specs.Ordering.{nat_cmp}
use Rattle.std.specs.Cmp.{nat_cmp_total}
use Rattle.std.specs.List.{flat_map, AllByRecursion, slice_get}
use Rattle.std.specs.FinMap.{find, get-from_entries}
use Rattle.std.specs.Option.{option_or}
use Rattle.c004_commands.specs.declared.port.TheConstants.{PORTS}
use Rattle.crossbar.proofs.Latches.{find_here, find_not}
use Rattle.std.specs.Prelude.{sum_by}
use Rattle.std.specs.List.{range_with_len}
use Rattle.std.proofs.lemmas.Bool.{cases_eq, cases_lt}
use Rattle.std.proofs.lemmas.List.Kept.{AllPairs-cons}
use Rattle.batch.specs.declared.limits.TheConstants.{MAX_MODULES}
use Rattle.link_graph.specs.Certificates.{AreDistinct}
use Rattle.link_graph.proofs.Once.{standings, stands_from_count, once_from_distinct}
use Rattle.switch_settings.proofs.Counting.{each_once, length_range}
use Rattle.std.proofs.lemmas.List.{take_more, length-map}
use Rattle.std.proofs.lemmas.List.Elements.{All-head, All-tail, All-cons}
use Rattle.std.proofs.lemmas.Option.{same_Some, none-some}
use Rattle.batch.specs.declared.transfer.Transfer.{Transfer}
use Rattle.batch.specs.Overlap.{transfer_at}
use Rattle.batch.specs.ShapeView.{widest}
use Rattle.batch.specs.Batches.{IsBatch}
use Rattle.batch.specs.Text.{IsWithin}
use Rattle.crossbar.specs.declared.switch.TheConstants.{JOINED_MODULES}
use Rattle.crossbar.specs.Switch.{Sources}
use Rattle.crossbar.specs.Chips.{Switches}
use Rattle.crossbar.specs.Wired.{links_of, unwired, link0_on, link3_on}
use Rattle.crossbar.proofs.Boards.{never_one, one_link0, one_link3}
use Rattle.crossbar.specs.Pairs.{ArePairs, AreSwitchesOf, room_of, ends, switch_of}
use Rattle.crossbar.specs.declared.chip.Wiring.{Wiring}
use Rattle.crossbar.specs.declared.chip.Wiring.TheVariants.{Both, Forth, Back, Board}
use Rattle.crossbar.specs.declared.pair.Pair.{Pair}
use Rattle.crossbar.proofs.Latches.{same_sources}
use Rattle.crossbar.proofs.Changes.{In}
use Rattle.link_graph.specs.Uses.{AreApart, IsMatching, start_link, answer_link}
use Rattle.link_graph.proofs.Sums.{later, first_with, hit, swap, sum_ones, sum_at_most}
use Rattle.switch_settings.specs.Racks.{HasModulesOf}
use Rattle.switch_settings.specs.Settings.{joined_pair, setting_pairs}
use Rattle.switch_settings.specs.Tables.{table_pairs}

some_first : (b : Bool) (x : ℕ) (f g h : Option ℕ) → f ≡ option_or g h → cond b (Some x) f ≡ option_or (cond b (Some x) g) h
some_first true x f g h e = refl
some_first false x f g h e = e

-- what is found among entries and others after them
found_append : (o : ℕ) (es fs : List (ℕ × ℕ)) → find nat_cmp o (es ++ fs) ≡ option_or (find nat_cmp o es) (find nat_cmp o fs)
found_append o [] fs = refl
found_append o (e ∷ es) fs = some_first _ e.1 _ _ _ (found_append o es fs)

abbrev pub joined : ℕ → ℕ → Pair
joined i r = record { initiator = i; responder = r }

-- two links that feed each other give an output its input
abbrev TwoGive : ℕ → ℕ → ℕ → ℕ → Type 0
TwoGive i r o v = ((o ≡ i) × (v ≡ r)) ⊎ ((o ≡ r) × (v ≡ i))

-- a pair gives an output its input
abbrev Gives : Wiring → Pair → ℕ → ℕ → Type 0
Gives Both p o v = TwoGive p.initiator (JOINED_MODULES + p.responder) o v
Gives Forth p o v = (o ≡ p.responder) × (v ≡ p.initiator)
Gives Back p o v = (o ≡ p.initiator) × (v ≡ p.responder)
Gives (Board w) p o v = TwoGive (link0_on w p.initiator) (link3_on w p.responder) o v

-- ---- what is found among the ends of pairs

found : Wiring → List Pair → ℕ → Option ℕ
found w ps o = find nat_cmp o (flat_map (ends w) ps)

found_more : (w : Wiring) (p : Pair) (ps : List Pair) (o : ℕ) → found w (p ∷ ps) o ≡ option_or (find nat_cmp o (ends w p)) (found w ps o)
unfolding found
found_more w p ps o = found_append o (ends w p) (flat_map (ends w) ps)

two_give : (i r o v : ℕ) → find nat_cmp o ((i, r) ∷ (r, i) ∷ []) ≡ Some v → TwoGive i r o v
two_give i r o v e = elim (cases_eq o i) [
  | inl a ↦ inl (a, same_Some _ _ (sym e ∙ find_here o i r ((r, i) ∷ []) a))
  | inr a ↦ elim (cases_eq o r) [
    | inl b ↦ inr (b, same_Some _ _ (sym e ∙ find_not o i r ((r, i) ∷ []) a ∙ find_here o r i [] b))
    | inr b ↦ absurd (none-some v (sym (find_not o i r ((r, i) ∷ []) a ∙ find_not o r i [] b) ∙ e))
  ]
]

-- what is found among a pair's own ends it gives
own_gives : (w : Wiring) (p : Pair) (o v : ℕ) → find nat_cmp o (ends w p) ≡ Some v → Gives w p o v
own_gives Both p o v e = two_give p.initiator (JOINED_MODULES + p.responder) o v e
own_gives (Board w) p o v e = two_give (link0_on w p.initiator) (link3_on w p.responder) o v e
own_gives Forth p o v e = elim (cases_eq o p.responder) [
  | inl a ↦ (a, same_Some _ _ (sym e ∙ find_here o p.responder p.initiator [] a))
  | inr a ↦ absurd (none-some v (sym (find_not o p.responder p.initiator [] a) ∙ e))
]
own_gives Back p o v e = elim (cases_eq o p.initiator) [
  | inl a ↦ (a, same_Some _ _ (sym e ∙ find_here o p.initiator p.responder [] a))
  | inr a ↦ absurd (none-some v (sym (find_not o p.initiator p.responder [] a) ∙ e))
]

two_some : (i r o v : ℕ) → TwoGive i r o v → find nat_cmp o ((i, r) ∷ (r, i) ∷ []) ≡ None → ⊥
two_some i r o v g e = elim g [
  | inl x ↦ none-some _ (sym e ∙ find_here o i r ((r, i) ∷ []) x.0)
  | inr x ↦ elim (cases_eq o i) [
    | inl a ↦ none-some _ (sym e ∙ find_here o i r ((r, i) ∷ []) a)
    | inr a ↦ none-some _ (sym e ∙ find_not o i r ((r, i) ∷ []) a ∙ find_here o r i [] x.0)
  ]
]

-- where it gives an output an input, something is found
gives_some : (w : Wiring) (p : Pair) (o v : ℕ) → Gives w p o v → find nat_cmp o (ends w p) ≡ None → ⊥
gives_some Both p o v g e = two_some p.initiator (JOINED_MODULES + p.responder) o v g e
gives_some (Board w) p o v g e = two_some (link0_on w p.initiator) (link3_on w p.responder) o v g e
gives_some Forth p o v g e = none-some _ (sym e ∙ find_here o p.responder p.initiator [] g.0)
gives_some Back p o v g e = none-some _ (sym e ∙ find_here o p.initiator p.responder [] g.0)

found_in : (w : Wiring) (ps : List Pair) (o v : ℕ) → found w ps o ≡ Some v → (p : Pair) × In p ps × Gives w p o v
unfolding found
found_in w [] o v e = absurd cc
found_in w (p ∷ ps) o v e = elim (find nat_cmp o (ends w p)) as (λ r. find nat_cmp o (ends w p) ≡ r → (q : Pair) × In q (p ∷ ps) × Gives w q o v) [
  | None ↦ λ none. let r = found_in w ps o v (sym (found_more w p ps o ∙ ap (λ x. option_or x (found w ps o)) none) ∙ e) in (r.0, inr r.1, r.2)
  | Some x ↦ λ some. (p, inl refl, own_gives w p o v (some ∙ sym (found_more w p ps o ∙ ap (λ x. option_or x (found w ps o)) some) ∙ e))
] refl

-- pairs that agree on an output give it what one of them does
in_found : (w : Wiring) (ps : List Pair) (o v : ℕ) (p : Pair) → In p ps → Gives w p o v → ((q : Pair) (x : ℕ) → In q ps → Gives w q o x → x ≡ v) → found w ps o
    ≡ Some v
in_found w [] o v p i h one = absurd i
in_found w (q ∷ qs) o v p i h one = elim (find nat_cmp o (ends w q)) as (λ r. find nat_cmp o (ends w q) ≡ r → found w (q ∷ qs) o ≡ Some v) [
  | Some x ↦ λ some. found_more w q qs o ∙ ap (λ y. option_or y (found w qs o)) some ∙ ap (λ (y : ℕ). Some y) (one q x (inl refl) (own_gives w q o x some))
  | None ↦ λ none. found_more w q qs o ∙ ap (λ y. option_or y (found w qs o)) none ∙ elim i [
    | inl e ↦ absurd (gives_some w q o v (subst (λ (x : Pair). Gives w x o v) (sym e) h) none)
    | inr k ↦ in_found w qs o v p k h (λ x y j. one x y (inr j))
  ]
] refl

-- pairs among so many modules that can be joined at once, in any order
pub record AreJoinable (modules : ℕ) (ps : List Pair) : Type 0 where
  pub low : (p : Pair) → In p ps → (p.initiator < modules) × (p.responder < modules)
  pub one_responder : (p q : Pair) → In p ps → In q ps → p.initiator ≡ q.initiator → p.responder ≡ q.responder
  pub one_initiator : (p q : Pair) → In p ps → In q ps → p.responder ≡ q.responder → p.initiator ≡ q.initiator

one_given : (w : Wiring) (m : ℕ) (ps : List Pair) (o v x : ℕ) (p q : Pair) → m ≤ room_of w → AreJoinable m ps → In p ps → In q ps → Gives w p o v
    → Gives w q o x → x ≡ v
one_given Both m ps o v x p q fits a i j g h = elim g [
  | inl y ↦ elim h [
    | inl z ↦ omega (arith, y.0, y.1, z.0, z.1, a.one_responder p q i j (sym y.0 ∙ z.0))
    | inr z ↦ absurd (omega (arith, y.0, z.0, (a.low p i).0))
  ]
  | inr y ↦ elim h [
    | inl z ↦ absurd (omega (arith, y.0, z.0, (a.low q j).0))
    | inr z ↦ let same : p.responder ≡ q.responder = omega (arith, y.0, z.0) in omega (arith, y.1, z.1, a.one_initiator p q i j same)
  ]
]
one_given Forth m ps o v x p q fits a i j g h = h.1 ∙ sym (a.one_initiator p q i j (sym g.0 ∙ h.0)) ∙ sym g.1
one_given Back m ps o v x p q fits a i j g h = h.1 ∙ sym (a.one_responder p q i j (sym g.0 ∙ h.0)) ∙ sym g.1
one_given (Board w) m ps o v x p q fits a i j g h =
    let i0 : p.initiator < length (links_of w) = omega (arith, (a.low p i).0) in
    let r0 : p.responder < length (links_of w) = omega (arith, (a.low p i).1) in
    let i1 : q.initiator < length (links_of w) = omega (arith, (a.low q j).0) in
    let r1 : q.responder < length (links_of w) = omega (arith, (a.low q j).1) in
    elim g [
      | inl y ↦ elim h [
        | inl z ↦
            let same = one_link0 (links_of w) p.initiator q.initiator unwired w.own i0 i1 (sym y.0 ∙ z.0) in
            z.1 ∙ ap (link3_on w) (sym (a.one_responder p q i j same)) ∙ sym y.1
        | inr z ↦ absurd (never_one (links_of w) p.initiator q.responder unwired w.own i0 r1 (sym y.0 ∙ z.0))
      ]
      | inr y ↦ elim h [
        | inl z ↦ absurd (never_one (links_of w) q.initiator p.responder unwired w.own i1 r0 (sym z.0 ∙ y.0))
        | inr z ↦
            let same = one_link3 (links_of w) p.responder q.responder unwired w.own r0 r1 (sym y.0 ∙ z.0) in
            z.1 ∙ ap (link0_on w) (sym (a.one_initiator p q i j same)) ∙ sym y.1
      ]
    ]

same_found : (w : Wiring) (m : ℕ) (ps qs : List Pair) (o : ℕ) → m ≤ room_of w → AreJoinable m ps → AreJoinable m qs → ((p : Pair) → In p ps → In p qs)
    → ((p : Pair) → In p qs → In p ps) → found w ps o ≡ found w qs o
same_found w m ps qs o fits a b to from = elim (found w ps o) as (λ r. found w ps o ≡ r → r ≡ found w qs o) [
  | None ↦ λ e. elim (found w qs o) as (λ r. found w qs o ≡ r → None ≡ r) [
    | None ↦ λ f. refl
    | Some y ↦ λ f. let x = found_in w qs o y f in sym e ∙ in_found w ps o y x.0 (from x.0 x.1) x.2
        (λ q v i g. one_given w m ps o y v x.0 q fits a (from x.0 x.1) i x.2 g)
  ] refl
  | Some v ↦ λ e. let x =
      found_in w ps o v e in sym (in_found w qs o v x.0 (to x.0 x.1) x.2 (λ q y i g. one_given w m qs o v y x.0 q fits b (to x.0 x.1) i x.2 g))
] refl

-- pairs in another order join the same
pub same_switch : (w : Wiring) (m : ℕ) (ps qs : List Pair) → m ≤ room_of w → AreJoinable m ps → AreJoinable m qs → ((p : Pair) → In p ps → In p qs)
    → ((p : Pair) → In p qs → In p ps) → switch_of w ps ≡ switch_of w qs
unfolding found
same_switch w m ps qs fits a b to from =
    ap (λ (m : Sources). record { sources = m; ready = true })
    (same_sources _ _ (λ o. get-from_entries nat_cmp_total (flat_map (ends w) ps) o ∙ same_found w m ps qs o fits a b to from
    ∙ sym (get-from_entries nat_cmp_total (flat_map (ends w) qs) o)))

-- ---- the pairs of a setting

got_there : (batch : List Transfer) (t : ℕ) → t < length batch → slice_get batch t ≡ Some (transfer_at batch t)
got_there [] t h = absurd (omega arith)
got_there (x ∷ xs) zero h = refl
got_there (x ∷ xs) (suc t) h = got_there xs t (omega arith)

same_start : (x y : Transfer) → x.initiator ≡ y.initiator → start_link x ≡ start_link y
same_start x y e = ap (λ (m : ℕ). start_link (record { kind = x.kind; initiator = m; own_block = 0; responder = 0; far_block = 0 })) e

same_answer : (x y : Transfer) → x.responder ≡ y.responder → answer_link x ≡ answer_link y
same_answer x y e = ap (λ (m : ℕ). answer_link (record { kind = x.kind; initiator = 0; own_block = 0; responder = m; far_block = 0 })) e

-- a transfer shares no module's link with those of a matching
pub no_initiator : (batch : List Transfer) (t : ℕ) (us : List ℕ) (q : Pair) → t < length batch → All (λ u. u < length batch) us → All (AreApart batch t) us
    → In q (setting_pairs batch us) → (transfer_at batch t).initiator ≡ q.initiator → ⊥
no_initiator batch t [] q h k a i e = absurd i
no_initiator batch t (u ∷ us) q h k a i e = elim i [
  | inl here ↦
      let x = transfer_at batch t in
      let y = transfer_at batch u in
      let same : x.initiator ≡ y.initiator = e ∙ sym (ap (λ (p : Pair). p.initiator) here) in
      (All-head (AreApart batch t) u us a).none_common (start_link x) (x, got_there batch t h, inl refl)
      (y, got_there batch u (All-head (λ v. v < length batch) u us k), inl (same_start x y same))
  | inr more ↦ no_initiator batch t us q h (All-tail (λ v. v < length batch) u us k) (All-tail (AreApart batch t) u us a) more e
]

no_responder : (batch : List Transfer) (t : ℕ) (us : List ℕ) (q : Pair) → t < length batch → All (λ u. u < length batch) us → All (AreApart batch t) us
    → In q (setting_pairs batch us) → (transfer_at batch t).responder ≡ q.responder → ⊥
no_responder batch t [] q h k a i e = absurd i
no_responder batch t (u ∷ us) q h k a i e = elim i [
  | inl here ↦
      let x = transfer_at batch t in
      let y = transfer_at batch u in
      let same : x.responder ≡ y.responder = e ∙ sym (ap (λ (p : Pair). p.responder) here) in
      (All-head (AreApart batch t) u us a).none_common (answer_link x) (x, got_there batch t h, inr refl)
      (y, got_there batch u (All-head (λ v. v < length batch) u us k), inr (same_answer x y same))
  | inr more ↦ no_responder batch t us q h (All-tail (λ v. v < length batch) u us k) (All-tail (AreApart batch t) u us a) more e
]

within_at : (batch : List Transfer) (t : ℕ) → IsBatch batch → t < length batch → IsWithin widest (transfer_at batch t)
within_at batch t b h = b.within t _ h

one_responder : (batch : List Transfer) (ts : List ℕ) (p q : Pair) → All (λ u. u < length batch) ts → IsMatching batch ts → In p (setting_pairs batch ts)
    → In q (setting_pairs batch ts) → p.initiator ≡ q.initiator → p.responder ≡ q.responder
one_responder batch [] p q k m i j e = absurd i
one_responder batch (t ∷ ts) p q k m i j e =
    let known = All-head (λ u. u < length batch) t ts k in
    let rest = All-tail (λ u. u < length batch) t ts k in
    let apart = first_with (AreApart batch) t ts m in
    elim i [
      | inl a ↦ elim j [
        | inl b ↦ ap (λ (x : Pair). x.responder) (sym a ∙ b)
        | inr b ↦ absurd (no_initiator batch t ts q known rest apart b (ap (λ (x : Pair). x.initiator) a ∙ e))
      ]
      | inr a ↦ elim j [
        | inl b ↦ absurd (no_initiator batch t ts p known rest apart a (ap (λ (x : Pair). x.initiator) b ∙ sym e))
        | inr b ↦ one_responder batch ts p q rest (later (AreApart batch) t ts m) a b e
      ]
    ]

one_initiator : (batch : List Transfer) (ts : List ℕ) (p q : Pair) → All (λ u. u < length batch) ts → IsMatching batch ts → In p (setting_pairs batch ts)
    → In q (setting_pairs batch ts) → p.responder ≡ q.responder → p.initiator ≡ q.initiator
one_initiator batch [] p q k m i j e = absurd i
one_initiator batch (t ∷ ts) p q k m i j e =
    let known = All-head (λ u. u < length batch) t ts k in
    let rest = All-tail (λ u. u < length batch) t ts k in
    let apart = first_with (AreApart batch) t ts m in
    elim i [
      | inl a ↦ elim j [
        | inl b ↦ ap (λ (x : Pair). x.initiator) (sym a ∙ b)
        | inr b ↦ absurd (no_responder batch t ts q known rest apart b (ap (λ (x : Pair). x.responder) a ∙ e))
      ]
      | inr a ↦ elim j [
        | inl b ↦ absurd (no_responder batch t ts p known rest apart a (ap (λ (x : Pair). x.responder) b ∙ sym e))
        | inr b ↦ one_initiator batch ts p q rest (later (AreApart batch) t ts m) a b e
      ]
    ]

names_within : (batch : List Transfer) → IsBatch batch → HasModulesOf MAX_MODULES batch
names_within batch b t h = (within_at batch t b h).0

low_pairs : (m : ℕ) (batch : List Transfer) (ts : List ℕ) (p : Pair) → HasModulesOf m batch → All (λ u. u < length batch) ts → In p (setting_pairs batch ts)
    → (p.initiator < m) × (p.responder < m)
low_pairs m batch [] p b k i = absurd i
low_pairs m batch (t ∷ ts) p b k i = elim i [
  | inl e ↦ subst (λ (x : Pair). (x.initiator < m) × (x.responder < m)) e (b t (All-head (λ u. u < length batch) t ts k))
  | inr more ↦ low_pairs m batch ts p b (All-tail (λ u. u < length batch) t ts k) more
]

setting_joinable : (m : ℕ) (batch : List Transfer) (ts : List ℕ) → HasModulesOf m batch → All (λ u. u < length batch) ts → IsMatching batch ts
    → AreJoinable m (setting_pairs batch ts)
setting_joinable m batch ts fits k matching = record {
  low = λ p i. low_pairs m batch ts p fits k i;
  one_responder = λ p q i j e. one_responder batch ts p q k matching i j e;
  one_initiator = λ p q i j e. one_initiator batch ts p q k matching i j e;
}

-- ---- the table

-- the table has the pairs of these transfers
pub record IsTableOf (batch : List Transfer) (ts : List ℕ) (table : List (Option ℕ)) : Type 0 where
  pub size : length table ≡ MAX_MODULES
  pub sound : (i r : ℕ) → get_or table i None ≡ Some r → In (joined i r) (setting_pairs batch ts)
  pub whole : (i r : ℕ) → In (joined i r) (setting_pairs batch ts) → get_or table i None ≡ Some r

in_push : (ps : List Pair) (p q : Pair) → In p (ps ++ q ∷ []) → In p ps ⊎ (q ≡ p)
in_push [] p q i = elim i [ inl e ↦ inr e | inr none ↦ absurd none ]
in_push (x ∷ xs) p q i = elim i [ inl e ↦ inl (inl e) | inr more ↦ elim (in_push xs p q more) [ inl a ↦ inl (inr a) | inr b ↦ inr b ] ]

push_in : (ps : List Pair) (p q : Pair) → In p ps ⊎ (q ≡ p) → In p (ps ++ q ∷ [])
push_in [] p q i = elim i [ inl none ↦ absurd none | inr e ↦ inl e ]
push_in (x ∷ xs) p q i = elim i [
  | inl a ↦ elim a [ inl e ↦ inl e | inr more ↦ inr (push_in xs p q (inl more)) ]
  | inr e ↦ inr (push_in xs p q (inr e))
]

pairs_push : (batch : List Transfer) (ts : List ℕ) (t : ℕ) → setting_pairs batch (ts ++ t ∷ []) ≡ setting_pairs batch ts ++ joined_pair (transfer_at batch t) ∷
    []
pairs_push batch [] t = refl
pairs_push batch (u ∷ ts) t = ap (λ (x : List Pair). joined_pair (transfer_at batch u) ∷ x) (pairs_push batch ts t)

in_front : (batch : List Transfer) (ts : List ℕ) (k : ℕ) (p : Pair) → In p (setting_pairs batch (take k ts)) → In p (setting_pairs batch ts)
in_front batch [] zero p i = absurd i
in_front batch [] (suc k) p i = absurd i
in_front batch (t ∷ ts) zero p i = absurd i
in_front batch (t ∷ ts) (suc k) p i = elim i [ inl e ↦ inl e | inr more ↦ inr (in_front batch ts k p more) ]

-- one transfer more
pub table_more : (batch : List Transfer) (ts : List ℕ) (k t : ℕ) (table : List (Option ℕ)) (x : Transfer) → IsBatch batch → All (λ u. u < length batch) ts
    → IsMatching batch ts → k < length ts → get_or ts k 0 ≡ t → transfer_at batch t ≡ x
    → IsTableOf batch (take k ts) table → IsTableOf batch (take (k + 1) ts) (set table x.initiator (Some x.responder))
table_more batch ts k t table x b known matching h et ex is =
    let p = joined_pair x in
    let now : setting_pairs batch (take (k + 1) ts) ≡ setting_pairs batch (take k ts) ++ p ∷ [] =
    ap (setting_pairs batch) (take_more ts k 0 h) ∙ pairs_push batch (take k ts) (get_or ts k 0)
    ∙ ap (λ (u : ℕ). setting_pairs batch (take k ts) ++ joined_pair (transfer_at batch u) ∷ []) et
    ∙ ap (λ (y : Transfer). setting_pairs batch (take k ts) ++ joined_pair y ∷ []) ex in
    let last : In p (setting_pairs batch (take (k + 1) ts)) = subst (In p) (sym now) (push_in (setting_pairs batch (take k ts)) p p (inr refl)) in
    let low : x.initiator < MAX_MODULES = (low_pairs MAX_MODULES batch ts p (names_within batch b) known (in_front batch ts (k + 1) p last)).0 in
    let room : x.initiator < length table = omega (arith, is.size) in
    record {
      size = length-set table x.initiator (Some x.responder) ∙ is.size;
      sound = λ i r e. elim (cases_eq i x.initiator) [
        | inl same ↦
            let at : get_or (set table x.initiator (Some x.responder)) i None ≡ Some x.responder =
            ap (λ (j : ℕ). get_or (set table x.initiator (Some x.responder)) j None) same ∙ (rw get_or-set_same) in
            let r_is : x.responder ≡ r = same_Some x.responder r (sym at ∙ e) in
            subst (In (joined i r)) (sym now) (push_in (setting_pairs batch (take k ts)) (joined i r) p (inr (ap₂ (λ (a b : ℕ). joined a b) (sym same) r_is)))
        | inr other ↦
            let at : get_or (set table x.initiator (Some x.responder)) i None ≡ get_or table i None = rw get_or-set_other in
            subst (In (joined i r)) (sym now) (push_in (setting_pairs batch (take k ts)) (joined i r) p (inl (is.sound i r (sym at ∙ e))))
      ];
      whole = λ i r a. elim (cases_eq i x.initiator) [
        | inl same ↦
            let one = one_responder batch ts (joined i r) p known matching (in_front batch ts (k + 1) (joined i r) a) (in_front batch ts (k + 1) p last) same in
            ap (λ (j : ℕ). get_or (set table x.initiator (Some x.responder)) j None) same ∙ (rw get_or-set_same (ap (λ (v : ℕ). Some v) (sym one)))
        | inr other ↦
            let at : get_or (set table x.initiator (Some x.responder)) i None ≡ get_or table i None = rw get_or-set_other in
            at ∙ elim (in_push (setting_pairs batch (take k ts)) (joined i r) p (subst (In (joined i r)) now a)) [
              | inl before ↦ is.whole i r before
              | inr e ↦ absurd (other (sym (ap (λ (q : Pair). q.initiator) e)))
            ]
      ];
    }

-- a pair of the table, by its position
table_in : (m : ℕ) (table : List (Option ℕ)) (p : Pair) → In p (table_pairs m table) → (j : ℕ) × (p.initiator ≡ m + j)
    × (get_or table j None ≡ Some p.responder)
table_in m [] p i = absurd i
table_in m (None ∷ table) p i = let r = table_in (m + 1) table p i in (suc r.0, omega (arith, r.1), r.2)
table_in m (Some v ∷ table) p i = elim i [
  | inl e ↦ (0, omega (arith, ap (λ (q : Pair). q.initiator) e), ap (λ (q : Pair). Some q.responder) e)
  | inr more ↦ let r = table_in (m + 1) table p more in (suc r.0, omega (arith, r.1), r.2)
]

in_table : (m : ℕ) (table : List (Option ℕ)) (j i r : ℕ) → i ≡ m + j → get_or table j None ≡ Some r → In (joined i r) (table_pairs m table)
in_table m [] zero i r e h = absurd cc
in_table m [] (suc j) i r e h = absurd cc
in_table m (None ∷ table) zero i r e h = absurd cc
in_table m (None ∷ table) (suc j) i r e h = in_table (m + 1) table j i r (omega arith) h
in_table m (Some v ∷ table) zero i r e h = let start : m ≡ i = omega arith in inl (ap₂ (λ (a b : ℕ). joined a b) start (same_Some v r h))
in_table m (Some v ∷ table) (suc j) i r e h = inr (in_table (m + 1) table j i r (omega arith) h)

all_above : (n m : ℕ) (table : List (Option ℕ)) → n < m → AllByRecursion (λ q. n < q.initiator) (table_pairs m table)
all_above n m [] h = tt
all_above n m (None ∷ table) h = all_above n (m + 1) table (omega arith)
all_above n m (Some v ∷ table) h = (h, all_above n (m + 1) table (omega arith))

all_in : (P : Pair → Type 0) (ps : List Pair) → ((p : Pair) → In p ps → P p) → AllByRecursion P ps
all_in P [] f = tt
all_in P (p ∷ ps) f = (f p (inl refl), all_in P ps (λ q i. f q (inr i)))

-- the pairs of a table ascend
ascending : (n m : ℕ) (table : List (Option ℕ)) → AreJoinable n (table_pairs m table) → ArePairs n (table_pairs m table)
ascending n m [] a = tt
ascending n m (None ∷ table) a = ascending n (m + 1) table a
ascending n m (Some v ∷ table) a =
    let first = joined m v in
    let rest = table_pairs (m + 1) table in
    let low = a.low first (inl refl) in (
      low.0,
      low.1,
      all_above m (m + 1) table (omega arith),
      all_in (λ q. v ≢ q.responder) rest
          (λ q i e. (let same = a.one_initiator first q (inl refl) (inr i) e in let r = table_in (m + 1) table q i in omega (arith, same, r.1))),
      ascending n (m + 1) table (record {
        low = λ p i. a.low p (inr i);
        one_responder = λ p q i j e. a.one_responder p q (inr i) (inr j) e;
        one_initiator = λ p q i j e. a.one_initiator p q (inr i) (inr j) e;
      }),
    )

table_members : (batch : List Transfer) (ts : List ℕ) (table : List (Option ℕ)) (p : Pair) → IsTableOf batch ts table → In p (table_pairs 0 table)
    → In p (setting_pairs batch ts)
table_members batch ts table p is i =
    let r = table_in 0 table p i in
    let e : r.0 ≡ p.initiator = omega (arith, r.1) in
    subst (λ (x : ℕ). In (joined x p.responder) (setting_pairs batch ts)) e (is.sound r.0 p.responder r.2)

setting_members : (batch : List Transfer) (ts : List ℕ) (table : List (Option ℕ)) (p : Pair) → IsTableOf batch ts table → In p (setting_pairs batch ts)
    → In p (table_pairs 0 table)
setting_members batch ts table p is i = in_table 0 table p.initiator p.initiator p.responder (omega arith) (is.whole p.initiator p.responder i)

table_joinable : (m : ℕ) (batch : List Transfer) (ts : List ℕ) (table : List (Option ℕ)) → IsTableOf batch ts table → AreJoinable m (setting_pairs batch ts)
    → AreJoinable m (table_pairs 0 table)
table_joinable m batch ts table is a = record {
  low = λ p i. a.low p (table_members batch ts table p is i);
  one_responder = λ p q i j e. a.one_responder p q (table_members batch ts table p is i) (table_members batch ts table q is j) e;
  one_initiator = λ p q i j e. a.one_initiator p q (table_members batch ts table p is i) (table_members batch ts table q is j) e;
}

-- in a rack that has the batch's modules, the pairs of a table of a setting are pairs of that rack
pub table_is_pairs : (m : ℕ) (batch : List Transfer) (ts : List ℕ) (table : List (Option ℕ)) → IsTableOf batch ts table → All (λ u. u < length batch) ts
    → IsMatching batch ts → HasModulesOf m batch → ArePairs m (table_pairs 0 table)
table_is_pairs m batch ts table is k matching fits =
    ascending m 0 table (table_joinable m batch ts table is (setting_joinable m batch ts fits k matching))

-- and they join what the setting's pairs do
pub table_is_switch : (m : ℕ) (w : Wiring) (batch : List Transfer) (ts : List ℕ) (table : List (Option ℕ)) → IsTableOf batch ts table
    → All (λ u. u < length batch) ts → IsMatching batch ts → HasModulesOf m batch → m ≤ room_of w
    → switch_of w (table_pairs 0 table) ≡ switch_of w (setting_pairs batch ts)
table_is_switch m w batch ts table is k matching fits room =
    let a = setting_joinable m batch ts fits k matching in
    same_switch w m (table_pairs 0 table) (setting_pairs batch ts) room (table_joinable m batch ts table is a) a (λ p i. table_members batch ts table p is i)
    (λ p i. setting_members batch ts table p is i)

-- the switches of one list of pairs are those of another that joins the same
pub same_switches : (m : ℕ) (ps qs : List Pair) (s : Switches) → m ≤ PORTS → ((w : Wiring) → m ≤ room_of w → switch_of w ps ≡ switch_of w qs)
    → AreSwitchesOf m ps s → AreSwitchesOf m qs s
same_switches m ps qs s few same is = record {
  narrow = λ h. is.narrow h ∙ same Both h;
  wide_a = λ h. is.wide_a h ∙ same Forth few;
  wide_b = λ h. is.wide_b h ∙ same Back few;
}

-- an empty table
pub table_none : (batch : List Transfer) (n i r : ℕ) → get_or (replicate n None) i None ≡ Some r → ⊥
table_none batch zero i r e = absurd cc
table_none batch (suc n) zero r e = absurd cc
table_none batch (suc n) (suc i) r e = table_none batch n i r e

-- the pairs of a longer table
pub table_push : (m : ℕ) (table : List (Option ℕ)) (o : Option ℕ) (n : ℕ) → n ≡ m + length table → table_pairs m (table ++ o ∷ []) ≡ table_pairs m table
    ++ table_pairs n (o ∷ [])
table_push m [] o n e = let same : m ≡ n = omega arith in ap (λ (x : ℕ). table_pairs x (o ∷ [])) same
table_push m (None ∷ table) o n e = table_push (m + 1) table o n (omega arith)
table_push m (Some v ∷ table) o n e = ap (λ (x : List Pair). joined m v ∷ x) (table_push (m + 1) table o n (omega arith))

-- ---- how many transfers a setting has

stands_once : (t : ℕ) (xs : List ℕ) → AreDistinct xs → standings t xs ≤ 1
stands_once t xs distinct = elim (cases_lt 0 (standings t xs)) [
  | inl some ↦ omega (arith, once_from_distinct t xs distinct (stands_from_count t xs some))
  | inr none ↦ omega arith
]

each_at_most : (xs : List ℕ) (a n : ℕ) → AreDistinct xs → AllByRecursion (λ t. sum_by (hit t) xs ≤ 1) (range_with_len a n)
each_at_most xs a zero h = tt
each_at_most xs a (suc n) h = (stands_once a xs h, each_at_most xs (a + 1) n h)

-- distinct numbers below a bound are at most as many
few_distinct : (xs : List ℕ) (n : ℕ) → All (λ u. u < n) xs → AreDistinct xs → length xs ≤ n
few_distinct xs n low distinct =
    let rows = sum_at_most (λ (t : ℕ). sum_by (hit t) xs) (range_with_len 0 n) (each_at_most xs 0 n distinct) in
    let columns = sum_ones (λ (u : ℕ). sum_by (λ t. hit t u) (range_with_len 0 n)) xs (each_once xs n low) in
    omega (arith, rows, columns, swap hit (range_with_len 0 n) xs, length_range 0 n)

abbrev initiators : List Transfer → List ℕ → List ℕ
initiators batch ts = map (λ t. (transfer_at batch t).initiator) ts

low_initiators : (batch : List Transfer) (ts : List ℕ) → IsBatch batch → All (λ u. u < length batch) ts → All (λ u. u < MAX_MODULES) (initiators batch ts)
low_initiators batch [] b k = λ i d l. absurd (omega arith)
low_initiators batch (t ∷ ts) b k =
    All-cons (λ u. u < MAX_MODULES) (transfer_at batch t).initiator (initiators batch ts) (within_at batch t b (All-head (λ u. u < length batch) t ts k)).0.0
    (low_initiators batch ts b (All-tail (λ u. u < length batch) t ts k))

other_initiators : (batch : List Transfer) (t : ℕ) (us : List ℕ) → t < length batch → All (λ u. u < length batch) us → All (AreApart batch t) us
    → All (λ v. (transfer_at batch t).initiator ≢ v) (initiators batch us)
other_initiators batch t [] h k a = λ i d l. absurd (omega arith)
other_initiators batch t (u ∷ us) h k a =
    All-cons (λ v. (transfer_at batch t).initiator ≢ v) (transfer_at batch u).initiator (initiators batch us)
    (λ e. no_initiator batch t (u ∷ []) (joined_pair (transfer_at batch u)) h (All-cons (λ v. v < length batch) u [] (All-head (λ v. v < length batch) u us k)
    (λ i d l. absurd (omega arith)))
    (All-cons (AreApart batch t) u [] (All-head (AreApart batch t) u us a) (λ i d l. absurd (omega arith))) (inl refl) e)
    (other_initiators batch t us h (All-tail (λ v. v < length batch) u us k) (All-tail (AreApart batch t) u us a))

distinct_initiators : (batch : List Transfer) (ts : List ℕ) → All (λ u. u < length batch) ts → IsMatching batch ts → AreDistinct (initiators batch ts)
distinct_initiators batch [] k m = λ i j d l h. absurd (omega arith)
distinct_initiators batch (t ∷ ts) k m =
    AllPairs-cons (λ a b. a ≢ b) (transfer_at batch t).initiator (initiators batch ts)
    (other_initiators batch t ts (All-head (λ u. u < length batch) t ts k) (All-tail (λ u. u < length batch) t ts k) (first_with (AreApart batch) t ts m))
    (distinct_initiators batch ts (All-tail (λ u. u < length batch) t ts k) (later (AreApart batch) t ts m))

pub matching_few : (batch : List Transfer) (ts : List ℕ) → IsBatch batch → All (λ u. u < length batch) ts → IsMatching batch ts → length ts ≤ MAX_MODULES
matching_few batch ts b k m = omega (
  arith,
  few_distinct (initiators batch ts) MAX_MODULES (low_initiators batch ts b k) (distinct_initiators batch ts k m),
  length-map ts (λ (t : ℕ). (transfer_at batch t).initiator),
)
