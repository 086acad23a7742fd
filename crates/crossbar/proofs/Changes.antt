-- Joins and cuts of pairs, output by output.
use Rattle.std.proofs.Common.{◌≡◌, ◌≢◌, ◌<◌, ◌+◌, ◌==◌, ◌&&◌, ◌||◌, ◌⊎◌, inl, inr, ℕ, Bool, true, false, not, cond, eqb, List, [], ◌∷◌, ◌++◌, map, refl, sym, ap, ap₂, ◌∙◌, subst, arith, Option, Some}
use Rattle.std.proofs.Common.{None}
use Rattle.std.specs.Ordering.{nat_cmp}
use Rattle.std.specs.Cmp.{nat_cmp_total, unsigned_tied}
use Rattle.std.specs.List.{flat_map, list_any, AllByRecursion}
use Rattle.std.specs.FinMap.{get, insert, remove, find, get-empty, get-from_entries}
use Rattle.c004_commands.specs.declared.command.Command.TheVariants.{Join, Settle, Cut, CutPair}
use Rattle.crossbar.specs.Switch.{Sources, Switch, after, after_all, idle}
use Rattle.crossbar.specs.Pairs.{Fits, ArePairs, room_of, ends, switch_of, join, cut, is_pair, without, setting, change}
use Rattle.crossbar.specs.declared.chip.Wiring.{Wiring}
use Rattle.crossbar.specs.declared.chip.Wiring.TheVariants.{Both, Forth, Back, Board}
use Rattle.crossbar.specs.declared.pair.Pair.{Pair}
use Rattle.crossbar.specs.declared.switch.TheConstants.{JOINED_MODULES}
use Rattle.crossbar.specs.Wired.{links_of, unwired, link0_on, link3_on}
use Rattle.crossbar.proofs.Boards.{never_one, one_link0, one_link3}
use Rattle.crossbar.proofs.Carrying.{after_all-append}
use Rattle.crossbar.proofs.Latches.{get-put, get-cut, same_sources, eqb_yes}

-- whether an output is one of the pair's
abbrev meets : Wiring → ℕ → Pair → Bool
meets Both o p = o == p.initiator || o == JOINED_MODULES + p.responder
meets Forth o p = o == p.responder
meets Back o p = o == p.initiator
meets (Board b) o p = o == link0_on b p.initiator || o == link3_on b p.responder

-- the input that the pair gives to an output of its own
abbrev partner : Wiring → Pair → ℕ → ℕ
partner Both p o = cond (o == p.initiator) (JOINED_MODULES + p.responder) p.initiator
partner Forth p o = p.initiator
partner Back p o = p.responder
partner (Board b) p o = cond (o == link0_on b p.initiator) (link3_on b p.responder) (link0_on b p.initiator)

abbrev any : Wiring → List Pair → ℕ → Bool
any w [] o = false
any w (p ∷ ps) o = meets w o p || any w ps o

abbrev pub In : Pair → List Pair → Type 0
In p [] = ⊥
In p (q ∷ qs) = (q ≡ p) ⊎ In p qs

or_left : (a b : Bool) → (a || b) ≡ false → a ≡ false
or_left true b e = absurd cc
or_left false b e = refl

or_right : (a b : Bool) → (a || b) ≡ false → b ≡ false
or_right true b e = absurd cc
or_right false b e = e

or_cases : (a b : Bool) → (a || b) ≡ true → (a ≡ true) ⊎ (b ≡ true)
or_cases true b e = inl refl
or_cases false b e = inr e

or_true_right : (a b : Bool) → b ≡ true → (a || b) ≡ true
or_true_right true b e = refl
or_true_right false b e = e

or_true_left : (a b : Bool) → a ≡ true → (a || b) ≡ true
or_true_left true b e = refl
or_true_left false b e = absurd cc

true_or_false : (b : Bool) → (b ≡ true) ⊎ (b ≡ false)
true_or_false true = inl refl
true_or_false false = inr refl

same_number : (a b : ℕ) → eqb a b ≡ true → a ≡ b
same_number a b e = grind arith

-- who meets an output
witness : (w : Wiring) (ps : List Pair) (o : ℕ) → any w ps o ≡ true → (p : Pair) × In p ps × (meets w o p ≡ true)
witness w [] o e = absurd cc
witness w (p ∷ ps) o e = elim (or_cases (meets w o p) (any w ps o) e) [
  | inl h ↦ (p, inl refl, h)
  | inr h ↦ let who = witness w ps o h in (who.0, inr who.1, who.2)
]

any_in : (w : Wiring) (ps : List Pair) (o : ℕ) (p : Pair) → In p ps → meets w o p ≡ true → any w ps o ≡ true
any_in w [] o p i m = absurd i
any_in w (q ∷ qs) o p i m = elim i [
  | inl e ↦ or_true_left (meets w o q) (any w qs o) (ap (meets w o) e ∙ m)
  | inr h ↦ or_true_right (meets w o q) (any w qs o) (any_in w qs o p h m)
]

none_of : (w : Wiring) (ps qs : List Pair) (o : ℕ) → ((p : Pair) → In p ps → In p qs) → any w qs o ≡ false → any w ps o ≡ false
none_of w ps qs o sub e = elim (true_or_false (any w ps o)) [
  | inl t ↦ let who = witness w ps o t in let u = any_in w qs o who.0 (sub who.0 who.1) who.2 in absurd cc
  | inr f ↦ f
]

all_in : (P : Pair → Type 0) (ps : List Pair) (p : Pair) → AllByRecursion P ps → In p ps → P p
all_in P [] p a i = absurd i
all_in P (q ∷ qs) p a i = elim i [
  | inl e ↦ subst P e a.0
  | inr h ↦ all_in P qs p a.1 h
]

low : (w : Wiring) (ps : List Pair) (p : Pair) → ArePairs (room_of w) ps → In p ps → Fits w p
low w [] p a i = absurd i
low w (q ∷ qs) p a i = elim i [
  | inl e ↦ subst (Fits w) e (a.0, a.1)
  | inr h ↦ low w qs p a.4 h
]

-- the two outputs of a pair on one switch
meets_cases : (o i r : ℕ) → (o == i || o == r) ≡ true → (o ≡ r) ⊎ (o ≡ i)
meets_cases o i r e = elim (or_cases (o == i) (o == r) e) [
  | inl h ↦ inr (same_number o i h)
  | inr h ↦ inl (same_number o r h)
]

-- pairs that the switch has links for, and that meet in an output, have one initiator or one
-- responder
shared : (w : Wiring) (o : ℕ) (p q : Pair) → Fits w p → Fits w q → meets w o p ≡ true → meets w o q ≡ true → (p.initiator ≡ q.initiator)
    ⊎ (p.responder ≡ q.responder)
shared Both o p q a b m n = elim (meets_cases o p.initiator (JOINED_MODULES + p.responder) m) [
  | inl x ↦ elim (meets_cases o q.initiator (JOINED_MODULES + q.responder) n) [ inl y ↦ inr (omega arith) | inr y ↦ absurd (omega arith) ]
  | inr x ↦ elim (meets_cases o q.initiator (JOINED_MODULES + q.responder) n) [ inl y ↦ absurd (omega arith) | inr y ↦ inl (omega arith) ]
]
shared (Board w) o p q a b m n = elim (meets_cases o (link0_on w p.initiator) (link3_on w p.responder) m) [
  | inl x ↦ elim (meets_cases o (link0_on w q.initiator) (link3_on w q.responder) n) [
    | inl y ↦ inr (one_link3 (links_of w) p.responder q.responder unwired w.own a.1 b.1 (sym x ∙ y))
    | inr y ↦ absurd (never_one (links_of w) q.initiator p.responder unwired w.own b.0 a.1 (sym y ∙ x))
  ]
  | inr x ↦ elim (meets_cases o (link0_on w q.initiator) (link3_on w q.responder) n) [
    | inl y ↦ absurd (never_one (links_of w) p.initiator q.responder unwired w.own a.0 b.1 (sym x ∙ y))
    | inr y ↦ inl (one_link0 (links_of w) p.initiator q.initiator unwired w.own a.0 b.0 (sym x ∙ y))
  ]
]
shared Forth o p q a b m n = inr (sym (same_number o p.responder m) ∙ same_number o q.responder n)
shared Back o p q a b m n = inl (sym (same_number o p.initiator m) ∙ same_number o q.initiator n)

-- the first of a matching shares nothing with the others
apart : (w : Wiring) (p q : Pair) (qs : List Pair) (o : ℕ) → ArePairs (room_of w) (p ∷ qs) → In q qs → meets w o p ≡ true → meets w o q ≡ true → ⊥
apart w p q qs o a i m n = elim (shared w o p q (a.0, a.1) (low w qs q a.4 i) m n) [
  | inl e ↦ let lt : p.initiator < q.initiator = all_in (λ (x : Pair). p.initiator < x.initiator) qs q a.2 i in omega arith
  | inr e ↦ all_in (λ (x : Pair). p.responder ≢ x.responder) qs q a.3 i e
]

-- two pairs of a matching that meet in an output are one
unique : (w : Wiring) (ps : List Pair) (p q : Pair) (o : ℕ) → ArePairs (room_of w) ps → In p ps → In q ps → meets w o p ≡ true → meets w o q ≡ true → p ≡ q
unique w [] p q o a i j m n = absurd i
unique w (x ∷ xs) p q o a i j m n = elim i [
  | inl e ↦ elim j [
    | inl f ↦ sym e ∙ f
    | inr k ↦ absurd (apart w x q xs o a k (ap (meets w o) e ∙ m) n)
  ]
  | inr h ↦ elim j [
    | inl f ↦ absurd (apart w x p xs o a h (ap (meets w o) f ∙ n) m)
    | inr k ↦ unique w xs p q o a.4 h k m n
  ]
]

two : (a b : Bool) (x y : ℕ) (g : Option ℕ) → cond a (Some x) (cond b (Some y) g) ≡ cond (a || b) (Some (cond a x y)) g
two true b x y g = refl
two false true x y g = refl
two false false x y g = refl

two_cut : (a b : Bool) (g : Option ℕ) → cond b None (cond a None g) ≡ cond (a || b) None g
two_cut true true g = refl
two_cut true false g = refl
two_cut false true g = refl
two_cut false false g = refl

-- two links that are joined, and two that are cut
get_joined : (i r : ℕ) (s : Switch) (o : ℕ) → get (after (Join i r) s).sources o ≡ cond (o == i || o == r) (Some (cond (o == i) r i)) (get s.sources o)
get_joined i r s o =
    get-put (insert s.sources r i) i r o
    ∙ ap (λ g. cond (eqb o i) (Some r) g) (get-put s.sources r i o)
    ∙ two (eqb o i) (eqb o r) r i (get s.sources o)

get_parted : (i r : ℕ) (s : Switch) (o : ℕ) → get (after (CutPair i r) s).sources o ≡ cond (o == i || o == r) None (get s.sources o)
get_parted i r s o =
    get-cut (remove s.sources i) r o
    ∙ ap (λ g. cond (eqb o r) None g) (get-cut s.sources i o)
    ∙ two_cut (eqb o i) (eqb o r) (get s.sources o)

get_join : (w : Wiring) (p : Pair) (s : Switch) (o : ℕ) → get (after (join w p) s).sources o ≡ cond (meets w o p) (Some (partner w p o)) (get s.sources o)
get_join Both p s o = get_joined p.initiator (JOINED_MODULES + p.responder) s o
get_join Forth p s o = get-put s.sources p.responder p.initiator o
get_join Back p s o = get-put s.sources p.initiator p.responder o
get_join (Board b) p s o = get_joined (link0_on b p.initiator) (link3_on b p.responder) s o

get_cut : (w : Wiring) (p : Pair) (s : Switch) (o : ℕ) → get (after (cut w p) s).sources o ≡ cond (meets w o p) None (get s.sources o)
get_cut Both p s o = get_parted p.initiator (JOINED_MODULES + p.responder) s o
get_cut Forth p s o = get-cut s.sources p.responder o
get_cut Back p s o = get-cut s.sources p.initiator o
get_cut (Board b) p s o = get_parted (link0_on b p.initiator) (link3_on b p.responder) s o

joins : Wiring → List Pair → Switch → Switch
joins w ps s = after_all (map (join w) ps) s

cuts : Wiring → List Pair → Switch → Switch
cuts w ps s = after_all (map (cut w) ps) s

joins_other : (w : Wiring) (ps : List Pair) (s : Switch) (o : ℕ) → any w ps o ≡ false → get (joins w ps s).sources o ≡ get s.sources o
unfolding joins
joins_other w [] s o e = refl
joins_other w (p ∷ ps) s o e =
    joins_other w ps (after (join w p) s) o (or_right (meets w o p) (any w ps o) e)
    ∙ get_join w p s o ∙ ap (λ b. cond b (Some (partner w p o)) (get s.sources o)) (or_left (meets w o p) (any w ps o) e)

joins_own : (w : Wiring) (ps : List Pair) (s : Switch) (o : ℕ) (p : Pair) → In p ps → meets w o p ≡ true → ((q : Pair) → In q ps → meets w o q ≡ true → q ≡ p)
    → get (joins w ps s).sources o ≡ Some (partner w p o)
unfolding joins
joins_own w [] s o p i m u = absurd i
joins_own w (x ∷ xs) s o p i m u = elim (true_or_false (any w xs o)) [
  | inl t ↦ let who = witness w xs o t in
      joins_own w xs (after (join w x) s) o p (subst (λ (q : Pair). In q xs) (u who.0 (inr who.1) who.2) who.1) m (λ q k n. u q (inr k) n)
  | inr f ↦ elim i [
    | inl e ↦ joins_other w xs (after (join w x) s) o f ∙ get_join w x s o
        ∙ ap (λ (q : Pair). cond (meets w o q) (Some (partner w q o)) (get s.sources o)) e ∙ ap (λ b. cond b (Some (partner w p o)) (get s.sources o)) m
    | inr k ↦ let t = any_in w xs o p k m in absurd cc
  ]
]

cuts_at : (w : Wiring) (ps : List Pair) (s : Switch) (o : ℕ) → get (cuts w ps s).sources o ≡ cond (any w ps o) None (get s.sources o)
unfolding cuts
cuts_at w [] s o = refl
cuts_at w (p ∷ ps) s o =
    cuts_at w ps (after (cut w p) s) o ∙ ap (λ g. cond (any w ps o) None g) (get_cut w p s o) ∙ two_cut (meets w o p) (any w ps o) (get s.sources o)

source : Wiring → List Pair → ℕ → Option ℕ
source w ps o = get (switch_of w ps).sources o

find_two : (i r : ℕ) (es : List (ℕ × ℕ)) (o : ℕ) → find nat_cmp o ((i, r) ∷ (r, i) ∷ es) ≡ cond (o == i || o == r) (Some (cond (o == i) r i))
    (find nat_cmp o es)
find_two i r es o =
    ap₂ (λ a b. cond a (Some r) (cond b (Some i) (find nat_cmp o es))) (unsigned_tied o i) (unsigned_tied o r)
    ∙ two (eqb o i) (eqb o r) r i (find nat_cmp o es)

find_ends : (w : Wiring) (p : Pair) (es : List (ℕ × ℕ)) (o : ℕ) → find nat_cmp o (ends w p ++ es) ≡ cond (meets w o p) (Some (partner w p o))
    (find nat_cmp o es)
find_ends Both p es o = find_two p.initiator (JOINED_MODULES + p.responder) es o
find_ends (Board b) p es o = find_two (link0_on b p.initiator) (link3_on b p.responder) es o
find_ends Forth p es o = ap (λ a. cond a (Some p.initiator) (find nat_cmp o es)) (unsigned_tied o p.responder)
find_ends Back p es o = ap (λ a. cond a (Some p.responder) (find nat_cmp o es)) (unsigned_tied o p.initiator)

source_more : (w : Wiring) (p : Pair) (ps : List Pair) (o : ℕ) → source w (p ∷ ps) o ≡ cond (meets w o p) (Some (partner w p o)) (source w ps o)
unfolding source
source_more w p ps o =
    get-from_entries nat_cmp_total (flat_map (ends w) (p ∷ ps)) o ∙ find_ends w p (flat_map (ends w) ps) o
    ∙ ap (λ g. cond (meets w o p) (Some (partner w p o)) g) (sym (get-from_entries nat_cmp_total (flat_map (ends w) ps) o))

source_none : (w : Wiring) (ps : List Pair) (o : ℕ) → any w ps o ≡ false → source w ps o ≡ None
unfolding source
source_none w [] o e = get-empty nat_cmp o
source_none w (p ∷ ps) o e =
    source_more w p ps o ∙ ap (λ b. cond b (Some (partner w p o)) (source w ps o)) (or_left (meets w o p) (any w ps o) e)
    ∙ source_none w ps o (or_right (meets w o p) (any w ps o) e)

source_own : (w : Wiring) (ps : List Pair) (o : ℕ) (p : Pair) → ArePairs (room_of w) ps → In p ps → meets w o p ≡ true → source w ps o ≡ Some (partner w p o)
source_own w [] o p a i m = absurd i
source_own w (x ∷ xs) o p a i m = elim i [
  | inl e ↦ source_more w x xs o ∙ ap (λ (q : Pair). cond (meets w o q) (Some (partner w q o)) (source w xs o)) e
      ∙ ap (λ b. cond b (Some (partner w p o)) (source w xs o)) m
  | inr k ↦ elim (true_or_false (meets w o x)) [
    | inl t ↦ absurd (apart w x p xs o a k t m)
    | inr f ↦ source_more w x xs o ∙ ap (λ b. cond b (Some (partner w x o)) (source w xs o)) f ∙ source_own w xs o p a.4 k m
  ]
]

-- membership and its test
has : List Pair → Pair → Bool
has others pair = list_any (is_pair pair) others

same_pair : (p q : Pair) → is_pair p q ≡ true → q ≡ p
same_pair p q e =
    let a : q.initiator ≡ p.initiator = grind arith in
    let b : q.responder ≡ p.responder = grind arith in
    let pair : ℕ → ℕ → Pair = λ x y. record { initiator = x; responder = y } in
    ap₂ pair a b

pair_itself : (p q : Pair) → q ≡ p → is_pair p q ≡ true
pair_itself p q e =
    ap₂ (λ x y. x && y) (eqb_yes p.initiator q.initiator (ap (λ (x : Pair). x.initiator) (sym e)))
    (eqb_yes p.responder q.responder (ap (λ (x : Pair). x.responder) (sym e)))

in_has : (ps : List Pair) (p : Pair) → In p ps → has ps p ≡ true
unfolding has
in_has [] p i = absurd i
in_has (q ∷ qs) p i = elim i [
  | inl e ↦ or_true_left _ (has qs p) (pair_itself p q e)
  | inr k ↦ or_true_right _ (has qs p) (in_has qs p k)
]

has_in : (ps : List Pair) (p : Pair) → has ps p ≡ true → In p ps
unfolding has
has_in [] p e = absurd cc
has_in (q ∷ qs) p e = elim (or_cases (is_pair p q) (has qs p) e) [
  | inl h ↦ inl (same_pair p q h)
  | inr h ↦ inr (has_in qs p h)
]

keep : (b : Bool) (x : Pair) (xs : List Pair) (p : Pair) → In p (cond b (x ∷ xs) xs) → ((x ≡ p) × (b ≡ true)) ⊎ In p xs
keep true x xs p i = elim i [ inl e ↦ inl (e, refl) | inr k ↦ inr k ]
keep false x xs p i = inr i

keeps : (b : Bool) (x : Pair) (xs : List Pair) (p : Pair) → In p xs → In p (cond b (x ∷ xs) xs)
keeps true x xs p i = inr i
keeps false x xs p i = i

not_true : (b : Bool) → not b ≡ true → b ≡ false
not_true true e = sym e
not_true false e = refl

in_without : (others ps : List Pair) (p : Pair) → In p (without others ps) → In p ps × (has others p ≡ false)
unfolding has
in_without others [] p i = absurd i
in_without others (x ∷ xs) p i = elim (keep (not (has others x)) x (without others xs) p i) [
  | inl e ↦ (inl e.0, ap (has others) (sym e.0) ∙ not_true (has others x) e.1)
  | inr k ↦ let r = in_without others xs p k in (inr r.0, r.1)
]

without_in : (others ps : List Pair) (p : Pair) → In p ps → has others p ≡ false → In p (without others ps)
unfolding has
without_in others [] p i f = absurd i
without_in others (x ∷ xs) p i f = elim i [
  | inl e ↦ subst (λ b. In p (cond (not b) (x ∷ without others xs) (without others xs))) (sym (ap (has others) e ∙ f)) (inl e)
  | inr k ↦ keeps (not (has others x)) x (without others xs) p (without_in others xs p k f)
]

-- the outputs after the cuts and the joins are those of the new pairs
changed : (w : Wiring) (old new : List Pair) → ArePairs (room_of w) old → ArePairs (room_of w) new → (o : ℕ)
    → get (joins w (without old new) (cuts w (without new old) (switch_of w old))).sources o ≡ source w new o
unfolding source
changed w old new a b o =
    let come = without old new in
    let gone = without new old in
    let mid = cuts w gone (switch_of w old) in
    elim (true_or_false (any w new o)) [
      | inl t ↦
          let who = witness w new o t in
          let p = who.0 in
          elim (true_or_false (has old p)) [
            | inl h ↦
                let in_old = has_in old p h in
                let no_come : any w come o ≡ false = elim (true_or_false (any w come o)) [
                  | inl x ↦ let v = witness w come o x in let r = in_without old new v.0 v.1 in let e = unique w new v.0 p o b r.0 who.1 v.2 who.2 in
                      let f = sym r.1 ∙ ap (has old) e ∙ h in absurd cc
                  | inr x ↦ x
                ] in
                let no_gone : any w gone o ≡ false = elim (true_or_false (any w gone o)) [
                  | inl x ↦ let v = witness w gone o x in let r = in_without new old v.0 v.1 in let e = unique w old v.0 p o a r.0 in_old v.2 who.2 in
                      let f = sym r.1 ∙ ap (has new) e ∙ in_has new p who.1 in absurd cc
                  | inr x ↦ x
                ] in
                joins_other w come mid o no_come ∙ cuts_at w gone (switch_of w old) o ∙ ap (λ c. cond c None (source w old o)) no_gone
                ∙ source_own w old o p a in_old who.2 ∙ sym (source_own w new o p b who.1 who.2)
            | inr h ↦
                joins_own w come mid o p (without_in old new p who.1 h) who.2
                (λ q k n. unique w new q p o b (in_without old new q k).0 who.1 n who.2)
                ∙ sym (source_own w new o p b who.1 who.2)
          ]
      | inr f ↦
          let no_come = none_of w come new o (λ q k. (in_without old new q k).0) f in
          let none_left : cond (any w gone o) None (source w old o) ≡ None = elim (true_or_false (any w gone o)) [
            | inl x ↦ ap (λ c. cond c None (source w old o)) x
            | inr x ↦ ap (λ c. cond c None (source w old o)) x ∙ source_none w old o (elim (true_or_false (any w old o)) [
              | inl y ↦ let v = witness w old o y in elim (true_or_false (has new v.0)) [
                | inl z ↦ let u = any_in w new o v.0 (has_in new v.0 z) v.2 in absurd cc
                | inr z ↦ let u = any_in w gone o v.0 (without_in new old v.0 v.1 z) v.2 in absurd cc
              ]
              | inr y ↦ y
            ])
          ] in
          joins_other w come mid o no_come ∙ cuts_at w gone (switch_of w old) o ∙ none_left ∙ sym (source_none w new o f)
    ]

-- the outputs after a reset and the joins are those of the pairs
set_afresh : (w : Wiring) (ps : List Pair) → ArePairs (room_of w) ps → (o : ℕ) → get (joins w ps idle).sources o ≡ source w ps o
set_afresh w ps a o = elim (true_or_false (any w ps o)) [
  | inl t ↦ let who = witness w ps o t in joins_own w ps idle o who.0 who.1 who.2 (λ q k n. unique w ps q who.0 o a k who.1 n who.2)
      ∙ sym (source_own w ps o who.0 a who.1 who.2)
  | inr f ↦ joins_other w ps idle o f ∙ get-empty nat_cmp o ∙ sym (source_none w ps o f)
]

-- the law of a change
pub change_law : (w : Wiring) (old new : List Pair) → ArePairs (room_of w) old → ArePairs (room_of w) new → after_all (change w old new) (switch_of w old)
    ≡ switch_of w new
unfolding joins cuts source
change_law w old new a b =
    after_all-append (map (cut w) (without new old)) (map (join w) (without old new) ++ Settle ∷ []) (switch_of w old)
    ∙ after_all-append (map (join w) (without old new)) (Settle ∷ []) (cuts w (without new old) (switch_of w old))
    ∙ ap (λ (m : Sources). record { sources = m; ready = true }) (same_sources _ _ (changed w old new a b))

-- the law of a first setting
pub setting_law : (w : Wiring) (s : Switch) (pairs : List Pair) → ArePairs (room_of w) pairs → after_all (setting w pairs) s ≡ switch_of w pairs
unfolding joins source
setting_law w s pairs a =
    after_all-append (map (join w) pairs) (Settle ∷ []) idle
    ∙ ap (λ (m : Sources). record { sources = m; ready = true }) (same_sources _ _ (set_afresh w pairs a))

-- ---- links that no module is on

pub without_none : (ps : List Pair) → without [] ps ≡ ps
without_none [] = refl
without_none (p ∷ ps) = ap (λ t. p ∷ t) (without_none ps)
