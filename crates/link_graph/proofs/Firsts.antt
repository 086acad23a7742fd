-- The first of a list, found place by place, setting by setting.
use Rattle.std.proofs.Common.{◌≡◌, ◌≢◌, ℕ, ◌+◌, ◌<◌, ◌≤◌, List, [], ◌∷◌, ◌++◌, length, get_or, set, take, drop, Bool, true, false, All, Some, None, refl, sym, ap, subst, ◌∙◌, append_assoc, arith, inl}
use Rattle.std.proofs.Common.{inr}
use Rattle.std.specs.Prelude.{Contains, replicate, position, not}
use Rattle.std.specs.List.{concat, position_or_len}
use Rattle.std.specs.Global.{Vec}
use Rattle.std.proofs.lemmas.Bool.{cases_lt, lt-ltb}
use Rattle.std.proofs.lemmas.Bool.Decides.{eqb_tells}
use Rattle.std.proofs.lemmas.List.{take_all, take-append-drop, drop_more, take_more, get_or_append_left, get_or-append-add, get_or-set_same, get_or-set_other, get_or-replicate, length-map}
use Rattle.std.proofs.lemmas.List.{length-append, length-set, length-replicate}
use Rattle.std.proofs.lemmas.List.Elements.{All-append, Contains-append_left, Contains-push, Contains-push_cases, Contains-get_or}
use Rattle.std.proofs.lemmas.List.Folds.{concat-append}
use Rattle.std.proofs.lemmas.List.Quantifiers.{all_pairs_push, position-Some}
use Rattle.std.proofs.lemmas.List.Sums.{fails_before_first}
use Rattle.batch.proofs.Lists.{concat_more, list_at}
use Rattle.link_graph.specs.Schedules.{lists_of}
use Rattle.link_graph.specs.Certificates.{AreDistinct}
use Rattle.link_graph.specs.Checks.{IsFirstWithout, IsFirstRepeated, IsFirstMissing}
use Rattle.link_graph.specs.Marks.{AreMarks}

-- ---- parts of a list

cut : (xs : List ℕ) (i d : ℕ) → i < length xs → xs ≡ take i xs ++ get_or xs i d ∷ drop (i + 1) xs
cut xs i d lt = sym (take-append-drop i xs) ∙ ap (λ (ys : List ℕ). take i xs ++ ys) (drop_more xs i d lt)

behind : (front before after rest : List ℕ) (x : ℕ) → front ++ ((before ++ x ∷ after) ++ rest) ≡ (front ++ before) ++ x ∷ (after ++ rest)
behind front before after rest x = ap (λ (ys : List ℕ). front ++ ys) (append_assoc before (x ∷ after) rest)
    ∙ sym (append_assoc front before (x ∷ (after ++ rest)))

pub all_left : (P : ℕ → Type 0) (a b : List ℕ) → All P (a ++ b) → All P a
all_left P a b h k d lt = subst P (get_or_append_left a b d k lt) (h k d (omega (arith, length-append a b)))

pub all_right : (P : ℕ → Type 0) (a b : List ℕ) → All P (a ++ b) → All P b
all_right P a b h k d lt = subst P (get_or-append-add a b k d) (h (length a + k) d (omega (arith, length-append a b)))

-- ---- settings, one after the other

pub concat_at : (settings : List (List ℕ)) (k : ℕ) → k < length settings → concat settings ≡ concat (take k settings)
    ++ (get_or settings k [] ++ concat (drop (k + 1) settings))
concat_at settings k lt =
    ap concat (sym (take-append-drop k settings)) ∙ concat-append (take k settings) (drop k settings)
    ∙ ap (λ (ys : List (List ℕ)). concat (take k settings) ++ concat ys) (drop_more settings k [] lt)

-- ---- the first without

pub without_at : (P : ℕ → Type 0) (xs : List ℕ) (i d : ℕ) → i < length xs → All P (take i xs) → (P (get_or xs i d) → ⊥) → IsFirstWithout P xs (get_or xs i d)
without_at P xs i d lt good bad = record { before = take i xs; after = drop (i + 1) xs; parts = cut xs i d lt; good = good; bad = bad }

pub without_in : (P : ℕ → Type 0) (settings : List (List ℕ)) (k x : ℕ) → k < length settings → All P (concat (take k settings))
    → IsFirstWithout P (get_or settings k []) x → IsFirstWithout P (concat settings) x
without_in P settings k x lt good w = record {
  before = concat (take k settings) ++ w.before;
  after = w.after ++ concat (drop (k + 1) settings);
  parts = concat_at settings k lt ∙ ap (λ (ys : List ℕ). concat (take k settings) ++ (ys ++ concat (drop (k + 1) settings))) w.parts
      ∙ behind (concat (take k settings)) w.before w.after (concat (drop (k + 1) settings)) x;
  good = All-append P (concat (take k settings)) w.before good w.good;
  bad = w.bad;
}

pub in_all : (P : ℕ → Type 0) (settings : List (List ℕ)) (k : ℕ) → k < length settings → All P (concat settings) → All P (get_or settings k [])
in_all P settings k lt all =
    all_left P (get_or settings k []) (concat (drop (k + 1) settings))
    (all_right P (concat (take k settings)) (get_or settings k [] ++ concat (drop (k + 1) settings))
    (subst (λ (ys : List ℕ). All P ys) (concat_at settings k lt) all))

-- ---- the first that passes a test

pub none_passes : {X : Type 0} (p : X → Bool) (xs : List X) (k : ℕ) (d : X) → position p xs ≡ None → k < length xs → p (get_or xs k d) ≡ false
none_passes p xs k d none less =
    elim (cases_lt (position_or_len p xs) (length xs)) [
      | inl found ↦ let some : position p xs ≡ Some (position_or_len p xs) = rw (lt-ltb _ _ found) refl in absurd cc
      | inr past ↦ fails_before_first p xs k d (omega arith)
    ]

-- ---- marks

pub no_marks : (n : ℕ) → AreMarks (replicate n false) []
no_marks n = record {
  marked = λ t lt e. let no : get_or (replicate n false) t false ≡ false =
      get_or-replicate n t false false (omega (arith, lt, length-replicate n false)) in absurd (let bad : false ≡ true = sym no ∙ e in cc);
  unmarked = λ t lt e c. absurd (omega (arith, c.1));
}

pub marks_more : (marks : List Bool) (xs : List ℕ) (t : ℕ) → t < length marks → AreMarks marks xs → AreMarks (set marks t true) (xs ++ t ∷ [])
marks_more marks xs t lt m = record {
  marked = λ u within e. elim (eqb_tells u t) [
    | inl p ↦ subst (λ (v : ℕ). Contains (xs ++ t ∷ []) v) (sym p.1) (Contains-push xs t)
    | inr p ↦ Contains-append_left xs (t ∷ []) u (m.marked u (omega (arith, within, length-set marks t true)) (sym (get_or-set_other marks t u true false p.1)
        ∙ e))
  ];
  unmarked = λ u within e c. elim (eqb_tells u t) [
    | inl p ↦
        let yes : get_or (set marks t true) u false ≡ true = ap (λ (v : ℕ). get_or (set marks t true) v false) p.1 ∙ get_or-set_same marks t true false lt in
        absurd (let bad : false ≡ true = sym e ∙ yes in cc)
    | inr p ↦ elim (Contains-push_cases xs t u c) [
      | inl inside ↦ m.unmarked u (omega (arith, within, length-set marks t true)) (sym (get_or-set_other marks t u true false p.1) ∙ e) inside
      | inr same ↦ p.1 (sym same)
    ]
  ];
}

is_marked : (mark : Bool) → not mark ≡ false → mark ≡ true
is_marked true e = refl
is_marked false e = sym e

is_unmarked : (mark : Bool) → not mark ≡ true → mark ≡ false
is_unmarked true e = sym e
is_unmarked false e = refl

pub all_marked : (marks : List Bool) (xs : List ℕ) → AreMarks marks xs → position not marks ≡ None → (t : ℕ) → t < length marks → Contains xs t
all_marked marks xs m none t lt = m.marked t lt (is_marked (get_or marks t false) (none_passes not marks t false none lt))

pub missing_at : (marks : List Bool) (xs : List ℕ) (t : ℕ) → AreMarks marks xs → position not marks ≡ Some t → IsFirstMissing (length marks) xs t
missing_at marks xs t m some =
    let p = position-Some not marks t false some in
    record {
      below = p.0;
      missing = m.unmarked t p.0 (is_unmarked (get_or marks t false) p.1);
      lesser = λ u less. m.marked u (omega (arith, p.0)) (is_marked (get_or marks u false) (p.2 u less));
    }

pub distinct_more : (xs : List ℕ) (t : ℕ) → (Contains xs t → ⊥) → AreDistinct xs → AreDistinct (xs ++ t ∷ [])
distinct_more xs t new distinct = all_pairs_push (λ a b. a ≢ b) xs t distinct
    (λ k d lt same. new (subst (λ (v : ℕ). Contains xs v) same (Contains-get_or xs k d lt)))

-- what a loop over a list has marked, from what was marked before it
pub record Marking (old new : List Bool) (list : List ℕ) : Type 0 where
  pub size : length new ≡ length old
  pub marks : (before : List ℕ) → AreMarks old before → AreMarks new (before ++ list)
  pub distinct : (before : List ℕ) → AreMarks old before → AreDistinct before → AreDistinct (before ++ list)

pub marking_more : (old new : List Bool) (list : List ℕ) (i d : ℕ) → i < length list → get_or list i d < length old → get_or new (get_or list i d) false ≡ false
    → Marking old new (take i list) → Marking old (set new (get_or list i d) true) (take (i + 1) list)
marking_more old new list i d lt within unmarked m =
    let t : ℕ = get_or list i d in
    let inside : t < length new = omega (arith, m.size) in
    let longer = λ (before : List ℕ). append_assoc before (take i list) (t ∷ []) ∙ ap (λ (ys : List ℕ). before ++ ys) (sym (take_more list i d lt)) in
    record {
      size = length-set new t true ∙ m.size;
      marks = λ before b. subst (λ (ys : List ℕ). AreMarks (set new t true) ys) (longer before)
          (marks_more new (before ++ take i list) t inside (m.marks before b));
      distinct = λ before b e. subst (λ (ys : List ℕ). AreDistinct ys) (longer before)
          (distinct_more (before ++ take i list) t ((m.marks before b).unmarked t inside unmarked) (m.distinct before b e));
    }

pub repeated_at : (old new : List Bool) (list : List ℕ) (i d : ℕ) → i < length list → get_or list i d < length old → get_or new (get_or list i d) false ≡ true
    → Marking old new (take i list) → (before rest : List ℕ) → AreMarks old before → AreDistinct before → IsFirstRepeated (before ++ (list ++ rest))
    (get_or list i d)
repeated_at old new list i d lt within was_marked m before rest b e = record {
  before = before ++ take i list;
  after = drop (i + 1) list ++ rest;
  parts = ap (λ (ys : List ℕ). before ++ (ys ++ rest)) (cut list i d lt) ∙ behind before (take i list) (drop (i + 1) list) rest (get_or list i d);
  distinct = m.distinct before b e;
  again = (m.marks before b).marked (get_or list i d) (omega (arith, m.size)) was_marked;
}

-- ---- the end of a loop

pub all_of : {X : Type 0} (P : X → Type 0) (xs : List X) (i : ℕ) → length xs ≤ i → All P (take i xs) → All P xs
all_of P xs i le all = subst (λ ys. All P ys) (take_all i xs le) all

-- ---- settings as they lie in memory

pub at_list : (lists : List (Vec ℕ)) (k : ℕ) (v : Vec ℕ) (s : List ℕ) → k < length lists → v ≡ get_or lists k v → s ≡ v.items → (k < length (lists_of lists))
    × (get_or (lists_of lists) k [] ≡ s)
at_list lists k v s lt is same = (omega (arith, length-map {A = Vec ℕ} {B = List ℕ} lists (λ (w : Vec ℕ). w.items)), list_at lists k v lt is ∙ sym same)

pub whole_at : (lists : List (Vec ℕ)) (k : ℕ) (v : Vec ℕ) (s : List ℕ) → k < length lists → v ≡ get_or lists k v → s ≡ v.items → concat (lists_of lists)
    ≡ concat (take k (lists_of lists)) ++ (s ++ concat (drop (k + 1) (lists_of lists)))
whole_at lists k v s lt is same =
    let at = at_list lists k v s lt is same in
    concat_at (lists_of lists) k at.0 ∙ ap (λ (ys : List ℕ). concat (take k (lists_of lists)) ++ (ys ++ concat (drop (k + 1) (lists_of lists)))) at.1

pub more_at : (lists : List (Vec ℕ)) (k : ℕ) (v : Vec ℕ) (s : List ℕ) → k < length lists → v ≡ get_or lists k v → s ≡ v.items
    → concat (take (k + 1) (lists_of lists)) ≡ concat (take k (lists_of lists)) ++ s
more_at lists k v s lt is same =
    let at = at_list lists k v s lt is same in
    concat_more (lists_of lists) k at.0 ∙ ap (λ (ys : List ℕ). concat (take k (lists_of lists)) ++ ys) at.1

pub whole_end : (lists : List (Vec ℕ)) (k : ℕ) → length lists ≤ k → take k (lists_of lists) ≡ lists_of lists
whole_end lists k le = take_all k (lists_of lists) (omega (arith, length-map {A = Vec ℕ} {B = List ℕ} lists (λ (w : Vec ℕ). w.items)))

pub found_in : (P : ℕ → Type 0) (lists : List (Vec ℕ)) (k : ℕ) (v : Vec ℕ) (s : List ℕ) (x : ℕ) → k < length lists → v ≡ get_or lists k v → s ≡ v.items
    → All P (concat (take k (lists_of lists))) → IsFirstWithout P s x → IsFirstWithout P (concat (lists_of lists)) x
found_in P lists k v s x lt is same good w =
    let at = at_list lists k v s lt is same in
    without_in P (lists_of lists) k x at.0 good (subst (λ (ys : List ℕ). IsFirstWithout P ys x) (sym at.1) w)

pub passed_in : (P : ℕ → Type 0) (lists : List (Vec ℕ)) (k : ℕ) (v : Vec ℕ) (s : List ℕ) → k < length lists → v ≡ get_or lists k v → s ≡ v.items
    → All P (concat (take k (lists_of lists))) → All P s → All P (concat (take (k + 1) (lists_of lists)))
passed_in P lists k v s lt is same good more = rw (more_at lists k v s lt is same) (All-append P (concat (take k (lists_of lists))) s good more)

pub known_in : (P : ℕ → Type 0) (lists : List (Vec ℕ)) (k : ℕ) (v : Vec ℕ) (s : List ℕ) → k < length lists → v ≡ get_or lists k v → s ≡ v.items
    → All P (concat (lists_of lists)) → All P s
known_in P lists k v s lt is same all =
    let at = at_list lists k v s lt is same in
    subst (λ (ys : List ℕ). All P ys) at.1 (in_all P (lists_of lists) k at.0 all)
