-- Lists of numbers, whatever they count: for the proofs of this crate and of those above it.
use Rattle.std.proofs.Common.{◌≡◌, ◌≢◌, ℕ, zero, suc, ◌+◌, ◌<◌, ◌⊎◌, inl, inr, cond, List, [], ◌∷◌, ◌++◌, length, map, get_or, set, take, refl, sym, ap, ◌∙◌, arith}
use Rattle.std.specs.Prelude.{Contains, count_by, sum_by, ◌==◌}
use Rattle.std.specs.List.{concat, flat_map, range_with_len}
use Rattle.std.specs.Global.{Vec}
use Rattle.std.proofs.lemmas.Bool.Decides.{eqb_tells}
use Rattle.std.proofs.lemmas.List.{append-nil, flat_map_more, map-set, map_push, take_more, get_or-map}
use Rattle.std.proofs.lemmas.List.Folds.{concat-append}
use Rattle.std.proofs.lemmas.List.FromFn.{map-range_with_len_more}
use Rattle.std.proofs.lemmas.List.Sums.{sum_by-set, sum_by_push}
use mathlib.Core.List.{map-id}

-- what stands in a list is its first, or stands after it
pub at_cons : {X : Type 0} (x t : X) (xs : List X) → Contains (x ∷ xs) t → (x ≡ t) ⊎ Contains xs t
at_cons x t xs (zero, lt, at) = inl at
at_cons x t xs (suc k, lt, at) = inr (k, omega arith, at)

-- one list more of those that are joined
pub concat_more : (lists : List (List ℕ)) (k : ℕ) → k < length lists → concat (take (k + 1) lists) ≡ concat (take k lists) ++ get_or lists k []
concat_more lists k lt =
    ap concat (take_more lists k [] lt) ∙ concat-append (take k lists) (get_or lists k [] ∷ []) ∙ ap (λ (xs : List ℕ). concat (take k lists) ++ xs)
    (append-nil (get_or lists k []))

-- ---- lists of numbered parts, one after the other

-- one number more
pub range_more : (n : ℕ) → range_with_len 0 (n + 1) ≡ range_with_len 0 n ++ n ∷ []
range_more n = sym (map-id (range_with_len 0 (n + 1))) ∙ map-range_with_len_more (λ (k : ℕ). k) 0 n n (omega arith) ∙ ap (λ (xs : List ℕ). xs ++ n ∷ [])
    (map-id (range_with_len 0 n))

-- one part more
pub more_parts : (f : ℕ → List ℕ) (before : List ℕ) (i : ℕ) → (before ++ flat_map f (range_with_len 0 i)) ++ f i ≡ before
    ++ flat_map f (range_with_len 0 (i + 1))
more_parts f before i = flat_map_more f before (range_with_len 0 i) i ∙ ap (λ (x : List ℕ). before ++ flat_map f x) (sym (range_more i))

-- ---- how often a number stands, after one was put at an end

-- how often u stands in t alone
abbrev pub one : ℕ → ℕ → ℕ
one u t = cond (t == u) 1 0

pub one_same : (u t : ℕ) → u ≡ t → one u t ≡ 1
one_same u t e = elim (eqb_tells t u) [ inl p ↦ rw p.0 refl | inr p ↦ absurd (p.1 (sym e)) ]

pub one_other : (u t : ℕ) → u ≢ t → one u t ≡ 0
one_other u t ne = elim (eqb_tells t u) [ inl p ↦ absurd (ne (sym p.1)) | inr p ↦ rw p.0 refl ]

-- how often u stands in a list, and in all lists of a list
abbrev pub count_of : ℕ → List ℕ → ℕ
count_of u xs = count_by (λ x. x == u) xs

abbrev pub count_in : ℕ → List (List ℕ) → ℕ
count_in u lists = sum_by (λ xs. count_of u xs) lists

pub count_push : (u t : ℕ) (xs : List ℕ) → count_of u (xs ++ t ∷ []) ≡ count_of u xs + one u t
count_push u t xs = sum_by_push (λ x. cond (x == u) 1 0) xs t

pub times_into : (u t k : ℕ) (lists : List (List ℕ)) → k < length lists → count_in u (set lists k (get_or lists k [] ++ t ∷ [])) ≡ count_in u lists + one u t
times_into u t k lists lt =
    let changed = sum_by-set (λ xs. count_of u xs) lists k (get_or lists k [] ++ t ∷ []) [] lt in
    omega (arith, changed, count_push u t (get_or lists k []))

pub times_alone : (u t : ℕ) (lists : List (List ℕ)) → count_in u (lists ++ (t ∷ []) ∷ []) ≡ count_in u lists + one u t
times_alone u t lists =
    let pushed : count_in u (lists ++ (t ∷ []) ∷ []) ≡ count_in u lists + count_of u (t ∷ []) = sum_by_push (λ xs. count_of u xs) lists (t ∷ []) in
    let single : count_of u (t ∷ []) ≡ count_of u [] + one u t = count_push u t [] in
    omega arith

-- ---- lists as they lie in memory

abbrev pub items_of : List (Vec ℕ) → List (List ℕ)
items_of lists = map (λ v. v.items) lists

pub list_at : (lists : List (Vec ℕ)) (k : ℕ) (v : Vec ℕ) → k < length lists → v ≡ get_or lists k v → get_or (items_of lists) k [] ≡ v.items
list_at lists k v lt is = get_or-map (λ w. w.items) lists k v [] lt ∙ ap (λ (w : Vec ℕ). w.items) (sym is)

-- one number more at the end of a list
pub pushed_into : (lists : List (Vec ℕ)) (k t : ℕ) (v w : Vec ℕ) → k < length lists → v ≡ get_or lists k v → w.items ≡ v.items ++ t ∷ []
    → items_of (set lists k w) ≡ set (items_of lists) k (get_or (items_of lists) k [] ++ t ∷ [])
pushed_into lists k t v w lt is pushed =
    map-set (λ x. x.items) lists k w ∙ ap (λ (xs : List ℕ). set (items_of lists) k xs)
    (pushed ∙ ap (λ (xs : List ℕ). xs ++ t ∷ []) (sym (list_at lists k v lt is)))

-- one list more, of one number
pub pushed_alone : (lists all : List (Vec ℕ)) (t : ℕ) (v : Vec ℕ) → all ≡ lists ++ v ∷ [] → v.items ≡ t ∷ [] → items_of all ≡ items_of lists ++ (t ∷ []) ∷ []
pushed_alone lists all t v pushed is = ap items_of pushed ∙ map_push (λ x. x.items) lists v ∙ ap (λ (xs : List ℕ). items_of lists ++ xs ∷ []) is
