-- What stands in lists that are made of others.
use Rattle.std.proofs.Common.{ℕ, Bool, true, false, cond, ◌≡◌, ◌<◌, List, [], ◌∷◌, length, map, get_or, refl, sym, ap, ◌∙◌, subst, arith, inl, inr}
use Rattle.std.specs.Prelude.{Contains, filter}
use Rattle.std.specs.List.{flat_map, list_any, range_with_len}
use Rattle.std.proofs.lemmas.Bool.{false≢true, false_from_ne_true}
use Rattle.std.proofs.lemmas.List.{get_or-map, length-map}
use Rattle.std.proofs.lemmas.List.Elements.{All-contains, All-contains_itself, All-filter, All-map, Contains-append_cases, Contains-append_left, Contains-append_right, Contains-get_or, filter_passes}
use Rattle.std.proofs.lemmas.List.Folds.{Any-from_list_any, list_any-from_Any}
use Rattle.std.proofs.lemmas.List.FromFn.{get_or-range_with_len, length-range_with_len}
use Rattle.batch.proofs.Lists.{at_cons}

here : {X : Type 0} (x y : X) (xs : List X) → x ≡ y → Contains (x ∷ xs) y
here x y xs e = (0, omega arith, e)

there : {X : Type 0} (x y : X) (xs : List X) → Contains xs y → Contains (x ∷ xs) y
there x y xs c = Contains-append_right (x ∷ []) xs y c

pub in_filter : {X : Type 0} (p : X → Bool) (xs : List X) (x : X) → Contains (filter p xs) x → Contains xs x × (p x ≡ true)
in_filter p xs x c = (
  All-contains (Contains xs) (filter p xs) x (All-filter p (Contains xs) xs (All-contains_itself xs)) c,
  All-contains (λ y. p y ≡ true) (filter p xs) x (filter_passes p xs) c,
)

pub to_filter : {X : Type 0} (p : X → Bool) (xs : List X) (x : X) → Contains xs x → p x ≡ true → Contains (filter p xs) x
to_filter p [] x c up = absurd (omega (arith, c.1))
to_filter {X} p (y ∷ ys) x c up = elim (p y) as (λ b. p y ≡ b → Contains (cond b (y ∷ filter p ys) (filter p ys)) x) [
  | true ↦ λ _. elim (at_cons y x ys c) [ inl s ↦ here y x (filter p ys) s | inr d ↦ there y x (filter p ys) (to_filter p ys x d up) ]
  | false ↦ λ e. elim (at_cons y x ys c) [ inl s ↦ absurd (false≢true (sym e ∙ ap p s ∙ up)) | inr d ↦ to_filter p ys x d up ]
] refl

pub in_map : {X Y : Type 0} (f : X → Y) (xs : List X) (y : Y) → Contains (map f xs) y → (x : X) × Contains xs x × (f x ≡ y)
in_map {X} f xs y c = All-contains (λ z. (x : X) × Contains xs x × (f x ≡ z)) (map f xs) y
    (All-map (λ z. (x : X) × Contains xs x × (f x ≡ z)) f xs (λ k d l. (get_or xs k d, Contains-get_or xs k d l, refl))) c

pub to_map : {X Y : Type 0} (f : X → Y) (xs : List X) (x : X) → Contains xs x → Contains (map f xs) (f x)
to_map f xs x c = (c.0, omega (arith, c.1, length-map xs f), get_or-map f xs c.0 x (f x) c.1 ∙ ap f c.2)

pub in_flat_map : {X Y : Type 0} (f : X → List Y) (xs : List X) (y : Y) → Contains (flat_map f xs) y → (x : X) × Contains xs x × Contains (f x) y
in_flat_map f [] y c = absurd (omega (arith, c.1))
in_flat_map f (x ∷ xs) y c = elim (Contains-append_cases (f x) (flat_map f xs) y c) [
  | inl a ↦ (x, here x x xs refl, a)
  | inr d ↦ let r = in_flat_map f xs y d in (r.0, there x r.0 xs r.1, r.2)
]

pub to_flat_map : {X Y : Type 0} (f : X → List Y) (xs : List X) (x : X) (y : Y) → Contains xs x → Contains (f x) y → Contains (flat_map f xs) y
to_flat_map f [] x y c d = absurd (omega (arith, c.1))
to_flat_map f (z ∷ zs) x y c d = elim (at_cons z x zs c) [
  | inl s ↦ Contains-append_left (f z) (flat_map f zs) y (subst (λ w. Contains (f w) y) (sym s) d)
  | inr e ↦ Contains-append_right (f z) (flat_map f zs) y (to_flat_map f zs x y e d)
]

pub in_range : (n m : ℕ) → Contains (range_with_len 0 n) m → m < n
in_range n m c = omega (arith, c.1, length-range_with_len 0 n, sym (get_or-range_with_len 0 n c.0 m (omega (arith, c.1, length-range_with_len 0 n))) ∙ c.2)

pub to_range : (n m : ℕ) → m < n → Contains (range_with_len 0 n) m
to_range n m l = (m, omega (arith, length-range_with_len 0 n), get_or-range_with_len 0 n m m l ∙ omega arith)

-- an element that passes
pub any_from : {X : Type 0} (p : X → Bool) (xs : List X) (x : X) → Contains xs x → p x ≡ true → list_any p xs ≡ true
any_from p xs x c up = list_any-from_Any p xs (c.0, x, c.1, c.2, up)

-- the element that passes
pub in_any : {X : Type 0} (p : X → Bool) (xs : List X) → list_any p xs ≡ true → (x : X) × Contains xs x × (p x ≡ true)
in_any p xs up = let a = Any-from_list_any p xs up in (a.1, (a.0, a.2, a.3), a.4)

-- none passes
pub none_from : {X : Type 0} (p : X → Bool) (xs : List X) (x : X) → list_any p xs ≡ false → Contains xs x → p x ≡ false
none_from p xs x none c = false_from_ne_true (p x) (λ up. false≢true (sym none ∙ any_from p xs x c up))
