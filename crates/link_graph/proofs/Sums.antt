-- Sums over lists and over numbers below one.
use Rattle.std.proofs.Common.{◌≡◌, ◌≢◌, ℕ, ◌+◌, ◌≤◌, suc, List, [], ◌∷◌, length, refl, sym, arith, zero, ◌<◌, Bool, cond, ap}
use Rattle.std.specs.Prelude.{sum_by, AllPairs, All}
use Rattle.batch.proofs.Lists.{one_same, one_other}
pub use Rattle.batch.proofs.Lists.{one as hit}
use Rattle.std.specs.List.{AllByRecursion}
use Rattle.std.proofs.lemmas.List.Sums.{sum_by-cons}
use Rattle.link_graph.specs.Counts.{count_below}

pub sum_zero : {B : Type 0} (ys : List B) → sum_by (λ (b : B). 0) ys ≡ 0
sum_zero [] = refl
sum_zero {B} (y ∷ ys) = omega (arith, sum_by-cons (λ (b : B). 0) y ys, sum_zero ys)

pub sum_add : {B : Type 0} (g h : B → ℕ) (ys : List B) → sum_by (λ b. g b + h b) ys ≡ sum_by g ys + sum_by h ys
sum_add g h [] = refl
sum_add g h (y ∷ ys) = omega (arith, sum_by-cons (λ b. g b + h b) y ys, sum_by-cons g y ys, sum_by-cons h y ys, sum_add g h ys)

pub sum_same : {B : Type 0} (g h : B → ℕ) (ys : List B) → ((b : B) → g b ≡ h b) → sum_by g ys ≡ sum_by h ys
sum_same g h [] e = refl
sum_same g h (y ∷ ys) e = omega (arith, sum_by-cons g y ys, sum_by-cons h y ys, e y, sum_same g h ys e)

pub swap : {A B : Type 0} (f : A → B → ℕ) (xs : List A) (ys : List B) → sum_by (λ a. sum_by (f a) ys) xs ≡ sum_by (λ b. sum_by (λ a. f a b) xs) ys
swap f [] ys = sym (sum_zero ys)
swap f (x ∷ xs) ys =
    let split = sum_same (λ b. sum_by (λ a. f a b) (x ∷ xs)) (λ b. f x b + sum_by (λ a. f a b) xs) ys (λ b. sum_by-cons (λ a. f a b) x xs) in
    omega (arith, sum_by-cons (λ a. sum_by (f a) ys) x xs, swap f xs ys, sum_add (f x) (λ b. sum_by (λ a. f a b) xs) ys, split)

pub sum_at_most : {B : Type 0} (f : B → ℕ) (ys : List B) → AllByRecursion (λ b. f b ≤ 1) ys → sum_by f ys ≤ length ys
sum_at_most f [] h = omega arith
sum_at_most f (y ∷ ys) h = omega (arith, sum_by-cons f y ys, h.0, sum_at_most f ys h.1)

pub sum_ones : {B : Type 0} (f : B → ℕ) (ys : List B) → AllByRecursion (λ b. f b ≡ 1) ys → sum_by f ys ≡ length ys
sum_ones f [] h = refl
sum_ones f (y ∷ ys) h = omega (arith, sum_by-cons f y ys, h.0, sum_ones f ys h.1)

pub sum_zeros : {B : Type 0} (f : B → ℕ) (ys : List B) → AllByRecursion (λ b. f b ≡ 0) ys → sum_by f ys ≡ 0
sum_zeros f [] h = refl
sum_zeros f (y ∷ ys) h = omega (arith, sum_by-cons f y ys, h.0, sum_zeros f ys h.1)

-- ---- pairs of places, by recursion on the list

pub later : {X : Type 0} (R : X → X → Type 0) (x : X) (xs : List X) → AllPairs R (x ∷ xs) → AllPairs R xs
later R x xs h i j d less within = h (suc i) (suc j) d (omega arith) (omega arith)

pub first_with : {X : Type 0} (R : X → X → Type 0) (x : X) (xs : List X) → AllPairs R (x ∷ xs) → All (R x) xs
first_with R x xs h k d within = h 0 (suc k) d (omega arith) (omega arith)

pub each : {X : Type 0} (P Q : X → Type 0) → ((x : X) → P x → Q x) → (xs : List X) → AllByRecursion P xs → AllByRecursion Q xs
each P Q f [] h = tt
each P Q f (x ∷ xs) h = (f x h.0, each P Q f xs h.1)

-- ---- a number in a list

-- `hit t u` is 1 where the two numbers are one, and else 0
pub hit_same : (t u : ℕ) → u ≡ t → hit t u ≡ 1
hit_same t u e = one_same t u (sym e)

pub hit_other : (t u : ℕ) → u ≢ t → hit t u ≡ 0
hit_other t u ne = one_other t u (λ e. ne (sym e))

-- ---- sums and counts below a number

abbrev pub sum_below : ℕ → (ℕ → ℕ) → ℕ
sum_below zero f = 0
sum_below (suc n) f = f n + sum_below n f

pub sum_below-add : (n : ℕ) (f g : ℕ → ℕ) → sum_below n (λ i. f i + g i) ≡ sum_below n f + sum_below n g
sum_below-add zero f g = refl
sum_below-add (suc n) f g = omega (arith, sum_below-add n f g)

pub sum_below_none : (n : ℕ) → sum_below n (λ i. 0) ≡ 0
sum_below_none zero = refl
sum_below_none (suc n) = omega (arith, sum_below_none n)

pub count_below_same : (n : ℕ) (p q : ℕ → Bool) → ((i : ℕ) → i < n → p i ≡ q i) → count_below n p ≡ count_below n q
count_below_same zero p q same = refl
count_below_same (suc n) p q same = rw (same n (omega arith)) (ap (λ m. cond (q n) 1 0 + m) (count_below_same n p q (λ i h. same i (omega arith))))
