-- Sums of the first values of a function.
use Rattle.std.proofs.Common.{◌≡◌, ◌≢◌, ◌==◌, ℕ, zero, suc, ◌+◌, ◌<◌, ◌≤◌, Bool, true, false, cond, Option, Some, None, refl, sym, ap, ◌∙◌, inl, inr, add-one, arith}
use Rattle.std.proofs.lemmas.Bool.{cases_eq}
use Rattle.std.proofs.lemmas.Bool.Decides.{nat_tests, eqb_tells}
use Rattle.steady_schedule.specs.Waiting.{sum_below}

pub sum_same : (n : ℕ) (f g : ℕ → ℕ) → ((i : ℕ) → i < n → f i ≡ g i) → sum_below n f ≡ sum_below n g
unfolding sum_below
sum_same zero f g same = refl
sum_same (suc n) f g same = omega (arith, same n (omega arith), sum_same n f g (λ i lt. same i (omega arith)))

pub sum_zero : (f : ℕ → ℕ) → sum_below 0 f ≡ 0
unfolding sum_below
sum_zero f = refl

pub sum_more : (n : ℕ) (f : ℕ → ℕ) → sum_below (n + 1) f ≡ sum_below n f + f n
unfolding sum_below
sum_more n f = rw (add-one n) (omega arith)

pub sum_most : (n : ℕ) (f g : ℕ → ℕ) → ((i : ℕ) → i < n → f i ≤ g i) → sum_below n f ≤ sum_below n g
unfolding sum_below
sum_most zero f g less = omega arith
sum_most (suc n) f g less = omega (arith, less n (omega arith), sum_most n f g (λ i lt. less i (omega arith)))

pub sum_less : (n k : ℕ) (f g : ℕ → ℕ) → k < n → ((i : ℕ) → i < n → f i ≤ g i) → f k < g k → sum_below n f < sum_below n g
unfolding sum_below
sum_less zero k f g lt le less = absurd (omega arith)
sum_less (suc n) k f g lt le less = elim (cases_eq k n) [
  | inl e ↦ omega (arith, ap f e, ap g e, less, sum_most n f g (λ i i_in. le i (omega arith)))
  | inr ne ↦ omega (arith, le n (omega arith), sum_less n k f g (omega arith) (λ i i_in. le i (omega arith)) less)
]

pub sum_none : (n : ℕ) → sum_below n (λ i. 0) ≡ 0
unfolding sum_below
sum_none zero = refl
sum_none (suc n) = omega (arith, sum_none n)

pub sum_both : (n : ℕ) (f g : ℕ → ℕ) → sum_below n (λ i. f i + g i) ≡ sum_below n f + sum_below n g
unfolding sum_below
sum_both zero f g = refl
sum_both (suc n) f g = omega (arith, sum_both n f g)

pub sum_swap : (n m : ℕ) (f : ℕ → ℕ → ℕ) → sum_below n (λ i. sum_below m (λ j. f i j)) ≡ sum_below m (λ j. sum_below n (λ i. f i j))
unfolding sum_below
sum_swap zero m f = sym (sum_none m)
sum_swap (suc n) m f = omega (arith, sum_swap n m f, sum_both m (f n) (λ j. sum_below n (λ i. f i j)))

-- the value where a test holds, and else nothing
abbrev pub only : Bool → ℕ → ℕ
only b k = cond b k 0

pub only_few : (b : Bool) (k : ℕ) → only b k ≤ k
only_few true k = omega arith
only_few false k = omega arith

pub split_only : (b : Bool) (x y : ℕ) → only b (x + y) ≡ only b x + only b y
split_only true x y = refl
split_only false x y = refl

pub only_most : (b : Bool) (k most : ℕ) → k ≤ most → only b k ≤ only b most
only_most true k most le = le
only_most false k most le = omega arith

pub sum_only : (n : ℕ) (b : Bool) (f : ℕ → ℕ) → sum_below n (λ i. only b (f i)) ≡ only b (sum_below n f)
sum_only n true f = refl
sum_only n false f = sum_none n

pub at_most_sum : (n k : ℕ) (f : ℕ → ℕ) → k < n → f k ≤ sum_below n f
unfolding sum_below
at_most_sum zero k f lt = absurd (omega arith)
at_most_sum (suc n) k f lt = elim (cases_eq k n) [ inl e ↦ omega (arith, ap f e) | inr ne ↦ omega (arith, at_most_sum n k f (omega arith)) ]

-- ---- without one of the values

abbrev pub without : ℕ → (ℕ → ℕ) → ℕ → ℕ
without k f i = cond (i == k) 0 (f i)

pub without_here : (k : ℕ) (f : ℕ → ℕ) → without k f k ≡ 0
without_here k f = grind (arith, nat_tests)

pub without_other : (k i : ℕ) (f : ℕ → ℕ) → i ≢ k → without k f i ≡ f i
without_other k i f ne = grind (arith, nat_tests)

pub sum_without : (n k : ℕ) (f : ℕ → ℕ) → k < n → sum_below n f ≡ f k + sum_below n (without k f)
unfolding sum_below
sum_without zero k f lt = absurd (omega arith)
sum_without (suc n) k f lt = elim (cases_eq n k) [
  | inl e ↦ omega (arith, ap f e, ap (without k f) e, without_here k f, sum_same n f (without k f) (λ i i_in. sym (without_other k i f (omega arith))))
  | inr ne ↦ omega (arith, without_other k n f ne, sum_without n k f (omega arith))
]

-- one value changes
pub sum_changed : (n k : ℕ) (f g : ℕ → ℕ) → k < n → ((i : ℕ) → i < n → i ≢ k → g i ≡ f i) → sum_below n g + f k ≡ sum_below n f + g k
sum_changed n k f g lt others =
    let same = sum_same n (without k g) (without k f) (λ i i_in. elim (eqb_tells i k) [ inl p ↦ rw p.0 refl | inr p ↦ rw p.0 (others i i_in p.1) ]) in
    omega (arith, sum_without n k f lt, sum_without n k g lt, same)

-- ---- the values of partners, who differ

abbrev pub at_partner : (ℕ → ℕ) → Option ℕ → ℕ
at_partner f None = 0
at_partner f (Some x) = f x

pub partner_cases : (o : Option ℕ) (P : Type 0) → (o ≡ None → P) → ((x : ℕ) → o ≡ Some x → P) → P
partner_cases None P none some = none refl
partner_cases (Some x) P none some = some x refl

pub partners_sum : (n m : ℕ) (p : ℕ → Option ℕ) (f : ℕ → ℕ) → ((y x : ℕ) → y < n → p y ≡ Some x → x < m) → ((y z x : ℕ) → p y ≡ Some x → p z ≡ Some x → y ≡ z)
    → sum_below n (λ y. at_partner f (p y)) ≤ sum_below m f
unfolding sum_below
partners_sum zero m p f low apart = omega arith
partners_sum (suc n) m p f low apart = partner_cases (p n) (sum_below (suc n) (λ y. at_partner f (p y)) ≤ sum_below m f)
    (λ none. omega (arith, ap (at_partner f) none, partners_sum n m p f (λ y x lt. low y x (omega arith)) apart))
    (λ x some.
    let rest = partners_sum n m p (without x f) (λ y z lt. low y z (omega arith)) apart in
    let same = sum_same n (λ y. at_partner f (p y)) (λ y. at_partner (without x f) (p y))
    (λ y lt. partner_cases (p y) (at_partner f (p y) ≡ at_partner (without x f) (p y))
    (λ none. rw none refl)
    (λ z is. rw is (sym (without_other x z f (λ e. omega (arith, lt, apart y n x (is ∙ ap (λ (k : ℕ). Some k) e) some)))))) in
    omega (arith, ap (at_partner f) some, sum_without m x f (low n x (omega arith) some), rest, same))
