-- Numbers of at most four digits.
use Rattle.std.proofs.Common.{◌≡◌, ℕ, zero, suc, ◌+◌, ◌-◌, ◌*◌, ◌/◌, ◌%◌, ◌<◌, ◌≤◌, Bool, true, ◌&&◌, T, eqb, ◌++◌, List, [], ◌∷◌, get_or, ◌∙◌, refl, ap, sym, inl, inr, arith, eq-zero-or-pos, eqb→eq}
use Rattle.std.proofs.Common.{Result, Ok, Err, OnOk, is_ok, if◌then◌else◌}
use Rattle.std.specs.Fmt.{decimal}
use Rattle.std.proofs.lemmas.Fmt.{decimal_digit, decimal_step}
use lib.Ieee.Fits.{and_l, and_r}
use Rattle.link_graph.specs.declared.numbers.TheConstants.{DIGIT_PAIRS}
use Rattle.link_graph.specs.ScheduleText.{spaced}

-- ---- the table of pairs

-- whether the table has the digits of all numbers below this one
abbrev are_pairs : ℕ → Bool
are_pairs zero = true
are_pairs (suc n) = (eqb (get_or DIGIT_PAIRS (n * 2) 0) (48 + n / 10) && eqb (get_or DIGIT_PAIRS (n * 2 + 1) 0) (48 + n % 10)) && are_pairs n

below : (count n : ℕ) → T (are_pairs count) → n < count → (get_or DIGIT_PAIRS (n * 2) 0 ≡ 48 + n / 10) × (get_or DIGIT_PAIRS (n * 2 + 1) 0 ≡ 48 + n % 10)
below zero n t h = absurd (omega arith)
below (suc count) n t h =
    elim (eq-zero-or-pos (count - n)) [
      | inl z ↦ let e : n ≡ count = omega arith in let here = and_l _ (are_pairs count) t in rw e (eqb→eq _ _ (and_l _ _ here), eqb→eq _ _ (and_r _ _ here))
      | inr g ↦ below count n (and_r _ (are_pairs count) t) (omega arith)
    ]

pub pair_of : (n : ℕ) → n < 100 → (get_or DIGIT_PAIRS (n * 2) 0 ≡ 48 + n / 10) × (get_or DIGIT_PAIRS (n * 2 + 1) 0 ≡ 48 + n % 10)
pair_of n h = below 100 n tt h

-- ---- numbers in digits

one : (n : ℕ) → n < 10 → decimal n ≡ (48 + n % 10) ∷ []
one n lt = let same : n % 10 ≡ n = omega arith in rw same (decimal_digit n lt)

two : (n : ℕ) → 10 ≤ n → n < 100 → decimal n ≡ (48 + n / 10 % 10) ∷ (48 + n % 10) ∷ []
two n ge lt = decimal_step n ge (omega arith) ∙ rw (one (n / 10) (omega arith)) refl

three : (n : ℕ) → 100 ≤ n → n < 1000 → decimal n ≡ (48 + n / 100 % 10) ∷ (48 + n / 10 % 10) ∷ (48 + n % 10) ∷ []
three n ge lt =
    let same : n / 10 / 10 ≡ n / 100 = omega arith in
    decimal_step n (omega arith) (omega arith) ∙ rw (two (n / 10) (omega arith) (omega arith), same) refl

four : (n : ℕ) → 1000 ≤ n → n < 10000 → decimal n ≡ (48 + n / 1000) ∷ (48 + n / 100 % 10) ∷ (48 + n / 10 % 10) ∷ (48 + n % 10) ∷ []
four n ge lt =
    let tens : n / 10 / 10 ≡ n / 100 = omega arith in
    let hundreds : n / 10 / 100 % 10 ≡ n / 1000 = omega arith in
    decimal_step n (omega arith) (omega arith) ∙ rw (three (n / 10) (omega arith) (omega arith), tens, hundreds) refl

pub spaced_one : (n : ℕ) → n < 10 → spaced n ≡ 32 ∷ (48 + n % 100 % 10) ∷ []
spaced_one n lt = let ones : n % 100 % 10 ≡ n % 10 = omega arith in rw (one n lt, ones) refl

pub spaced_two : (n : ℕ) → 10 ≤ n → n < 100 → spaced n ≡ 32 ∷ (48 + n % 100 / 10) ∷ (48 + n % 100 % 10) ∷ []
spaced_two n ge lt =
    let ones : n % 100 % 10 ≡ n % 10 = omega arith in
    let tens : n % 100 / 10 ≡ n / 10 % 10 = omega arith in
    rw (two n ge lt, ones, tens) refl

pub spaced_three : (n : ℕ) → 100 ≤ n → n < 1000 → spaced n ≡ 32 ∷ (48 + n / 100) ∷ (48 + n % 100 / 10) ∷ (48 + n % 100 % 10) ∷ []
spaced_three n ge lt =
    let ones : n % 100 % 10 ≡ n % 10 = omega arith in
    let tens : n % 100 / 10 ≡ n / 10 % 10 = omega arith in
    let hundreds : n / 100 % 10 ≡ n / 100 = omega arith in
    rw (three n ge lt, ones, tens, hundreds) refl

pub spaced_four : (n : ℕ) → 1000 ≤ n → n < 10000 → spaced n ≡ 32 ∷ (48 + n / 100 / 10) ∷ (48 + n / 100 % 10) ∷ (48 + n % 100 / 10) ∷ (48 + n % 100 % 10) ∷ []
spaced_four n ge lt =
    let ones : n % 100 % 10 ≡ n % 10 = omega arith in
    let tens : n % 100 / 10 ≡ n / 10 % 10 = omega arith in
    let thousands : n / 100 / 10 ≡ n / 1000 = omega arith in
    rw (four n ge lt, ones, tens, thousands) refl

-- a longer number
pub spaced_step : (n : ℕ) → 10 ≤ n → n < 18446744073709551616 → spaced n ≡ spaced (n / 10) ++ (48 + n % 10) ∷ []
spaced_step n ge lt = rw (decimal_step n ge lt) refl

-- what is put at the end where a call succeeds
pub put : {T E : Type 0} (r : Result T E) (new old bytes same : List ℕ) → new ≡ (if is_ok r then old ++ bytes else old) → same ≡ bytes
    → OnOk r (new ≡ old ++ same)
put (Ok x) new old bytes same e is = e ∙ ap (λ (l : List ℕ). old ++ l) (sym is)
put (Err x) new old bytes same e is = tt
