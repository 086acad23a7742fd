-- Numbers of one digit or two in front of a text.
use Rattle.std.proofs.Common.{◌≡◌, ℕ, ◌+◌, ◌*◌, ◌/◌, ◌%◌, ◌<◌, ◌≤◌, List, [], ◌∷◌, ◌++◌, length, get_or, drop, refl, ◌∙◌, arith}
use Rattle.std.specs.Fmt.{decimal}
use Rattle.std.proofs.lemmas.Fmt.{decimal_digit, decimal_step}
use Rattle.batch.specs.Text.{number}

-- the number of two digits
two_digits : (t o : ℕ) → 0 < t → t < 10 → o < 10 → decimal (10 * t + o) ≡ (48 + t) ∷ (48 + o) ∷ []
two_digits t o some lt lo =
    let front : (10 * t + o) / 10 ≡ t = omega arith in
    let last : (10 * t + o) % 10 ≡ o = omega arith in
    decimal_step (10 * t + o) (omega arith) (omega arith) ∙ rw (front, last, decimal_digit t lt) refl

-- one digit and the end stand in front
pub short_one : (bytes : List ℕ) (n end : ℕ) → 2 ≤ length bytes → n < 10 → get_or bytes 0 0 ≡ 48 + n → get_or bytes 1 0 ≡ end → bytes ≡ number n end
    ++ drop 2 bytes
short_one [] n end long lt first second = absurd (omega (arith, long))
short_one (c ∷ []) n end long lt first second = absurd (omega (arith, long))
short_one (c ∷ e ∷ rest) n end long lt first second = rw (decimal_digit n lt, ← first, ← second) refl

-- two digits and the end stand in front
pub short_two : (bytes : List ℕ) (t o end : ℕ) → 3 ≤ length bytes → 0 < t → t < 10 → o < 10 → get_or bytes 0 0 ≡ 48 + t → get_or bytes 1 0 ≡ 48 + o
    → get_or bytes 2 0 ≡ end → bytes ≡ number (10 * t + o) end ++ drop 3 bytes
short_two [] t o end long some lt lo first second third = absurd (omega (arith, long))
short_two (c ∷ []) t o end long some lt lo first second third = absurd (omega (arith, long))
short_two (c ∷ d ∷ []) t o end long some lt lo first second third = absurd (omega (arith, long))
short_two (c ∷ d ∷ e ∷ rest) t o end long some lt lo first second third = rw (two_digits t o some lt lo, ← first, ← second, ← third) refl
