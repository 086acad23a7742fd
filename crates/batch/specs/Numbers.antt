-- Numbers of texts. The form is this project's choice.
use Rattle.std.specs.Prelude.{◌≡◌, ◌≢◌, ℕ, ◌<◌, ◌≤◌, ◌+◌, ◌^◌, List, [], ◌∷◌, ◌++◌, length, ◌⊎◌}
use Rattle.std.specs.List.{AllByRecursion}
use Rattle.std.specs.Fmt.{decimal}
use Rattle.batch.specs.declared.limits.TheConstants.{MAX_DIGITS}

-- a number of a text: it has at most nine digits
abbrev pub IsNumber : ℕ → Type 0
IsNumber n = n < 10 ^ MAX_DIGITS

abbrev pub space : ℕ
space = 32

abbrev pub line_feed : ℕ
line_feed = 10

-- a number and the byte that ends it
abbrev pub number : ℕ → ℕ → List ℕ
number n end = decimal n ++ end ∷ []

-- the text begins with no number that this byte ends
abbrev pub BeginsWithNoNumber : List ℕ → ℕ → Type 0
BeginsWithNoNumber text end = (n : ℕ) (rest : List ℕ) → IsNumber n → text ≢ number n end ++ rest

-- ---- the grammar of a number

-- a byte from `0` to `9`
abbrev pub IsDigit : ℕ → Type 0
IsDigit c = (48 ≤ c) × (c ≤ 57)

-- `0` alone, or digits of which the first isn't `0`, no more than a number of a text may have
abbrev pub IsNumeral : List ℕ → Type 0
IsNumeral [] = ⊥
IsNumeral (c ∷ cs) =
    ((c ≡ 48) × (cs ≡ []))
    ⊎ ((49 ≤ c) × (c ≤ 57) × AllByRecursion IsDigit cs × (length cs + 1 ≤ MAX_DIGITS))

-- the digits of a number
abbrev pub SpellsNumber : List ℕ → Type 0
SpellsNumber digits = (n : ℕ) × IsNumber n × (digits ≡ decimal n)
