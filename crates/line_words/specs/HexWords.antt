-- Words of 32 bits in hexadecimal digits. That these are in lower case is this project's choice.
use Rattle.std.specs.Prelude.{◌≢◌, ℕ, zero, suc, ◌/◌, ◌%◌, ◌<◌, ◌^◌, List, [], ◌∷◌, ◌++◌, false}
use Rattle.std.specs.Fmt.{digit_glyph}
use Rattle.line_words.specs.declared.limits.TheConstants.{HEX_DIGITS}

abbrev pub IsWord : ℕ → Type 0
IsWord w = w < 2 ^ 32

-- `0` to `9`, `a` to `f`
abbrev pub hex_digit : ℕ → ℕ
hex_digit d = digit_glyph false d

-- the last n hexadecimal digits of a number
abbrev pub hex_digits : ℕ → ℕ → List ℕ
hex_digits zero w = []
hex_digits (suc n) w = hex_digits n (w / 16) ++ hex_digit (w % 16) ∷ []

-- the digits of a word
unfoldable pub hex8 : ℕ → List ℕ
hex8 w = hex_digits HEX_DIGITS w

-- the two digits of a byte
unfoldable pub hex2 : ℕ → List ℕ
hex2 b = hex_digits 2 b

-- the text begins with no such digits that this byte ends
abbrev pub BeginsWithNoHex8 : List ℕ → ℕ → Type 0
BeginsWithNoHex8 text end = (w : ℕ) (rest : List ℕ) → IsWord w → text ≢ hex8 w ++ end ∷ rest
