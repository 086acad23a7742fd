-- Numbers and words in hexadecimal digits.
use Rattle.std.proofs.Common.{◌≡◌, ℕ, zero, suc, ◌+◌, ◌*◌, ◌/◌, ◌%◌, ◌<◌, ◌≤◌, ◌^◌, List, [], ◌∷◌, ◌++◌, length, take, drop, set, map, get_or, codes, refl, sym, ap, ◌∙◌, subst, arith, inl, inr}
use Rattle.std.proofs.Common.{Option, Some, None, IfNone, append_assoc}
use Rattle.std.specs.Fmt.{decimal}
use Rattle.std.specs.Int.Digits.{digits_of}
use Rattle.std.proofs.Math.Nat.{pow-suc}
use Rattle.std.proofs.Math.Seq.{drop-append-add}
use Rattle.std.proofs.lemmas.Bool.{cases_lt, lt-ltb, le-ltb}
use Rattle.std.proofs.lemmas.Fmt.{decimal-digits_of, length-decimal-le}
use Rattle.std.proofs.lemmas.Int.Digits.{digits_of_step}
use Rattle.std.proofs.lemmas.List.{drop-set, map-append, length-append, get_or_append_left, get_or_at, take_at, append_cancel_left, same_from_push}
use Rattle.batch.specs.Text.{IsNumber, IsDigit, number, space}
use Rattle.batch.proofs.Lines.{one_number}
use Rattle.line_words.specs.HexWords.{IsWord, hex_digit, hex_digits, hex8}

-- a space is no digit
pub space_ends : IsDigit space → ⊥
space_ends = λ digit. omega arith

-- the last digit, and those before it
pub decimal_step : (n : ℕ) → 10 ≤ n → n < 2 ^ 64 → decimal n ≡ decimal (n / 10) ++ (48 + n % 10) ∷ []
decimal_step n some fits =
    let glyph = λ (d : ℕ). 48 + d in
    let less : n / 10 < 2 ^ 64 = omega arith in
    let more : 0 < n / 10 = omega arith in
    decimal-digits_of n (omega arith) fits ∙ ap (map glyph) (digits_of_step 10 n (omega arith) (omega arith)) ∙ map-append glyph (digits_of 10 (n / 10))
    (n % 10 ∷ [])
    ∙ ap (λ l. l ++ (48 + n % 10) ∷ []) (sym (decimal-digits_of (n / 10) more less))

pub length-decimal_step : (n : ℕ) → 10 ≤ n → n < 2 ^ 64 → length (decimal n) ≡ length (decimal (n / 10)) + 1
length-decimal_step n some fits = ap length (decimal_step n some fits) ∙ length-append (decimal (n / 10)) _

pub at_most_20 : (n : ℕ) → n < 2 ^ 64 → length (decimal n) ≤ 20
at_most_20 n fits = length-decimal-le 20 n (omega arith) (omega arith) fits

-- ---- hexadecimal digits

pub length-hex_digits : (n w : ℕ) → length (hex_digits n w) ≡ n
length-hex_digits zero w = refl
length-hex_digits (suc n) w = length-append (hex_digits n (w / 16)) _ ∙ ap (λ k. k + 1) (length-hex_digits n (w / 16)) ∙ omega arith

pub length-hex8 : (w : ℕ) → length (hex8 w) ≡ 8
unfolding hex8
length-hex8 w = length-hex_digits 8 w

one_more : (n : ℕ) → n + 1 ≡ suc n
one_more n = omega arith

-- a digit more stands in front of those that were written
pub digit_in_front : (n w : ℕ) (ds : List ℕ) → n < length ds → hex_digits n (w / 16) ++ drop n (set ds n (hex_digit (w % 16))) ≡ hex_digits (n + 1) w
    ++ drop (n + 1) ds
digit_in_front n w ds less =
    ap (λ l. hex_digits n (w / 16) ++ l) (drop-set ds n (hex_digit (w % 16)) less)
    ∙ sym (append_assoc (hex_digits n (w / 16)) (hex_digit (w % 16) ∷ []) (drop (n + 1) ds))
    ∙ ap (λ k. hex_digits k w ++ drop (n + 1) ds) (sym (one_more n))

digit_low : (d : ℕ) → d < 10 → hex_digit d ≡ 48 + d
digit_low d low = rw (lt-ltb d 10 low) refl

digit_high : (d : ℕ) → 10 ≤ d → hex_digit d ≡ 87 + d
digit_high d high = rw (le-ltb d 10 high) refl

-- each of them is the digit of a value
pub hex_at : (n w i : ℕ) → i < n → (d : ℕ) × (d < 16) × (get_or (hex_digits n w) i 0 ≡ hex_digit d)
hex_at zero w i less = absurd (omega arith)
hex_at (suc n) w i less =
    let long = length-hex_digits n (w / 16) in
    elim (cases_lt i n) [
      | inl before ↦ let h = hex_at n (w / 16) i before in (h.0, h.1, get_or_append_left (hex_digits n (w / 16)) _ 0 i (omega (arith, long)) ∙ h.2)
      | inr last ↦ (w % 16, omega arith, get_or_at (hex_digits n (w / 16)) (hex_digit (w % 16)) [] 0 i (omega (arith, long)))
    ]

pub hex_more : (n v d : ℕ) → d < 16 → hex_digits (n + 1) (v * 16 + d) ≡ hex_digits n v ++ hex_digit d ∷ []
hex_more n v d less =
    let q : (v * 16 + d) / 16 ≡ v = omega arith in
    let r : (v * 16 + d) % 16 ≡ d = omega arith in
    ap (λ k. hex_digits k (v * 16 + d)) (one_more n) ∙ ap (λ l. l ++ hex_digit ((v * 16 + d) % 16) ∷ []) (ap (hex_digits n) q)
    ∙ ap (λ k. hex_digits n v ++ hex_digit k ∷ []) r

-- what seven digits can say
pub seven : (i w : ℕ) → i < 8 → w < 16 ^ i → w < 268435456
seven zero w b h = omega (arith, h)
seven (suc zero) w b h = omega (arith, h)
seven (suc (suc zero)) w b h = omega (arith, h)
seven (suc (suc (suc zero))) w b h = omega (arith, h)
seven (suc (suc (suc (suc zero)))) w b h = omega (arith, h)
seven (suc (suc (suc (suc (suc zero))))) w b h = omega (arith, h)
seven (suc (suc (suc (suc (suc (suc zero)))))) w b h = omega (arith, h)
seven (suc (suc (suc (suc (suc (suc (suc zero))))))) w b h = omega (arith, h)
seven (suc (suc (suc (suc (suc (suc (suc (suc i)))))))) w b h = absurd (omega arith)

pub next_power : (i v d : ℕ) → v < 16 ^ i → d < 16 → v * 16 + d < 16 ^ (i + 1)
next_power i v d h less = subst (λ k. v * 16 + d < 16 ^ k) (sym (one_more i)) (omega (arith, pow-suc 16 i, h))

-- a digit has one value
one_digit : (a b : ℕ) → a < 16 → b < 16 → hex_digit a ≡ hex_digit b → a ≡ b
one_digit a b small less e = elim (cases_lt a 10) [
  | inl low ↦ elim (cases_lt b 10) [
    | inl short ↦ omega (arith, digit_low a low, digit_low b short, e)
    | inr long ↦ absurd (omega (arith, digit_low a low, digit_high b long, e))
  ]
  | inr high ↦ elim (cases_lt b 10) [
    | inl short ↦ absurd (omega (arith, digit_high a high, digit_low b short, e))
    | inr long ↦ omega (arith, digit_high a high, digit_high b long, e)
  ]
]

one_number_in_hex : (n a b : ℕ) → a < 16 ^ n → b < 16 ^ n → hex_digits n a ≡ hex_digits n b → a ≡ b
one_number_in_hex zero a b small less e = omega arith
one_number_in_hex (suc n) a b small less e =
    let same = same_from_push (hex_digits n (a / 16)) (hex_digits n (b / 16)) _ _ e in
    let front : a / 16 ≡ b / 16 = one_number_in_hex n (a / 16) (b / 16) (omega (arith, pow-suc 16 n, small)) (omega (arith, pow-suc 16 n, less)) same.0 in
    let last : a % 16 ≡ b % 16 = one_digit (a % 16) (b % 16) (omega arith) (omega arith) same.1 in
    omega (arith, front, last)

-- eight digits spell one word
pub one_hex8 : (a b : ℕ) → IsWord a → IsWord b → hex8 a ≡ hex8 b → a ≡ b
unfolding hex8
one_hex8 a b small less e = one_number_in_hex 8 a b (omega (arith, small)) (omega (arith, less)) e

-- ---- after what was read

pub none_as : (o : Option ℕ) (P Q : Type 0) → (P → Q) → IfNone o P → IfNone o Q
none_as None P Q f p = f p
none_as (Some x) P Q f p = tt

-- what stands after a word that was read
pub after_word : (line word rest more : List ℕ) → line ≡ word ++ rest → line ≡ word ++ more → rest ≡ more
after_word line word rest more e f = append_cancel_left word rest more (sym e ∙ f)

-- what stands after a number and a space
pub after_number : (bytes rest more : List ℕ) (n m : ℕ) → IsNumber n × (bytes ≡ number n space ++ rest) → IsNumber m → bytes ≡ number m space ++ more → rest
    ≡ more
after_number bytes rest more n m e fits f = (one_number n m space rest more e.0 fits space_ends (sym e.1 ∙ f)).1

-- what stands after a word in digits and a space
pub after_hex8 : (bytes rest more : List ℕ) (v w : ℕ) → bytes ≡ hex8 v ++ space ∷ rest → bytes ≡ hex8 w ++ space ∷ more → rest ≡ more
after_hex8 bytes rest more v w e f =
    let cut : (x : ℕ) (l : List ℕ) → drop 9 (hex8 x ++ space ∷ l) ≡ l = λ x l. ap (λ n. drop (n + 1) (hex8 x ++ space ∷ l)) (sym (length-hex8 x))
    ∙ drop-append-add (hex8 x) (space ∷ l) 1 in
    sym (cut v rest) ∙ ap (drop 9) (sym e ∙ f) ∙ cut w more

-- the digits that stand in front
pub hex8_in_front : (v w : ℕ) (rest more : List ℕ) → hex8 v ++ rest ≡ hex8 w ++ more → hex8 v ≡ hex8 w
hex8_in_front v w rest more e = sym (take_at (hex8 v) rest 8 (length-hex8 v)) ∙ ap (take 8) e ∙ take_at (hex8 w) more 8 (length-hex8 w)

-- what stands after the module of a line that pokes
pub after_poke : (line rest after : List ℕ) (m n a w : ℕ) → line ≡ codes "poke " ++ rest → IsNumber m × (rest ≡ number m space ++ after) → IsNumber n → line
    ≡ codes "poke " ++ (number n space ++ (hex8 a ++ space ∷ hex8 w)) → after ≡ hex8 a ++ space ∷ hex8 w
after_poke line rest after m n a w e read fits f =
    after_number rest after (hex8 a ++ space ∷ hex8 w) m n read fits (after_word line (codes "poke ") rest (number n space ++ (hex8 a ++ space ∷ hex8 w)) e f)
