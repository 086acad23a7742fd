-- Numbers of at most nine digits, and their one spelling.
use Rattle.std.proofs.Common.{◌≡◌, ℕ, zero, suc, ◌^◌, ◌<◌, ◌≤◌, List, length, get_or, sym, ap, subst, arith}
use Rattle.std.specs.Fmt.{decimal}
use Rattle.std.specs.Str.Parse.{AllDigits, digits_value}
use Rattle.std.proofs.lemmas.Str.Parse.{IsNumeralModel, numerals_by_value, tells_digits, digits_value_short}
use Rattle.std.proofs.lemmas.Fmt.{decimal_nonempty, length-decimal-le, first_decimal, decimal_digit, digits_decimal, decimal-digits_value}
use Rattle.batch.specs.declared.limits.TheConstants.{MAX_DIGITS}
use Rattle.batch.specs.Text.{IsNumber, IsNumeral}

pub own : IsNumeralModel (AllDigits 10) (digits_value 10)
own = numerals_by_value (AllDigits 10) tells_digits

-- how the digits of a number look
pub record HasForm (ds : List ℕ) : Type 0 where
  pub nonempty : 0 < length ds
  pub short : length ds ≤ MAX_DIGITS
  pub leading : get_or ds 0 0 ≡ 48 → length ds ≡ 1
  pub digits : AllDigits 10 ds

first_digit : (n : ℕ) → IsNumber n → get_or (decimal n) 0 0 ≡ 48 → length (decimal n) ≡ 1
first_digit zero lt e = ap length (decimal_digit 0 (omega arith))
first_digit (suc n) lt e = absurd (omega (arith, first_decimal (suc n) (omega arith) (omega arith)))

decimal_form : (n : ℕ) → IsNumber n → HasForm (decimal n)
decimal_form n lt = record {
  nonempty = decimal_nonempty n (omega arith);
  short = length-decimal-le MAX_DIGITS n (omega arith) lt (omega arith);
  leading = first_digit n lt;
  digits = digits_decimal own n (omega arith);
}

pub form : (ds : List ℕ) (n : ℕ) → IsNumber n → ds ≡ decimal n → HasForm ds
form ds n lt e = subst HasForm (sym e) (decimal_form n lt)

pub value_fits : (ds : List ℕ) (k : ℕ) → AllDigits 10 ds → length ds ≤ k → digits_value 10 ds < 10 ^ k
value_fits ds k digits short = digits_value_short own ds k digits short

-- digits of this form are those of their value
pub spelled : (ds : List ℕ) → HasForm ds → ds ≡ decimal (digits_value 10 ds)
spelled ds f =
    sym (decimal-digits_value own ds f.digits f.nonempty f.leading (let small : digits_value 10 ds < 10 ^ MAX_DIGITS =
    value_fits ds MAX_DIGITS f.digits f.short in omega arith))

-- ---- the grammar of a number
