use Rattle.std.proofs.Common.{arith, ◌≡◌, ℕ, ◌<◌, ◌≤◌, ◌^◌, ◌+◌, List, length, get_or, take, refl, inl, inr, true, false}
use Rattle.std.proofs.lemmas.Grind.{common_steps}
use Rattle.std.proofs.lemmas.List.{take_all, length-take}
use Rattle.std.proofs.lemmas.Int.Digits.{digits_more, digits_value_more}
use Rattle.std.proofs.lemmas.Str.Parse.{digit_at}
use Rattle.std.proofs.lemmas.Str.{digit_value_digit}
use Rattle.std.specs.Int.{IsInRange}
use Rattle.std.proofs.lemmas.Bool.{cases_lt}
use Rattle.std.specs.Char.{digit_value}
use Rattle.std.specs.Str.Parse.{AllDigits, digits_value}
use Rattle.batch.specs.declared.limits.TheConstants.{MAX_DIGITS}
use Rattle.batch.proofs.Numbers.{form, value_fits, spelled, HasForm}
use Rattle.batch.proofs.reading.number_from_digits.Goals as goal
use Rattle.batch.proofs.reading.number_from_digits.Goals.{then-is_empty-via-then-is_empty, then-is_empty-via-else-is_empty+then-digits-gt-MAX_DIGITS}
use Rattle.batch.proofs.reading.number_from_digits.Goals.{then-is_empty-via-else-is_empty+else-digits-gt-MAX_DIGITS+then-has_leading_zero}

pub returns-then-is_empty-clause-none : goal.returns-then-is_empty-clause-none
returns-then-is_empty-clause-none c n lt e =
    let f : HasForm c.args.digits.now = form c.args.digits.now n lt e in
    let some : 0 < length c.args.digits.now = f.nonempty in
    let few : length c.args.digits.now ≤ MAX_DIGITS = f.short in
    let leads : get_or c.args.digits.now 0 0 ≡ 48 → length c.args.digits.now ≡ 1 = f.leading in
    elim c.then-is_empty.branch [
      | then-is_empty-via-then-is_empty w ↦ grind (arith, common_steps)
      | then-is_empty-via-else-is_empty+then-digits-gt-MAX_DIGITS w ↦ omega arith
      | then-is_empty-via-else-is_empty+else-digits-gt-MAX_DIGITS+then-has_leading_zero w ↦ let zero = w.if-has_leading_zero.ensures.0 refl in omega
          (arith, zero.0, leads zero.1)
    ]

pub returns-then-not-is_ascii_digit-clause-none : goal.returns-then-not-is_ascii_digit-clause-none
returns-then-not-is_ascii_digit-clause-none c n lt e =
    let f : HasForm c.args.digits.now = form c.args.digits.now n lt e in
    let d : IsInRange 48 57 (get_or c.args.digits.now c.loop-digit.digit-index 0) = digit_at c.args.digits.now c.loop-digit.digit-index f.digits
    c.loop-digit-test.true in
    let bad = c.if-not-is_ascii_digit.ensures.cases in
    grind (arith, common_steps, bad)

small : (ds : List ℕ) (i n : ℕ) → AllDigits 10 (take i ds) → i ≤ 8 → n ≡ digits_value 10 (take i ds) → n < 10 ^ 8
small ds i n digits short e = rw e (value_fits (take i ds) 8 digits (omega (arith, length-take i ds)))

pub overflow_mul-n : goal.overflow_mul-n
overflow_mul-n c =
    let s : c.loop-digit.n < 10 ^ 8 = small c.args.digits.now c.loop-digit.digit-index c.loop-digit.n c.loop-digit.invariant.digits (omega arith)
    c.loop-digit.invariant.value in
    omega arith

pub overflow_add-n : goal.overflow_add-n
overflow_add-n c =
    let s : c.loop-digit.n < 10 ^ 8 = small c.args.digits.now c.loop-digit.digit-index c.loop-digit.n c.loop-digit.invariant.digits (omega arith)
    c.loop-digit.invariant.value in
    omega arith

pub loop-digit-preserved : goal.loop-digit-preserved
loop-digit-preserved c =
    let digit : IsInRange 48 57 (get_or c.args.digits.now c.loop-digit.digit-index 0) = c.if-not-is_ascii_digit.ensures.cases in
    let value : digit_value (get_or c.args.digits.now c.loop-digit.digit-index 0) + 48 ≡ get_or c.args.digits.now c.loop-digit.digit-index 0 =
    digit_value_digit _ digit in
    let more = digits_value_more 10 c.args.digits.now c.loop-digit.digit-index c.loop-digit-test.true in
    record {
      digits = digits_more 10 c.args.digits.now c.loop-digit.digit-index c.loop-digit-test.true c.loop-digit.invariant.digits (omega arith);
      value = rw (more, ← c.loop-digit.invariant.value) (omega arith);
    }

pub returns-clause-some : goal.returns-clause-some
returns-clause-some c =
    let all : take c.loop-digit.digit-index c.args.digits.now ≡ c.args.digits.now = take_all _ _ (omega arith) in
    let digits : AllDigits 10 c.args.digits.now = rw all at c.loop-digit.invariant.digits in
    let value : c.loop-digit.n ≡ digits_value 10 c.args.digits.now = rw all at c.loop-digit.invariant.value in
    let some : 0 < length c.args.digits.now = grind (arith, common_steps) in
    let f : HasForm c.args.digits.now = record {
      nonempty = some;
      short = omega arith;
      leading = λ zero. elim (cases_lt 1 (length c.args.digits.now))
          [ inl more ↦ let bad : false ≡ true = c.if-has_leading_zero.ensures.1 (more, zero) in absurd cc | inr few ↦ omega arith ];
      digits = digits;
    } in
    (rw value (value_fits c.args.digits.now MAX_DIGITS digits (omega arith)), rw value (spelled c.args.digits.now f))
