use Rattle.std.proofs.Common.{◌≡◌, ℕ, ◌<◌, ◌^◌, ◌++◌, ◌∷◌, [], length, take, get_or, sym, ◌∙◌, ap, arith, subst}
use Rattle.std.proofs.Math.Seq.{take_all}
use Rattle.std.proofs.lemmas.List.{take_more}
use Rattle.line_words.specs.HexWords.{hex_digits, hex8}
use Rattle.line_words.proofs.Numbers.{length-hex8, hex_at, hex_more, seven, next_power}
use Rattle.line_words.proofs.hex.word_from_hex8.Goals as goal

pub returns-then-digits-ne-HEX_DIGITS-clause-none : goal.returns-then-digits-ne-HEX_DIGITS-clause-none
returns-then-digits-ne-HEX_DIGITS-clause-none c = λ w fits e. omega (arith, ap length e, length-hex8 w, c.if-digits-ne-HEX_DIGITS.true)

pub overflow_mul-word : goal.overflow_mul-word
overflow_mul-word c =
    let below : c.loop-digit.digit-index < 8 = omega (arith, c.loop-digit-test.true, c.if-digits-ne-HEX_DIGITS.false) in
    omega (arith, seven c.loop-digit.digit-index c.loop-digit.word below c.loop-digit.invariant.0)

pub overflow_add-word : goal.overflow_add-word
overflow_add-word c =
    let below : c.loop-digit.digit-index < 8 = omega (arith, c.loop-digit-test.true, c.if-digits-ne-HEX_DIGITS.false) in
    omega (arith, seven c.loop-digit.digit-index c.loop-digit.word below c.loop-digit.invariant.0, c.in_ok-value.ensures.some.0)

pub returns-in_err-value-clause-none : goal.returns-in_err-value-clause-none
unfolding hex8
returns-in_err-value-clause-none c = rw c.from_residual.ensures (λ w fits e.
    let below : c.loop-digit.digit-index < 8 = omega (arith, c.loop-digit-test.true, c.if-digits-ne-HEX_DIGITS.false) in
    let h = hex_at 8 w c.loop-digit.digit-index below in
    c.in_err-value.ensures.none h.0 h.1 (ap (λ l. get_or l c.loop-digit.digit-index 0) e ∙ h.2))

pub loop-digit-preserved : goal.loop-digit-preserved
loop-digit-preserved c =
    let i = c.loop-digit.digit-index in
    let digits = c.args.digits.now in
    let v = c.loop-digit.word in
    let d = c.in_ok-value.value in
    let digit = c.in_ok-value.ensures.some in (
      next_power i v d c.loop-digit.invariant.0 digit.0,
      take_more digits i 0 c.loop-digit-test.true ∙ ap (λ l. l ++ get_or digits i 0 ∷ []) c.loop-digit.invariant.1 ∙ ap (λ b. hex_digits i v ++ b ∷ []) digit.1
          ∙ sym (hex_more i v d digit.0),
    )

pub returns-clause-some : goal.returns-clause-some
unfolding hex8
returns-clause-some c =
    let i = c.loop-digit.digit-index in
    let w = c.loop-digit.word in
    let digits = c.args.digits.now in
    let all : take i digits ≡ digits = take_all i digits (omega arith) in
    let eight : i ≡ 8 = omega (arith, c.loop-digit-test.false, c.if-digits-ne-HEX_DIGITS.false) in
    (subst (λ (n : ℕ). w < 16 ^ n) eight c.loop-digit.invariant.0, sym all ∙ c.loop-digit.invariant.1 ∙ ap (λ n. hex_digits n w) eight)
