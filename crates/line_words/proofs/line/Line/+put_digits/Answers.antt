use Rattle.std.proofs.Common.{◌+◌, ◌/◌, ◌%◌, ◌++◌, ◌∷◌, [], length, ap, sym, ◌∙◌, arith, append_assoc}
use Rattle.std.specs.Fmt.{decimal}
use Rattle.std.proofs.lemmas.Fmt.{decimal_digit}
use Rattle.std.proofs.lemmas.List.{length-append}
use Rattle.line_words.proofs.Numbers.{decimal_step, length-decimal_step}
use Rattle.line_words.proofs.line.Line.+put_digits.Goals as goal

pub put_digits-requires : goal.put_digits-requires
put_digits-requires t c =
    let long = length-decimal_step c.args.n (omega (arith, c.if-n-lt10.false)) c.ranges.n.fits in
    (omega (arith, c.if-n-lt10.false, c.decreases), omega (arith, long, c.requires))

pub push-requires : goal.push-requires
push-requires t c = omega (arith, ap length (decimal_digit c.args.n c.if-n-lt10.true), c.requires)

pub returns-then-n-lt10 : goal.returns-then-n-lt10
returns-then-n-lt10 t c = c.push.ensures ∙ ap (λ l. c.args.self.now ++ l) (sym (decimal_digit c.args.n c.if-n-lt10.true))

pub push-requires-2 : goal.push-requires-2
push-requires-2 t c =
    let long = length-decimal_step c.args.n (omega (arith, c.if-n-lt10.false)) c.ranges.n.fits in
    omega (arith, long, ap length c.put_digits.ensures ∙ length-append c.args.self.now (decimal (c.args.n / 10)), c.requires)

pub returns : goal.returns
returns t c =
    c.push-2.ensures ∙ ap (λ l. l ++ (48 + c.args.n % 10) ∷ []) c.put_digits.ensures ∙ append_assoc c.args.self.now (decimal (c.args.n / 10)) _
    ∙ ap (λ l. c.args.self.now ++ l) (sym (decimal_step c.args.n (omega (arith, c.if-n-lt10.false)) c.ranges.n.fits))
