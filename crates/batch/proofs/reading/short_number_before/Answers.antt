use Rattle.std.proofs.Common.{arith}
use Rattle.std.proofs.lemmas.List.{take_rest}
use Rattle.batch.proofs.Short.{short_one, short_two}
use Rattle.batch.proofs.reading.short_number_before.Goals as goal

pub returns-then-bytes-end : goal.returns-then-bytes-end
returns-then-bytes-end c =
    let digit = c.if-not-is_ascii_digit.ensures.cases in (
      omega (arith, digit),
      rw take_rest (short_one c.args.bytes.now c.from-tens.result c.args.end (omega arith) (omega (arith, digit)) (omega (arith, digit))
          c.if-bytes-end.true),
    )

pub returns : goal.returns
returns c =
    let first = c.if-not-is_ascii_digit.ensures.cases in
    let second = c.if-not-is_ascii_digit-2.ensures.cases in (
      omega (arith, first, second),
      rw take_rest (short_two c.args.bytes.now c.from-tens.result c.from-ones.result c.args.end (omega arith) (omega arith)
          (omega (arith, first)) (omega (arith, second)) (omega (arith, first)) (omega (arith, second)) (omega arith)),
    )
