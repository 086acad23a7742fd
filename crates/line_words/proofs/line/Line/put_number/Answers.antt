use Rattle.std.proofs.Common.{length, ap, ◌∙◌, arith}
use Rattle.std.specs.Fmt.{decimal}
use Rattle.std.proofs.lemmas.List.{length-append}
use Rattle.line_words.proofs.Numbers.{at_most_20}
use Rattle.line_words.proofs.line.Line.put_number.Goals as goal

pub put_digits-requires : goal.put_digits-requires
put_digits-requires c = omega (arith, at_most_20 c.args.n c.ranges.n.fits, c.requires)

pub returns-clause-room : goal.returns-clause-room
returns-clause-room c = omega (arith, at_most_20 c.args.n c.ranges.n.fits, ap length c.put_digits.ensures ∙ length-append c.args.self.now (decimal c.args.n))
