use Rattle.std.proofs.Common.{Some, codes}
use Rattle.command_words.specs.Jobs.{HasNumeral, rows_in}
use Rattle.command_words.specs.declared.limits.TheConstants.{MAX_NUMBER}
use Rattle.command_words.proofs.Wanted.{still_lacks}
use Rattle.command_words.proofs.reading.first_of.Goals as goal

pub returns-in_err-number_of : goal.returns-in_err-number_of
returns-in_err-number_of c =
    still_lacks (λ n. HasNumeral (codes "from") MAX_NUMBER (rows_in c.args.matches.now) (Some n)) _ c.from_residual.result c.from_residual.ensures.1 (λ n has.
    c.in_err-number_of.ensures (Some n) has)
