use Rattle.std.proofs.Common.{Some}
use Rattle.command_words.specs.Jobs.{HasWorkers, rows_in}
use Rattle.command_words.proofs.Wanted.{still_lacks}
use Rattle.command_words.proofs.reading.workers_of.Goals as goal

pub returns-in_err-number : goal.returns-in_err-number
returns-in_err-number c =
    still_lacks (HasWorkers (rows_in c.args.matches.now)) _ c.from_residual.result c.from_residual.ensures.1 (λ n has.
    c.in_err-number.ensures (Some n) has.0)
