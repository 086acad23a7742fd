use Rattle.std.proofs.Common.{◌≡◌}
use Rattle.clap.specs.declared.error.kind.ErrorKind.TheVariants.{ArgumentConflict, DisplayHelp, DisplayVersion}
use Rattle.command_words.proofs.Matches.{mistaken}
use Rattle.command_words.proofs.faults.fault_of.Goals as goal

pub returns-in-Ok-clause-mistake : goal.returns-in-Ok-clause-mistake
returns-in-Ok-clause-mistake c =
    mistaken ArgumentConflict c.in-Ok.error c.from.result c.in-Ok.ensures (λ e. (let bad : ArgumentConflict ≡ DisplayHelp = e in cc))
    (λ e. (let bad : ArgumentConflict ≡ DisplayVersion = e in cc)) c.from.ensures
