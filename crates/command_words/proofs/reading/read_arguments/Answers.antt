use Rattle.clap.specs.Words.{subcommand_of}
use Rattle.command_words.specs.Jobs.{texts_of}
use Rattle.command_words.specs.Program.{program}
use Rattle.command_words.proofs.Matches.{declined}
use Rattle.command_words.proofs.Wanted.{within}
use Rattle.command_words.proofs.reading.read_arguments.Goals as goal

pub returns-in-Ok-clause-limits : goal.returns-in-Ok-clause-limits
returns-in-Ok-clause-limits c = within (subcommand_of program (texts_of c.args.arguments.now)) c.in_ok-request.request c.in_ok-request.ensures.request

pub returns-in-Err-clause-fault : goal.returns-in-Err-clause-fault
returns-in-Err-clause-fault c =
    let named = c.in_ok-request in
    declined (texts_of c.args.arguments.now) named.request c.fault_of.result named.ensures.taken named.ensures.request c.fault_of.ensures.mistake
    (λ told. c.in-Err.ensures.refused (λ memory. told (c.fault_of.ensures.memory memory)))
