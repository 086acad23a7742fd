use Rattle.std.proofs.Common.{Ok, Err}
use Rattle.clap.specs.Words.{app_of}
use Rattle.clap.specs.declared.parser.matches.ArgMatches.{ArgMatches}
use Rattle.command_words.specs.Program.{program}
use Rattle.command_words.specs.Jobs.{texts_of}
use Rattle.command_words.proofs.Matches.{program_is_simple, matches_for, faults_for, passed_up, told}
use Rattle.command_words.proofs.grammar.matches_of.Goals as goal

pub returns-clause-matches : goal.returns-clause-matches
returns-clause-matches c =
    let found = c.in_ok-try_get_matches_from.field-0 in
    matches_for (app_of c.in_ok-program.field-0) program (texts_of c.args.arguments.now) found c.in_ok-program.ensures.app program_is_simple
    c.in_ok-try_get_matches_from.ensures.matches

pub returns-clause-taken : goal.returns-clause-taken
returns-clause-taken c =
    faults_for (app_of c.in_ok-program.field-0) (texts_of c.args.arguments.now) (Ok c.in_ok-try_get_matches_from.field-0) c.in_ok-program.ensures.app
    c.in_ok-try_get_matches_from.ensures.kinds

pub returns-in_err-try_get_matches_from-clause-fault : goal.returns-in_err-try_get_matches_from-clause-fault
returns-in_err-try_get_matches_from-clause-fault c =
    let arguments = texts_of c.args.arguments.now in
    let error = c.in_err-try_get_matches_from.field-0.0 in
    let has = faults_for {T = ArgMatches} (app_of c.in_ok-program.field-0) arguments (Err error) c.in_ok-program.ensures.app
    c.in_err-try_get_matches_from.ensures.kinds in
    passed_up c.from_residual-in_err-try_get_matches_from.result _ _ c.from_residual-in_err-try_get_matches_from.ensures.1
    (λ fault by. told arguments error fault has by)
