-- Clap's matches of the program's arguments, and what it finds at fault in them.
use Rattle.std.proofs.Common.{◌≡◌, List, true, refl, ap, sym, ◌∙◌, subst, inl, inr, Result, Ok, Err, IfErr, IsErrAnd}
use Rattle.std.specs.Prelude.{◌≢◌}
use Rattle.clap.specs.Words.{App, Text, FailsBy, HasKind, HasMatchesOf, fault_of, is_simple, is_simple_and_free, kind_of, subcommand_of, subcommand_rows_of}
use Rattle.clap.specs.declared.error.Error.{Error}
use Rattle.clap.specs.declared.error.kind.ErrorKind.{ErrorKind}
use Rattle.clap.specs.declared.error.kind.ErrorKind.TheVariants.{DisplayHelp, DisplayVersion, OutOfMemory}
use Rattle.clap.specs.declared.parser.matches.ArgMatches.{ArgMatches}
use Rattle.command_words.specs.declared.jobs.Request.{Request}
use Rattle.command_words.specs.declared.jobs.ArgumentsFault.{ArgumentsFault}
use Rattle.command_words.specs.declared.jobs.ArgumentsFault.TheVariants.{Clap, NoMemory}
use Rattle.command_words.specs.Jobs.{GivesRequest, IsFaultBy, IsFaultIn, IsMistake, IsTaken, MayBeDone, faults_of}
use Rattle.command_words.specs.Program.{program}
use Rattle.command_words.proofs.OneRequest.{one_found}

-- the program is a command of which clap says what it matches
pub program_is_simple : is_simple program ≡ true
program_is_simple = refl

-- and what it finds at fault
pub program_is_free : is_simple_and_free program ≡ true
program_is_free = refl

-- what a command matches that is this one
pub matches_for : (a b : App) (arguments : List Text) (found : ArgMatches) → a ≡ b → is_simple b ≡ true → HasMatchesOf a arguments found
    → subcommand_rows_of found ≡ subcommand_of b arguments
matches_for a b arguments found e simple has = subst (λ (x : App). subcommand_rows_of found ≡ subcommand_of x arguments) e
    ((has (subst (λ (x : App). is_simple x ≡ true) (sym e) simple)).1)

-- what a command finds at fault that is the program
pub faults_for : {T : Type 0} (a : App) (arguments : List Text) (r : Result T Error) → a ≡ program
    → (is_simple_and_free a ≡ true → FailsBy (fault_of a arguments) r) → FailsBy (faults_of arguments) r
unfolding faults_of
faults_for a arguments r e fails = subst (λ (x : App). FailsBy (fault_of x arguments) r) e
    (fails (subst (λ (x : App). is_simple_and_free x ≡ true) (sym e) program_is_free))

-- what holds of the error that `?` makes follows from what made it
pub passed_up : {T E : Type 0} (r : Result T E) (P Q : E → Type 0) → IsErrAnd r P → ((e : E) → P e → Q e) → IfErr r Q
passed_up (Ok x) P Q made follows = tt
passed_up (Err e) P Q made follows = follows e made

-- clap's error of what is at fault in the arguments is told
pub told : (arguments : List Text) (error : Error) (fault : ArgumentsFault) → HasKind (faults_of arguments) error → IsFaultBy error fault
    → IsFaultIn arguments fault
told arguments error NoMemory has by = tt
told arguments error (Clap e) (inl memory) by = absurd (by.0 memory)
told arguments error (Clap e) (inr among) by = subst (λ (x : Error). IsFaultIn arguments (Clap x)) (sym by.1) (by.0, inl among)

-- an error of another kind than a demand for help tells a mistake
pub mistaken : (kind : ErrorKind) (error : Error) (fault : ArgumentsFault) → kind_of error ≡ kind → kind ≢ DisplayHelp → kind ≢ DisplayVersion
    → IsFaultBy error fault → IsMistake fault
mistaken kind error NoMemory is help version by = tt
mistaken kind error (Clap e) is help version by =
    let same : kind_of e ≡ kind = ap kind_of by.1 ∙ is in
    (subst (λ (x : Error). kind_of x ≢ OutOfMemory) (sym by.1) by.0, λ asks. elim asks [ inl h ↦ help (sym same ∙ h) | inr v ↦ version (sym same ∙ v) ])

-- a mistake is told of arguments that fit, where the job that they hold may not be done
pub declined : (arguments : List Text) (request : Request) (fault : ArgumentsFault) → IsTaken arguments → GivesRequest arguments request → IsMistake fault
    → (fault ≢ NoMemory → MayBeDone request.job → ⊥) → IsFaultIn arguments fault
declined arguments request NoMemory taken gives mistake barred = tt
declined arguments request (Clap error) taken gives mistake barred = (
  mistake.0,
  inr (
    taken,
    mistake,
    λ other asks. barred (λ e. (let bad : Clap error ≡ NoMemory = e in cc))
        (subst (λ (r : Request). MayBeDone r.job) (one_found (subcommand_of program arguments) other request asks.gives gives) asks.job),
  ),
)
