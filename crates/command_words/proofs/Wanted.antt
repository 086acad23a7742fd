-- What the rows have of a job that arguments hold.
use Rattle.std.proofs.Common.{◌≡◌, ◌∙◌, List, Option, Some, None, Result, Ok, Err, IsErrAnd}
use Rattle.std.specs.Prelude.{MatchOption}
use Rattle.clap.specs.Words.{Row, Text}
use Rattle.command_words.specs.declared.jobs.Job.{Job}
use Rattle.command_words.specs.declared.jobs.Job.TheVariants.{Sessions}
use Rattle.command_words.specs.declared.jobs.SessionJob.TheVariants.{Serve, Host}
use Rattle.command_words.specs.declared.jobs.Request.{Request}
use Rattle.command_words.specs.Jobs.{HasJob, IsReading, IsRequest, IsWithinLimits}
use Rattle.command_words.specs.declared.faults.UsageError.{UsageError}
use Rattle.command_words.specs.declared.faults.UsageError.TheVariants.{Memory}

-- what is lacking of a part is lacking of the whole
pub still_lacks : {X : Type 0} (is : X → Type 0) (lack : UsageError) (r : Result X UsageError) → IsErrAnd r (λ e. e ≡ lack) → ((x : X) → is x → lack ≡ Memory)
    → IsReading is r
still_lacks is lack (Ok x) made why = absurd made
still_lacks is lack (Err e) made why = λ x has. made ∙ why x has

-- it has as many clients, or scripts, as may be served
pub within : (o : Option (Text × List Row)) (request : Request) → MatchOption o ⊥ (λ p. IsRequest p.0 p.1 request) → IsWithinLimits request.job
within None request is = absurd is
within (Some p) request is = go request.job is.job
  where
    go : (job : Job) → HasJob p.1 job → IsWithinLimits job
    go (Sessions rack (Serve scripts workers)) has = has.1.1
    go (Sessions rack (Host clients workers)) has = has.1.1
    go job has = tt
