-- What is told beside an answer, or where there is none.
use Rattle.std.specs.Prelude.{◌≡◌, ℕ, List, [], Option, MatchResult, Result, Ok, Err, IfOk, IfErr}
use Rattle.std.specs.Prelude.{option_map, string_bytes}
use Rattle.std.specs.Io.KnownBytes.{Appends}
use Rattle.batch_book.specs.History.{BookView}
use Rattle.exchange.specs.declared.answered.NotedAnswer.{NotedAnswer}
use Rattle.named_files.specs.declared.notes.JobFailure.{JobFailure}
use Rattle.named_files.specs.declared.notes.JobFailure.TheVariants.{NoMemory as Memory}
use Rattle.named_files.specs.declared.notes.JobFailure.TheVariants.{OutputFailure}
use Rattle.named_files.specs.declared.output_failure.OutputFailure.{OutputFailure as Unwritten}
use Rattle.named_files.specs.Notes.{IsNoteOn, IsNoAnswer}
use Rattle.drive_answers.specs.Ways.{Ways}
use Rattle.session_answers.specs.HostAnswers.{SessionEnd}
use Rattle.exchange.specs.Responses.{Response}
use Rattle.recorded_sessions.specs.declared.job_result.JobResult.{JobResult}
use Rattle.named_files.specs.declared.write_failures.WriteFailures.{WriteFailures}
use Rattle.drive_answers.specs.declared.fault.DriveFault.{DriveFault}
use Rattle.drive_answers.specs.declared.fault.DriveFault.TheVariants.{Untold, NoMemory}

-- what is told beside an answer
abbrev pub IsAnswered : NotedAnswer → Type 0
IsAnswered done = IsNoteOn done.answer (option_map (λ line. string_bytes line) done.note)

-- what is so of what was told where there is no answer: this, where that is refused; and that,
-- where something couldn't be written
abbrev pub IsJobFailure : (behind cut : List ℕ → Type 0) → List ℕ → JobFailure → Type 0
IsJobFailure behind cut told (OutputFailure what) = cut told
IsJobFailure behind cut told refused = behind told

-- Something was told after what stood there. What is answered is so after it; or there is no
-- answer.
abbrev pub HasTold : {X : Type 0} → Option (List ℕ) → Option (List ℕ) → (List ℕ → X → Type 0)
    → (behind cut : List ℕ → Type 0) → Result X JobFailure → Type 0
HasTold before after is behind cut result =
    (told : List ℕ) × Appends before after told × IfOk result (is told)
    × IfErr result (IsJobFailure behind cut told)

-- nothing was told
abbrev pub IsNothing : List ℕ → Type 0
IsNothing told = told ≡ []

-- why there is nothing to print after settings: something couldn't be written, or no memory
abbrev pub IsMissedFor : DriveFault → JobFailure → Type 0
IsMissedFor Untold missed = (what : Unwritten) × (missed ≡ OutputFailure what)
IsMissedFor NoMemory missed = missed ≡ Memory

-- what comes of a job that was told this before, left this book, and ports and clients so
abbrev pub response_of : List ℕ → JobResult → Option BookView → Ways → List SessionEnd → Response
response_of told found left ports ends =
    record { told = told; end = found.answer; left = left; ports = ports; ends = ends }

-- where a job has no answer, nothing was told before, no port was opened, and no end of a session
-- is known
abbrev pub IsUnanswered : Ways → Ways → List SessionEnd → List ℕ → Type 0
IsUnanswered was opens ends told = (told ≡ []) × (opens ≡ was) × (ends ≡ [])

abbrev pub HasNote : Result NotedAnswer JobFailure → Type 0
HasNote result = MatchResult result IsAnswered IsNoAnswer

-- what is answered where this comes of a job, and this is lost
abbrev pub IsFinished : Result JobResult JobFailure → WriteFailures → Result NotedAnswer JobFailure
    → Type 0
IsFinished (Ok found) lost (Ok done) = (done.answer ≡ found.answer) × (done.lost ≡ lost)
IsFinished (Ok found) lost (Err missed) = ⊥
IsFinished (Err missed) lost (Ok done) = ⊥
IsFinished (Err missed) lost (Err told) = told ≡ missed
