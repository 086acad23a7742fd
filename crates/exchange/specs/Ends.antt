-- How the program ends.
use Rattle.std.specs.Prelude.{◌≡◌, ◌≢◌, ◌⊎◌, ◌++◌, ℕ, List, [], Option, None, Result, Ok, Err}
use Rattle.std.specs.Prelude.{IfErr, IfOk, OnErr, OnOk, ⊤}
use Rattle.std.specs.Io.KnownBytes.{Appends}
use Rattle.batch_book.specs.History.{BookView}
use Rattle.plan_answers.specs.Refusals.{Printed}
use Rattle.plan_answers.specs.declared.limits.TheConstants.{DONE}
use Rattle.drive_answers.specs.Ways.{Ways}
use Rattle.command_words.specs.declared.jobs.Job.{Job}
use Rattle.command_words.specs.declared.jobs.Request.{Request}
use Rattle.command_words.specs.declared.jobs.ArgumentsFault.{ArgumentsFault}
use Rattle.command_words.specs.declared.jobs.ArgumentsFault.TheVariants as arguments_fault
use Rattle.command_words.specs.Jobs.{AskFor, AsksForHelp, IsFaultIn, file_uses}
use Rattle.exchange.specs.declared.limits.TheConstants.{MISUSED}
use Rattle.refusals.specs.declared.refusal.Refusal.TheVariants.{NoMemory}
use Rattle.session_answers.specs.HostAnswers.{SessionEnd}
use Rattle.exchange.specs.Responses.{Given, IsJobAnswer, IsJobCut, IsResponseTo, Named, Response}
use Rattle.named_files.specs.Notes.{unanswered, IsToldInPart}
use Rattle.exchange.specs.Notes.{IsJobWarnedOf, IsBeside, IsNoted}
use Rattle.exchange.specs.Outcomes.{HasNote, HasTold, IsUnanswered}
use Rattle.named_files.specs.DistinctFiles.{AreSeenApart}
use Rattle.named_files.specs.declared.notes.JobFailure.{JobFailure}
use Rattle.named_files.specs.Contents.{Holding}
use Rattle.exchange.specs.Keeping.{AreKept, AreKeptBut, AreKeptInPart}
use Rattle.named_files.specs.Outputs.{no_write_failures, none_opened}
use Rattle.named_files.specs.Streams.{Closed}
use Rattle.named_files.specs.declared.outputs.Receipts.{Receipts}
use Rattle.exchange.specs.declared.answered.NotedAnswer.{NotedAnswer}
use Rattle.named_files.specs.declared.output_failure.OutputFailure.{OutputFailure}
use Rattle.named_files.specs.declared.output_failure.OutputFailure.TheVariants.{Answer}
use Rattle.named_files.specs.declared.output_failure.OutputFailure.TheVariants.{SessionFiles}
use Rattle.named_files.specs.declared.output_failure.OutputFailure.TheVariants.{Nowhere, Setting}

-- so is what is left of what was opened for a job, where this comes of it
abbrev pub Keeping : Type 1
Keeping = Job → Response → Type 0

-- these files were kept, and ports and clients are left so
abbrev pub IsLeft : {C : Type 0} → Holding → (C → Closed) → Receipts C → Ways
    → List SessionEnd → Job → Response → Type 0
IsLeft holds received receipts ports ends job response =
    AreKept holds received job response.left receipts × (response.ports ≡ ports)
    × (response.ends ≡ ends)

-- no file was opened to be written, no port, and no client's
abbrev pub IsNoneLeft : {C : Type 0} → Receipts C → Ways → Ways → List SessionEnd → Type 0
IsNoneLeft receipts was opens ends = (receipts ≡ none_opened) × (opens ≡ was) × (ends ≡ [])

-- this was printed after what stood there, and ends with its status
pub record IsPrinted (before after : Option (List ℕ)) (printed : Printed) (code : ℕ) : Type 0 where
  pub text : Appends before after printed.text
  pub status : code ≡ printed.status

-- What couldn't be written where there is an answer: that itself, of which a front was printed, and
-- what is lost of what its sessions leave; or something that they leave, and then the answer was
-- printed whole.
abbrev pub IsUnwrittenOf : NotedAnswer → Option (List ℕ) → Option (List ℕ) → OutputFailure → Type 0
IsUnwrittenOf done before after (Answer error lost) =
    (lost ≡ done.lost) × IsToldInPart before after done.answer.text
IsUnwrittenOf done before after Nowhere = ⊥
IsUnwrittenOf done before after (Setting reason) = ⊥
IsUnwrittenOf done before after (SessionFiles lost) =
    Appends before after done.answer.text × (lost ≡ done.lost) × (lost ≢ no_write_failures)

-- what stood on standard output and on standard error, and stands there in the end
pub record Streams : Type 0 where
  pub out_before : Option (List ℕ)
  pub out_after : Option (List ℕ)
  pub err_before : Option (List ℕ)
  pub err_after : Option (List ℕ)

abbrev pub streams_of : Option (List ℕ) → Option (List ℕ) → Option (List ℕ) → Option (List ℕ)
    → Streams
streams_of out_before out_after err_before err_after =
    record {
      out_before = out_before;
      out_after = out_after;
      err_before = err_before;
      err_after = err_after;
    }

-- what a job left: what the files hold that were opened to be written, the ports, and how the
-- sessions of live clients ended
pub record Behind (C : Type 0) : Type 0 where
  pub receipts : Receipts C
  pub ports : Ways
  pub ends : List SessionEnd

abbrev pub behind : {C : Type 0} → Receipts C → Ways → List SessionEnd → Behind C
behind receipts ports ends = record { receipts = receipts; ports = ports; ends = ends }

-- How a job ended: with its answer, where what it writes was seen to be apart from what it reads,
-- and its files were kept, but for what is lost; or with none.
pub record HasEnded {C : Type 0} (named : Named) (received : C → Closed) (given : Given)
    (request : Request) (streams : Streams) (left : Behind C) (end : Result NotedAnswer JobFailure)
    : Type 0 where
  pub response : HasTold streams.out_before streams.out_after
      (λ told done. (book : Option BookView) × IsJobAnswer named.holds given request.job
      (record {
        told = told;
        end = done.answer;
        left = book;
        ports = left.ports;
        ends = left.ends;
      })
      × AreKeptBut named.holds received request.job book left.receipts done.lost)
      (IsUnanswered given.ports left.ports left.ends)
      (IsJobCut named given request.job left.ports left.ends) end
  pub note : HasNote end
  pub beside : IsBeside (IsJobWarnedOf named.holds given request.job) request streams.err_before
      streams.err_after
  pub apart : OnOk end (AreSeenApart named.leads (file_uses request.job))
  pub unkept : OnErr end (AreKept named.holds received request.job None left.receipts)

-- what is printed, after what was told before
abbrev pub printed_of : Response → Printed
printed_of response =
    record { text = response.told ++ response.end.text; status = response.end.status }

-- The response to what is asked for was printed, with a line beside it where there is one to tell,
-- and what sessions leave was kept.
abbrev pub IsDone : Named → Keeping → Given → Request → Streams → ℕ → Type 0
IsDone named keeps given request streams code =
    (response : Response) × IsResponseTo named given request.job response
    × keeps request.job response
    × IsPrinted streams.out_before streams.out_after (printed_of response) code
    × IsNoted (IsJobWarnedOf named.holds given request.job) request response.end streams.err_before
    streams.err_after

-- nothing was told on standard error
abbrev pub IsSilent : Streams → Type 0
IsSilent streams = Appends streams.err_before streams.err_after []

-- how the program ends where its arguments are at fault, or ask for help
abbrev pub IsFaultEnd : ArgumentsFault → Streams → ℕ → Type 0
IsFaultEnd arguments_fault.NoMemory streams code =
    IsPrinted streams.out_before streams.out_after (unanswered NoMemory) code × IsSilent streams
IsFaultEnd (arguments_fault.Clap error) streams code =
    (AsksForHelp error → (code ≡ DONE) × IsSilent streams)
    × ((AsksForHelp error → ⊥) → (code ≡ MISUSED) × (streams.out_after ≡ streams.out_before))

-- how the program ends where this is given and the arguments ask for this, or are at fault: what it
-- prints after what stood there, what it leaves, and its status
abbrev pub IsEndFor : Named → Keeping → Type 0 → Given → Result Request ArgumentsFault
    → Streams → ℕ → Type 0
IsEndFor named keeps none given (Ok request) streams code =
    IsDone named keeps given request streams code
IsEndFor named keeps none given (Err fault) streams code = none × IsFaultEnd fault streams code

-- how it ends for these arguments
abbrev pub IsEndForArguments : Named → Keeping → Type 0 → List (List ℕ) → Given → Streams
    → ℕ → Type 0
IsEndForArguments named keeps none arguments given streams code =
    (request : Result Request ArgumentsFault) × IfOk request (AskFor arguments)
    × IfErr request (IsFaultIn arguments) × IsEndFor named keeps none given request streams code

-- what is left where not all could be written: ports, clients' ends, and what is so of the files,
-- by what comes of a job, and where it has no answer
pub record Leaving : Type 1 where
  pub ports : Ways
  pub ends : List SessionEnd
  pub keeps : Keeping
  pub cut : Job → Type 0
  pub none : Type 0

-- so it is of these files: what belongs there went to them, but for what is lost of it; nothing,
-- where a job has no answer; and where nothing is asked for none was opened
abbrev pub leaving : {C : Type 0} → Holding → (C → Closed) → Receipts C → Ways → Ways
    → List SessionEnd → Leaving
leaving holds received receipts was ports ends =
    record {
      ports = ports;
      ends = ends;
      keeps = λ job response. AreKeptInPart holds received job response.left receipts
          × (response.ports ≡ ports) × (response.ends ≡ ends);
      cut = λ job. AreKept holds received job None receipts;
      none = IsNoneLeft receipts was ports ends;
    }

-- A front of the response to what is asked for was printed; or of what is told before it, where not
-- all of that could be.
abbrev pub IsDoneInPart : Named → Leaving → Given → Request → (before after : Option (List ℕ))
    → Type 0
IsDoneInPart named left given request before after =
    ((response : Response) × IsResponseTo named given request.job response
    × left.keeps request.job response × IsToldInPart before after (printed_of response).text)
    ⊎ ((told : List ℕ) × IsJobCut named given request.job left.ports left.ends told
    × left.cut request.job × Appends before after told)

-- the same of arguments that are at fault; of clap's texts it may be anything
abbrev pub IsFaultCut : ArgumentsFault → (before after : Option (List ℕ)) → Type 0
IsFaultCut arguments_fault.NoMemory before after =
    IsToldInPart before after (unanswered NoMemory).text
IsFaultCut (arguments_fault.Clap error) before after = ⊤

abbrev pub IsCut : Named → Leaving → Given → Result Request ArgumentsFault
    → (before after : Option (List ℕ)) → Type 0
IsCut named left given (Ok request) before after =
    IsDoneInPart named left given request before after
IsCut named left given (Err fault) before after = left.none × IsFaultCut fault before after

-- what was printed for these arguments where not all could be written, and what is left
abbrev pub IsCutFor : Named → Leaving → List (List ℕ) → Given → (before after : Option (List ℕ))
    → Type 0
IsCutFor named left arguments given before after =
    (request : Result Request ArgumentsFault) × IfOk request (AskFor arguments)
    × IfErr request (IsFaultIn arguments) × IsCut named left given request before after

-- how it ends where the arguments can't be had as texts
abbrev pub IsEndWithoutArguments : Option (List ℕ) → Option (List ℕ) → ℕ → Type 0
IsEndWithoutArguments before after code =
    IsPrinted before after (unanswered NoMemory) code ⊎ ((code ≡ MISUSED) × (after ≡ before))
