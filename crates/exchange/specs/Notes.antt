-- What is told on standard error beside what is printed.
use Rattle.std.specs.Prelude.{◌≡◌, ◌≢◌, ◌⊎◌, ◌++◌, ◌<◌, ⊤, ℕ, false, List, [], Option, None, String}
use Rattle.std.specs.Prelude.{codes, string_bytes}
use Rattle.std.specs.Io.KnownBytes.{Appends}
use Rattle.client_session.specs.Listening.{ListenerLog, TellsOfRefusals}
use Rattle.plan_answers.specs.Refusals.{Printed}
use Rattle.command_words.specs.declared.jobs.Job.{Job}
use Rattle.command_words.specs.declared.jobs.Job.TheVariants.{Texts, Ports as OverPorts, Sessions}
use Rattle.command_words.specs.declared.jobs.TextJob.TheVariants.{Plan, Draw, Switch, Replay}
use Rattle.command_words.specs.declared.jobs.PortJob.TheVariants.{Drive, C004}
use Rattle.command_words.specs.declared.jobs.SessionJob.TheVariants.{Host}
use Rattle.command_words.specs.declared.jobs.Request.{Request}
use Rattle.refusals.specs.declared.refusal.Refusal.{Refusal}
use Rattle.refusals.specs.declared.refusal.Refusal.TheVariants.{NoMemory}
use Rattle.batch.specs.ShapeView.{widest}
use Rattle.batch.specs.Overlap.{Overlap}
use Rattle.batch.specs.Text.{Denotes, number}
use Rattle.batch.specs.declared.transfer.Transfer.{Transfer}
use Rattle.command_words.specs.Jobs.{Files, files_of}
use Rattle.named_files.specs.Contents.{AreContents, Holding}
use Rattle.plan_answers.specs.Drawings.{IsDrawn}
use Rattle.exchange.specs.declared.warnings.TheConstants.{MAX_DRAWN}
use Rattle.exchange.specs.Responses.{Given, IsTalk, text_in}
use Rattle.named_files.specs.Notes.{AreToldLines, HasSecondLine, HasToldLines, IsToldInPart}
use Rattle.named_files.specs.Notes.{IsWholeLine}

-- what may be told beside a session of a reply that is a refusal: nothing, or as much of a whole
-- line as could be written, and of want of memory nothing
abbrev pub MayTell : Refusal → List ℕ → Type 0
MayTell refusal told =
    (told ≡ []) ⊎ ((refusal ≢ NoMemory) × (rest : List ℕ) × IsWholeLine (told ++ rest))

-- what stands on standard error, seen as what a listener has told
abbrev pub told_there : Option (List ℕ) → ListenerLog
told_there bytes = record { bytes = bytes; loan = None }

-- the job is `c004`
abbrev pub IsC004 : Job → Type 0
IsC004 (OverPorts C004) = ⊤
IsC004 job = ⊥

-- two transfers of the batch of this text write one block
abbrev pub HasOverlap : List ℕ → Type 0
HasOverlap text =
    (batch : List Transfer) × (i j : ℕ) × Denotes widest text batch × Overlap batch i j

-- this is the text of a picture that is so high
abbrev pub HasHeight : List ℕ → ℕ → Type 0
HasHeight text height =
    (width : ℕ) × (rest : List ℕ)
    × (text ≡ codes "<svg xmlns='http://www.w3.org/2000/svg' width='" ++ (number width 39
    ++ (codes " height='" ++ (number height 39 ++ rest))))

-- it is a picture that is higher than common tools draw
abbrev pub IsTooHigh : List ℕ → Type 0
IsTooHigh text = (height : ℕ) × HasHeight text height × (MAX_DRAWN < height)

-- what a line warns of beside the answer to a job whose files contain this: `draw` of such a
-- picture, `plan`, `switch` and `drive` of two such transfers
abbrev pub IsWarnedOf : Job → Files (List ℕ) → Type 0
IsWarnedOf (Texts (Draw batch schedule settings)) files =
    (drawn : Printed) × IsDrawn widest (text_in files.list) (text_in files.schedule) settings drawn
    × IsTooHigh drawn.text
IsWarnedOf (Texts (Plan batch planning workers)) files = HasOverlap (text_in files.list)
IsWarnedOf (Texts (Switch batch source wiring has_two workers)) files =
    HasOverlap (text_in files.list)
IsWarnedOf (OverPorts (Drive batch port port_b source wiring first goes_on workers)) files =
    HasOverlap (text_in files.list)
IsWarnedOf job files = ⊥

-- so it is with what a job's files hold
abbrev pub IsJobWarnedOf : Holding → Given → Job → Type 0
IsJobWarnedOf holds given job =
    (files : Files (List ℕ)) × (rest : Option (List ℕ))
    × AreContents holds given.input (files_of job) files rest × IsWarnedOf job files

-- a line that warns of this is wanted, and it is whole
abbrev pub IsWarning : {Z : Type 0} → Type 0 → Request → String Z → Type 0
IsWarning {Z} cause request line =
    (request.is_quiet ≡ false) × cause × IsWholeLine (string_bytes line)

-- the job is `host` or `replay`
abbrev pub TellsLines : Job → Type 0
TellsLines (Sessions rack (Host clients workers)) = ⊤
TellsLines (Texts (Replay shape recorded image first)) = ⊤
TellsLines job = ⊥

-- What was told beside what is replied, where the arguments don't ask for silence, and else
-- nothing: by `talk` what may be told of some refusals, one after another, after what stood there,
-- and then some whole lines; by `c004` what it drops; by what may warn at most a whole line, and
-- that only where there is a cause; and by `host` and `replay` some whole lines.
abbrev pub IsBeside : Type 0 → Request → Option (List ℕ) → Option (List ℕ) → Type 0
IsBeside cause request before after =
    (after ≡ before)
    ⊎ ((request.is_quiet ≡ false) × IsTalk request.job
    × ((mid : Option (List ℕ)) × TellsOfRefusals MayTell (told_there before) (told_there mid)
    × HasToldLines false mid after))
    ⊎ ((request.is_quiet ≡ false) × IsC004 request.job
    × ((told : List ℕ) × Appends before after told))
    ⊎ ((request.is_quiet ≡ false) × cause
    × ((line : List ℕ) × IsWholeLine line × IsToldInPart before after line))
    ⊎ ((request.is_quiet ≡ false) × TellsLines request.job
    × ((lines : List (List ℕ)) × AreToldLines before after lines))

-- what was told on standard error of an answer, after what was told beside it: nothing, or one
-- text of a refusal or of what stopped a drive, and nothing where the arguments ask for that
abbrev pub IsNoted : Type 0 → Request → Printed → Option (List ℕ) → Option (List ℕ) → Type 0
IsNoted cause request end before after =
    (mid : Option (List ℕ)) × IsBeside cause request before mid
    × (Appends mid after []
    ⊎ ((request.is_quiet ≡ false) × (line : List ℕ) × HasSecondLine end line
    × IsToldInPart mid after line))
