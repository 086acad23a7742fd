-- What the program prints for a job.
use Rattle.std.specs.Prelude.{◌≡◌, ◌⊎◌, ◌++◌, ℕ, List, [], Option, None, ⊤, unwrap_or}
use Rattle.std.specs.Io.KnownBytes.{Consumes, IsAtEnd}
use Rattle.batch.specs.ShapeView.{widest}
use Rattle.plan_answers.specs.Answers.{IsPlanned, IsChecked}
use Rattle.rack_answers.specs.Answers.{IsApplied, IsRunAnswer}
use Rattle.rack_answers.specs.Orders.{IsOrdered}
use Rattle.rack_answers.specs.Switching.{IsOn, IsSwitched}
use Rattle.plan_answers.specs.Drawings.{IsDrawn}
use Rattle.plan_answers.specs.Pricing.{IsPriced}
use Rattle.plan_answers.specs.Directing.{IsDirected}
use Rattle.plan_answers.specs.Schedules.{source_map}
use Rattle.plan_answers.specs.declared.source.ScheduleSource.{ScheduleSource}
use Rattle.crossbar.specs.Switch.{idle}
use Rattle.batch_book.specs.History.{BookView}
use Rattle.session_answers.specs.HostAnswers.{KnownClients, SessionEnd}
use Rattle.link_devices.specs.End.{EndState}
use Rattle.link_devices.specs.Answering.{HasRun}
use Rattle.plan_answers.specs.Refusals.{Printed}
use Rattle.session_answers.specs.Serving.{IsServeAnswer}
use Rattle.record_replay.specs.ReplayAnswers.{IsReplayPrinted}
use Rattle.plan_answers.specs.declared.limits.TheConstants.{DONE, REFUSED}
use Rattle.command_words.specs.Jobs.{Files, file_uses, files_of}
use Rattle.command_words.specs.declared.jobs.Job.{Job}
use Rattle.command_words.specs.declared.jobs.Job.TheVariants.{Texts, Ports as OverPorts, Sessions}
use Rattle.command_words.specs.declared.jobs.TextJob.{TextJob}
use Rattle.command_words.specs.declared.jobs.TextJob.TheVariants.{Plan, Check, Draw, Prices, Switch}
use Rattle.command_words.specs.declared.jobs.TextJob.TheVariants.{Orders, Direct, Apply, Run}
use Rattle.command_words.specs.declared.jobs.TextJob.TheVariants.{Replay}
use Rattle.command_words.specs.declared.jobs.PortJob.{PortJob}
use Rattle.command_words.specs.declared.jobs.PortJob.TheVariants.{Drive, C004}
use Rattle.command_words.specs.declared.jobs.SessionJob.{SessionJob}
use Rattle.command_words.specs.declared.jobs.SessionJob.TheVariants.{Serve, Host, Talk}
use Rattle.command_words.specs.declared.jobs.SharedRack.{SharedRack}
use Rattle.named_files.specs.DistinctFiles.{AreSeenApart, Leading}
use Rattle.named_files.specs.Contents.{AreContents, Holding}
use Rattle.drive_answers.specs.Ways.{Ways}
use Rattle.exchange.specs.Drives.{IsDriveBy, IsDriveCut, names_in}
use Rattle.named_files.specs.Notes.{GivesUp}
use Rattle.recorded_sessions.specs.Answers.{IsLiveAnswer, hosting, talking}

-- what is given to a job besides its files: what is left of standard input, as far as that is
-- known, the ports, and what is known of clients by their names
pub record Given : Type 0 where
  pub input : Option (List ℕ)
  pub ports : Ways
  pub clients : List (List ℕ) → KnownClients

abbrev pub given_by : Option (List ℕ) → Ways → (List (List ℕ) → KnownClients) → Given
given_by input ports clients = record { input = input; ports = ports; clients = clients }

-- what comes of a job: what is told before its answer, this itself, the book that sessions leave,
-- the ports after it, and how the sessions of live clients ended
pub record Response : Type 0 where
  pub told : List ℕ
  pub end : Printed
  pub left : Option BookView
  pub ports : Ways
  pub ends : List SessionEnd

-- the bytes of a file; none where none was read
abbrev pub text_in : Option (List ℕ) → List ℕ
text_in file = unwrap_or file []

-- where a schedule comes from, with its text, where a file has one
abbrev pub source_in : ScheduleSource (List ℕ) → List ℕ → ScheduleSource (List ℕ)
source_in source text = source_map (λ _. text) source

-- what `c004` replied to what came of standard input, to its end, or as far as it could be read; it
-- prints nothing after that
abbrev pub IsC004By : Option (List ℕ) → List ℕ → Printed → Type 0
IsC004By input replies end =
    (came told : List ℕ) × (after : Option (List ℕ)) × (switch : EndState)
    × Consumes input after came
    × HasRun (record { switch = idle; begun = [] }) came replies told switch × (end.text ≡ [])
    × ((IsAtEnd after × (end.status ≡ DONE)) ⊎ (end.status ≡ REFUSED))

-- the same, up to a reply that couldn't be written whole
abbrev pub IsC004Cut : Option (List ℕ) → List ℕ → Type 0
IsC004Cut input told = (rest : List ℕ) × (end : Printed) × IsC004By input (told ++ rest) end

-- the answer to a job whose files are all that it asks for, and contain this
abbrev pub IsTextAnswer : TextJob → Files (List ℕ) → Printed → Type 0
IsTextAnswer (Plan file planning workers) files end =
    IsPlanned planning widest (text_in files.list) end
IsTextAnswer (Check batch schedule) files end =
    IsChecked widest (text_in files.list) (text_in files.schedule) end
IsTextAnswer (Draw batch schedule settings) files end =
    IsDrawn widest (text_in files.list) (text_in files.schedule) settings end
IsTextAnswer (Prices batch schedule) files end =
    IsPriced widest (text_in files.list) (text_in files.schedule) end
IsTextAnswer (Switch batch source wiring has_two workers) files end =
    IsOn (λ board. IsSwitched (source_in source (text_in files.schedule)) has_two board
    (text_in files.list)) files.wiring end
IsTextAnswer (Orders batch source of_module workers) files end =
    IsOrdered (source_in source (text_in files.schedule)) of_module (text_in files.list) end
IsTextAnswer (Direct moves) files end = IsDirected (text_in files.list) end
IsTextAnswer (Apply shape batch image workers) files end =
    IsApplied shape (text_in files.list) (text_in files.schedule) end
IsTextAnswer (Run shape batch source image workers) files end =
    IsRunAnswer (source_in source (text_in files.schedule)) shape (text_in files.list) files.image
    end
IsTextAnswer (Replay shape recorded image first) files end =
    IsReplayPrinted shape (text_in files.list) files.image first end

-- the answer to a job of a switch, where this is left of standard input, and the ports are left so;
-- it was told this before
abbrev pub IsPortAnswer : PortJob → Files (List ℕ) → Option (List ℕ) → (was opens : Ways) → List ℕ
    → Printed → Type 0
IsPortAnswer (Drive batch port port_b source wiring first goes_on workers) files input was opens
    told end =
    IsDriveBy (source_in source (text_in files.schedule)) (text_in files.list) files.wiring first
    goes_on (names_in port port_b) input was opens told end
IsPortAnswer C004 files input was opens told end = IsC004By input told end × (opens ≡ was)

-- what was told before it where not all of that could be written
abbrev pub IsPortCut : PortJob → Files (List ℕ) → Option (List ℕ) → (was opens : Ways) → List ℕ
    → Type 0
IsPortCut (Drive batch port port_b source wiring first goes_on workers) files input was opens told =
    IsDriveCut (source_in source (text_in files.schedule)) (text_in files.list) files.wiring first
    goes_on (names_in port port_b) input was opens told
IsPortCut C004 files input was opens told = IsC004Cut input told × (opens ≡ was)

-- the answer to a job that has sessions; only `host` has live clients
abbrev pub IsSessionAnswer : Holding → SharedRack → SessionJob → Files (List ℕ) → Given → Response
    → Type 0
IsSessionAnswer holds rack (Serve scripts workers) files given response =
    (response.told ≡ [])
    × IsServeAnswer rack.shape files.image files.scripts response.end response.left
    × (response.ends ≡ [])
IsSessionAnswer holds rack (Host clients workers) files given response =
    (response.told ≡ [])
    × IsLiveAnswer holds rack clients files.image
    (hosting rack (given.clients clients) response.ends response.end) response.end response.left
IsSessionAnswer holds rack Talk files given response =
    (after : Option (List ℕ))
    × IsLiveAnswer holds rack [] files.image
    (talking rack given.input after response.told response.end) response.end response.left
    × (response.ends ≡ [])

-- the answer to a job whose files contain this; only a job of a switch asks for ports
abbrev pub IsAnswerTo : Holding → Job → Files (List ℕ) → Given → Response → Type 0
IsAnswerTo holds (Texts job) files given response =
    (response.left ≡ None) × (response.ends ≡ []) × (response.ports ≡ given.ports)
    × (response.told ≡ []) × IsTextAnswer job files response.end
IsAnswerTo holds (OverPorts job) files given response =
    (response.left ≡ None) × (response.ends ≡ [])
    × IsPortAnswer job files given.input given.ports response.ports response.told response.end
IsAnswerTo holds (Sessions rack job) files given response =
    (response.ports ≡ given.ports) × IsSessionAnswer holds rack job files given response

-- what was told before an answer where not all of it could be written
abbrev pub IsToldCut : Job → Files (List ℕ) → Option (List ℕ) → (was opens : Ways) → List ℕ
    → Type 0
IsToldCut (OverPorts job) files input was opens told = IsPortCut job files input was opens told
IsToldCut job files input was opens told = ⊥

-- the answer to a job, where its files have been read
abbrev pub IsJobAnswer : Holding → Given → Job → Response → Type 0
IsJobAnswer holds given job response =
    (files : Files (List ℕ)) × (rest : Option (List ℕ))
    × AreContents holds given.input (files_of job) files rest
    × IsAnswerTo holds job files (given_by rest given.ports given.clients) response

-- the job is `talk`
abbrev pub IsTalk : Job → Type 0
IsTalk (Sessions rack Talk) = ⊤
IsTalk job = ⊥

-- what a system has by name: what its files hold, and where names lead
pub record Named : Type 1 where
  pub holds : Holding
  pub leads : Leading

abbrev pub named_by : Holding → Leading → Named
named_by holds leads = record { holds = holds; leads = leads }

-- What was told before an answer where not all of it could be written: then what the job writes was
-- seen to be apart from what it reads.
abbrev pub IsJobCut : Named → Given → Job → Ways → List SessionEnd → List ℕ → Type 0
IsJobCut named given job ports ends told =
    AreSeenApart named.leads (file_uses job)
    × (files : Files (List ℕ)) × (rest : Option (List ℕ))
    × AreContents named.holds given.input (files_of job) files rest
    × IsToldCut job files rest given.ports ports told × (ends ≡ [])

-- The answer to a job, and then what it writes was seen to be apart from what it reads; or why
-- there is none, and then nothing was told, no port was opened, no end of a session is known, and
-- no book is left.
abbrev pub IsResponseTo : Named → Given → Job → Response → Type 0
IsResponseTo named given job response =
    (AreSeenApart named.leads (file_uses job) × IsJobAnswer named.holds given job response)
    ⊎ ((response.told ≡ []) × (response.ports ≡ given.ports)
    × (response.ends ≡ []) × (response.left ≡ None) × GivesUp response.end)
