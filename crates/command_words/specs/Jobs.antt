-- The job that the arguments of the command line name.
use Rattle.std.specs.Prelude.{◌≡◌, ◌≢◌, ◌⊎◌, ◌↔◌, ℕ, ◌≤◌, List, [], ◌∷◌, ◌++◌, Some, None, String}
use Rattle.std.specs.Prelude.{codes, length, map, find, flat_map, string_bytes, Option, All}
use Rattle.std.specs.Prelude.{AllPairs, IsTrue, Bool, true, false, not, if◌then◌else◌}
use Rattle.std.specs.Prelude.{option_and_then, option_map, option_to_list, MatchOption, Result, Ok}
use Rattle.std.specs.Prelude.{Err, ⊤}
use Rattle.std.specs.Str.{bytes_eq}
use Rattle.std.specs.Str.Parse.{IsNumeral, digits_value, without_leading_plus}
use Rattle.batch.specs.Numbers.{line_feed}
use Rattle.clap.specs.Words.{Row, Text, Kinds, IsAmong, all_of, fault_of, first_of, found_of}
use Rattle.clap.specs.Words.{one_of, rows_of, subcommand_of}
use Rattle.clap.specs.declared.parser.matches.ArgMatches.{ArgMatches}
use Rattle.clap.specs.declared.parser.matches.ValueSource.TheVariants.{CommandLine}
use Rattle.clap.specs.Values.{kind_of}
use Rattle.clap.specs.declared.error.Error.{Error}
use Rattle.clap.specs.declared.error.kind.ErrorKind.TheVariants.{DisplayHelp, DisplayVersion}
use Rattle.clap.specs.declared.error.kind.ErrorKind.TheVariants.{OutOfMemory}
use Rattle.exchange_limits.specs.declared.limits.TheConstants.{MAX_WORKERS}
use Rattle.plan_answers.specs.declared.source.Planning.{Planning}
use Rattle.plan_answers.specs.declared.source.Planning.TheVariants as planning
use Rattle.plan_answers.specs.declared.source.ScheduleSource.{ScheduleSource}
use Rattle.plan_answers.specs.declared.source.ScheduleSource.TheVariants as source
use Rattle.command_words.specs.declared.limits.TheConstants.{LAST_MODULE, MAX_CLIENTS, MAX_NUMBER}
use Rattle.command_words.specs.declared.uses.Access.{Access}
use Rattle.command_words.specs.declared.uses.Access.TheVariants.{Read, Write, Told, Port}
use Rattle.command_words.specs.declared.uses.FileUse.{FileUse}
use Rattle.command_words.specs.declared.jobs.Job.{Job}
use Rattle.command_words.specs.declared.jobs.Job.TheVariants.{Texts, Ports, Sessions}
use Rattle.command_words.specs.declared.jobs.TextJob.{TextJob}
use Rattle.command_words.specs.declared.jobs.TextJob.TheVariants.{Plan, Check, Draw, Prices, Switch}
use Rattle.command_words.specs.declared.jobs.TextJob.TheVariants.{Orders, Direct, Apply, Run}
use Rattle.command_words.specs.declared.jobs.TextJob.TheVariants.{Replay}
use Rattle.command_words.specs.declared.jobs.PortJob.TheVariants.{Drive, C004}
use Rattle.command_words.specs.declared.jobs.SessionJob.{SessionJob}
use Rattle.command_words.specs.declared.jobs.SessionJob.TheVariants.{Serve, Host, Talk}
use Rattle.command_words.specs.declared.jobs.Request.{Request}
use Rattle.command_words.specs.declared.jobs.RecordFile.{RecordFile}
use Rattle.command_words.specs.declared.jobs.SharedRack.{SharedRack}
use Rattle.command_words.specs.declared.jobs.ArgumentsFault.{ArgumentsFault}
use Rattle.command_words.specs.declared.jobs.ArgumentsFault.TheVariants.{Clap, NoMemory}
use Rattle.command_words.specs.declared.faults.UsageError.{UsageError}
use Rattle.command_words.specs.declared.faults.UsageError.TheVariants.{Memory}
use Rattle.command_words.specs.declared.commands.CommandName.{CommandName}
use Rattle.command_words.specs.declared.commands.CommandName.TheVariants as name
use Rattle.command_words.specs.Program.{program, command_word}

-- what clap has found for the arguments and options of a command
abbrev pub rows_in : ArgMatches → List Row
rows_in matches = rows_of (found_of matches)

-- the arguments themselves give the option, and no default does
abbrev pub IsGiven : Text → List Row → Type 0
IsGiven id rows =
    option_and_then (λ row. row.source) (find (λ row. bytes_eq row.id id) rows) ≡ Some CommandLine

-- the number that the text of an option reads as, where it is there, up to the last
abbrev pub HasNumeral : Text → ℕ → List Row → Option ℕ → Type 0
HasNumeral id last rows None = first_of id rows ≡ None
HasNumeral id last rows (Some n) =
    MatchOption (one_of id rows) ⊥ (λ text. IsNumeral 10 (without_leading_plus text)
    × (n ≡ digits_value 10 (without_leading_plus text)) × (n ≤ last))

-- the number of `--workers`
abbrev pub HasWorkers : List Row → ℕ → Type 0
HasWorkers rows n = HasNumeral (codes "workers") MAX_WORKERS rows (Some n) × (1 ≤ n)

-- the text of an argument
abbrev pub HasText : Text → List Row → Text → Type 0
HasText id rows text = first_of id rows ≡ Some text

-- the text of an option, where it is there
abbrev pub HasOption : Text → List Row → Option Text → Type 0
HasOption id rows text = first_of id rows ≡ text

-- so many clients, or scripts, may be served at once
abbrev pub CanBeServed : List Text → Type 0
CanBeServed served = (1 ≤ length served) × (length served ≤ MAX_CLIENTS)

-- the texts by which clients are named, in their order
abbrev pub HasServed : Text → List Row → List Text → Type 0
HasServed id rows served = (all_of id rows ≡ Some served) × CanBeServed served

-- how a batch is to be planned: `--steady` and `--workers` exclude each other
abbrev pub HasPlanning : List Row → Planning → Type 0
HasPlanning rows planning.Plain = IsGiven (codes "steady") rows → ⊥
HasPlanning rows planning.Steady =
    IsGiven (codes "steady") rows × (IsGiven (codes "workers") rows → ⊥)

-- where a schedule is to come from: `--schedule` excludes both
abbrev pub HasSource : List Row → ScheduleSource Text → Type 0
HasSource rows (source.Plan planning) =
    HasOption (codes "schedule") rows None × HasPlanning rows planning
HasSource rows (source.Text file) =
    HasOption (codes "schedule") rows (Some file) × (IsGiven (codes "steady") rows → ⊥)
    × (IsGiven (codes "workers") rows → ⊥)

-- whether it is said that there are two switches: `--switches` excludes `--wiring`
abbrev pub HasTwo : List Row → Bool → Type 0
HasTwo rows false = IsGiven (codes "switches") rows → ⊥
HasTwo rows true = IsGiven (codes "switches") rows × (IsGiven (codes "wiring") rows → ⊥)

-- the file for the record of sessions: `--resume` and `--sync` are for such a file
abbrev pub HasRecord : List Row → Option RecordFile → Type 0
HasRecord rows None =
    HasOption (codes "record") rows None × (IsGiven (codes "resume") rows → ⊥)
    × (IsGiven (codes "sync") rows → ⊥)
HasRecord rows (Some out) =
    HasOption (codes "record") rows (Some out.name)
    × (IsTrue out.resumes ↔ IsGiven (codes "resume") rows)
    × (IsTrue out.syncs ↔ IsGiven (codes "sync") rows)

-- the rack of an exchange: its shape, the image with which it begins, and where the record of its
-- sessions and its image go
pub record HasRack (rows : List Row) (rack : SharedRack) : Type 0 where
  pub shape : HasText (codes "SHAPE") rows rack.shape
  pub image : HasOption (codes "image") rows rack.image
  pub recorded : HasRecord rows rack.record_out
  pub out : HasOption (codes "image-out") rows rack.image_out

-- the command of a job
abbrev pub name_of : Job → CommandName
name_of (Texts (Plan file planning workers)) = name.Plan
name_of (Texts (Check batch schedule)) = name.Check
name_of (Texts (Draw batch schedule settings)) = name.Draw
name_of (Texts (Prices batch schedule)) = name.Draw
name_of (Texts (Switch batch source wiring has_two workers)) = name.Switch
name_of (Texts (Orders batch source of_module workers)) = name.Orders
name_of (Ports (Drive batch port port_b source wiring first_setting goes_on workers)) = name.Drive
name_of (Ports C004) = name.C004
name_of (Texts (Direct moves)) = name.Direct
name_of (Texts (Apply shape batch image workers)) = name.Apply
name_of (Texts (Run shape batch source image workers)) = name.Run
name_of (Sessions rack (Serve scripts workers)) = name.Serve
name_of (Sessions rack (Host clients workers)) = name.Host
name_of (Sessions rack Talk) = name.Talk
name_of (Texts (Replay shape recorded image first_entries)) = name.Replay

-- what the arguments and options of its command say of a job
abbrev pub HasJob : List Row → Job → Type 0
HasJob rows (Texts (Plan file planning workers)) =
    HasText (codes "FILE") rows file × HasPlanning rows planning × HasWorkers rows workers
HasJob rows (Texts (Check batch schedule)) =
    HasText (codes "BATCH") rows batch × HasText (codes "SCHEDULE") rows schedule
HasJob rows (Texts (Draw batch schedule settings)) =
    HasText (codes "BATCH") rows batch × HasText (codes "SCHEDULE") rows schedule
    × HasOption (codes "settings") rows settings × (IsGiven (codes "prices") rows → ⊥)
HasJob rows (Texts (Prices batch schedule)) =
    HasText (codes "BATCH") rows batch × HasText (codes "SCHEDULE") rows schedule
    × HasOption (codes "settings") rows None × IsGiven (codes "prices") rows
HasJob rows (Texts (Switch batch source wiring has_two workers)) =
    HasText (codes "BATCH") rows batch × HasSource rows source
    × HasOption (codes "wiring") rows wiring × HasTwo rows has_two × HasWorkers rows workers
HasJob rows (Texts (Orders batch source of_module workers)) =
    HasText (codes "BATCH") rows batch × HasSource rows source
    × HasNumeral (codes "module") LAST_MODULE rows of_module × HasWorkers rows workers
HasJob rows (Ports (Drive batch port port_b source wiring first_setting goes_on workers)) =
    HasText (codes "BATCH") rows batch × HasText (codes "PORT") rows port
    × HasOption (codes "PORT_B") rows port_b × HasSource rows source
    × HasOption (codes "wiring") rows wiring
    × HasNumeral (codes "from") MAX_NUMBER rows (Some first_setting)
    × (IsTrue goes_on ↔ IsGiven (codes "go-on") rows) × HasWorkers rows workers
HasJob rows (Ports C004) = ⊤
HasJob rows (Texts (Direct moves)) = HasText (codes "MOVES") rows moves
HasJob rows (Texts (Apply shape batch image workers)) =
    HasText (codes "SHAPE") rows shape × HasText (codes "BATCH") rows batch
    × HasText (codes "IMAGE") rows image × HasWorkers rows workers
HasJob rows (Texts (Run shape batch source image workers)) =
    HasText (codes "SHAPE") rows shape × HasText (codes "BATCH") rows batch
    × HasSource rows source × HasOption (codes "image") rows image × HasWorkers rows workers
HasJob rows (Sessions rack (Serve scripts workers)) =
    HasRack rows rack × HasServed (codes "SCRIPT") rows scripts × HasWorkers rows workers
HasJob rows (Sessions rack (Host clients workers)) =
    HasRack rows rack × HasServed (codes "CLIENT") rows clients × HasWorkers rows workers
HasJob rows (Sessions rack Talk) = HasRack rows rack
HasJob rows (Texts (Replay shape recorded image first_entries)) =
    HasOption (codes "shape") rows shape × HasText (codes "RECORD") rows recorded
    × HasOption (codes "image") rows image
    × HasNumeral (codes "first") MAX_NUMBER rows first_entries

-- a job of this command, as the rows have it
abbrev pub IsJob : CommandName → List Row → Job → Type 0
IsJob name rows job = (name_of job ≡ name) × HasJob rows job

-- the arguments as lists of their bytes
abbrev pub texts_of : {Z : Type 0} → List (String Z) → List Text
texts_of arguments = map (λ word. string_bytes word) arguments

-- the job of the command that this word calls, and whether nothing is to be told beside its answer
pub record IsRequest (word : Text) (rows : List Row) (request : Request) : Type 0 where
  pub calls : word ≡ command_word (name_of request.job)
  pub job : HasJob rows request.job
  pub quiet : IsTrue request.is_quiet ↔ IsGiven (codes "quiet") rows

-- what clap finds in these arguments
abbrev pub GivesRequest : List Text → Request → Type 0
GivesRequest arguments request =
    MatchOption (subcommand_of program arguments) ⊥ (λ p. IsRequest p.0 p.1 request)

-- what the program's grammar finds at fault in the arguments, by the kinds of clap's errors: a
-- demand for help is one of them
unfoldable pub faults_of : List Text → Kinds
faults_of arguments = fault_of program arguments

-- the grammar takes the arguments
abbrev pub IsTaken : List Text → Type 0
IsTaken arguments = faults_of arguments ≡ []

-- as many clients, or scripts, as a job has may be served
abbrev pub IsWithinLimits : Job → Type 0
IsWithinLimits (Sessions rack (Serve scripts workers)) = CanBeServed scripts
IsWithinLimits (Sessions rack (Host clients workers)) = CanBeServed clients
IsWithinLimits job = ⊤

-- the name of a file that stands for standard input
abbrev pub input_name : Text
input_name = codes "-"

-- What a job's files are for, in the order in which they are read: the image with whose words a
-- rack begins; the batch, the moves or the record; the schedule, or the image of `apply`; the
-- wiring of a board; the scripts of sessions.
pub record Files (A : Type 0) : Type 0 where
  pub image : Option A
  pub list : Option A
  pub schedule : Option A
  pub wiring : Option A
  pub scripts : List A

-- all of them, in that order
abbrev pub all_files : {A : Type 0} → Files A → List A
all_files files =
    option_to_list files.image
    ++ (option_to_list files.list
    ++ (option_to_list files.schedule ++ (option_to_list files.wiring ++ files.scripts)))

-- one text, with an image, a schedule and a wiring
abbrev pub of_list : {A : Type 0} → Option A → A → Option A → Option A → Files A
of_list image text schedule wiring =
    record { image = image; list = Some text; schedule = schedule; wiring = wiring; scripts = [] }

-- scripts, on a rack with this image
abbrev pub scripts_on : {A : Type 0} → Option A → List A → Files A
scripts_on image scripts =
    record { image = image; list = None; schedule = None; wiring = None; scripts = scripts }

-- the file that has a schedule, where one has
abbrev pub schedule_in : ScheduleSource Text → Option Text
schedule_in (source.Plan planning) = None
schedule_in (source.Text schedule) = Some schedule

-- the scripts that a job of sessions serves
abbrev pub scripts_of : SessionJob → List Text
scripts_of (Serve scripts workers) = scripts
scripts_of job = []

-- it serves live clients, and no scripts
abbrev pub serves_live : SessionJob → Bool
serves_live (Serve scripts workers) = false
serves_live job = true

-- the names of the live clients that it serves
abbrev pub live_names : SessionJob → List Text
live_names (Host clients workers) = clients
live_names job = []

-- the names of the files that a job reads
abbrev pub text_files : TextJob → Files Text
text_files (Plan file planning workers) = of_list None file None None
text_files (Check batch schedule) = of_list None batch (Some schedule) None
text_files (Draw batch schedule settings) = of_list None batch (Some schedule) None
text_files (Prices batch schedule) = of_list None batch (Some schedule) None
text_files (Switch batch source wiring has_two workers) =
    of_list None batch (schedule_in source) wiring
text_files (Orders batch source of_module workers) = of_list None batch (schedule_in source) None
text_files (Direct moves) = of_list None moves None None
text_files (Apply shape batch image workers) = of_list None batch (Some image) None
text_files (Run shape batch source image workers) = of_list image batch (schedule_in source) None
text_files (Replay shape recorded image first_entries) = of_list image recorded None None

abbrev pub files_of : Job → Files Text
files_of (Texts job) = text_files job
files_of (Ports (Drive batch port port_b source wiring first_setting goes_on workers)) =
    of_list None batch (schedule_in source) wiring
files_of (Ports C004) = scripts_on None []
files_of (Sessions rack job) = scripts_on rack.image (scripts_of job)

-- a job hears standard input itself: `c004`, `talk`, and `drive` where it waits for lines
abbrev pub hears_input : Job → Bool
hears_input (Ports (Drive batch port port_b source wiring first_setting goes_on workers)) =
    not goes_on
hears_input (Ports C004) = true
hears_input (Sessions rack Talk) = true
hears_input job = false

-- a file of this name, of which a job makes this use
abbrev pub file : Access → Text → FileUse
file access name = record { name = name; access = access; role = tt }

-- the name of the file for the record of the sessions on a rack
abbrev pub recorded_in : SharedRack → Option Text
recorded_in rack = option_map (λ out. out.name) rack.record_out

-- the files to which go the record of the sessions on a rack, and the image that they leave
abbrev pub kept_files : SharedRack → List FileUse
kept_files rack =
    map (file Write) (option_to_list (recorded_in rack) ++ option_to_list rack.image_out)

-- a client's files: from the one it is heard, and by the other it is told
abbrev pub client_files : Text → List FileUse
client_files client =
    file Read (client ++ codes ".in") ∷ file Told (client ++ codes ".out") ∷ []

-- the files of a port: it is a device, or two pipes, to the switch and from it
abbrev pub port_files : Text → List FileUse
port_files port =
    file Port port ∷ file Port (port ++ codes ".in") ∷ file Read (port ++ codes ".out") ∷ []

-- the files beside those of `files_of` that a job reads or writes
abbrev pub files_beside : Job → List FileUse
files_beside (Ports (Drive batch port port_b source wiring first_setting goes_on workers)) =
    flat_map port_files (port ∷ option_to_list port_b)
files_beside (Sessions rack job) = kept_files rack ++ flat_map client_files (live_names job)
files_beside job = []

-- the names of all files that a job reads itself; where it hears standard input, that is the last
abbrev pub files_read : Job → List Text
files_read job = all_files (files_of job) ++ (if hears_input job then input_name ∷ [] else [])

-- all files that a job names
abbrev pub file_uses : Job → List FileUse
file_uses job = map (file Read) (files_read job) ++ files_beside job

-- files of these uses have to be two: one of them is written, and they aren't both a port's
abbrev pub Exclude : Access → Access → Type 0
Exclude Read Read = ⊥
Exclude Port Port = ⊥
Exclude one other = ⊤

-- what is written isn't `-`
abbrev pub MayHaveName : FileUse → Type 0
MayHaveName it = Exclude it.access Read → it.name ≢ input_name

-- they have two names, where they have to be two, or the one is standard input
abbrev pub HaveTwoNames : FileUse → FileUse → Type 0
HaveTwoNames one other =
    Exclude one.access other.access ⊎ (one.name ≡ input_name) → one.name ≢ other.name

-- nothing is written that is read, or written too, and standard input is read once, as far as names
-- say
pub record HaveNames (files : List FileUse) : Type 0 where
  pub each : All MayHaveName files
  pub apart : AllPairs HaveTwoNames files

-- the names of a job's live clients; `host` has some
abbrev pub clients_of : Job → List Text
clients_of (Sessions rack job) = live_names job
clients_of job = []

-- a client may have this name: it isn't empty, and stands in one line
abbrev pub IsClientName : Text → Type 0
IsClientName name = (name ≢ []) × All (λ byte. byte ≢ line_feed) name

-- a job may be done: it reads standard input once at most, it writes to no file that it reads or
-- writes too, and its clients have names. No two have one, since both would be told by one file
pub record MayBeDone (job : Job) : Type 0 where
  pub files : HaveNames (file_uses job)
  pub clients : All IsClientName (clients_of job)

-- the arguments ask for this: they fit the grammar, and hold a job that may be done
pub record AskFor (arguments : List Text) (request : Request) : Type 0 where
  pub taken : IsTaken arguments
  pub gives : GivesRequest arguments request
  pub job : MayBeDone request.job

-- the error gives a text that helps, and tells no mistake
abbrev pub AsksForHelp : Error → Type 0
AsksForHelp error = (kind_of error ≡ DisplayHelp) ⊎ (kind_of error ≡ DisplayVersion)

-- a mistake in the arguments is told; or lack of memory, and then nothing is said about them
abbrev pub IsMistake : ArgumentsFault → Type 0
IsMistake NoMemory = ⊤
IsMistake (Clap error) = (kind_of error ≢ OutOfMemory) × (AsksForHelp error → ⊥)

-- why arguments aren't read: what the grammar finds at fault in them; or a mistake, where they fit
-- it, but ask for nothing that may be done; or lack of memory, and then nothing is said about them.
-- No error of clap is about memory
abbrev pub IsFaultIn : List Text → ArgumentsFault → Type 0
IsFaultIn arguments NoMemory = ⊤
IsFaultIn arguments (Clap error) =
    (kind_of error ≢ OutOfMemory)
    × (IsAmong (kind_of error) (faults_of arguments)
    ⊎ (IsTaken arguments × IsMistake (Clap error)
    × ((request : Request) → AskFor arguments request → ⊥)))

-- the fault is this error of clap, or lack of memory where that is what it tells
abbrev pub IsFaultBy : Error → ArgumentsFault → Type 0
IsFaultBy error NoMemory = kind_of error ≡ OutOfMemory
IsFaultBy error (Clap told) = (kind_of error ≢ OutOfMemory) × (told ≡ error)

-- what is read of the rows: something of which this is so; or what is lacking, which is memory
-- where there is something to read
abbrev pub IsReading : {X : Type 0} → (X → Type 0) → Result X UsageError → Type 0
IsReading is (Ok x) = is x
IsReading {X} is (Err lack) = (x : X) → is x → lack ≡ Memory
