-- Files that were opened by name: which were read, and whose, of live clients, were opened.
use Rattle.std.specs.Prelude.{◌≡◌, ◌⊎◌, List, []}
use Rattle.clap.specs.Words.{Text}
use Rattle.command_words.specs.Jobs.{AskFor, all_files, clients_of, files_of}
use Rattle.command_words.specs.declared.jobs.Request.{Request}
use Rattle.named_files.specs.Clients.{AreAdmitted}
use Rattle.named_files.specs.Contents.{StandAmong}
use Rattle.session_answers.specs.HostAnswers.{SessionEnd}
use Rattle.session_answers.specs.Passes.{GivenPasses}

-- the names of the live clients whose files were opened, and of the files that were read, as often
-- as each was
pub record Opened : Type 0 where
  pub admitted : List Text
  pub read : List Text

abbrev pub files_opened : GivenPasses → List Text → Opened
files_opened passes read = record { admitted = passes.admitted; read = read }

abbrev pub none_opened_by_name : Opened
none_opened_by_name = record { admitted = []; read = [] }

-- these are files of the job that the arguments ask for, where its clients' sessions ended so; or
-- nothing was asked for, and none was opened
abbrev pub AreOpenedFor : List Text → List SessionEnd → Opened → Type 0
AreOpenedFor words ends opened =
    ((request : Request) × AskFor words request
    × AreAdmitted (clients_of request.job) ends opened.admitted
    × StandAmong opened.read (all_files (files_of request.job)))
    ⊎ ((ends ≡ []) × (opened ≡ none_opened_by_name))
