-- The commands of the program, as clap reads them.
use Rattle.std.specs.Prelude.{◌≡◌, ℕ, List, [], ◌∷◌, Some, codes, pos, true, false}
use Rattle.std.specs.List.{fold}
use Rattle.clap.specs.Words.{App, Rule, app_of, new_app, new_rule, rule_of, with_rule}
use Rattle.clap.specs.Words.{with_subcommand}
use Rattle.clap.specs.declared.builder.arg.Arg.{Arg}
use Rattle.clap.specs.declared.builder.command.Command.{Command}
use Rattle.clap.specs.declared.builder.command.Command.TheViews.{out-Command as fields_of}
use Rattle.clap.specs.declared.builder.action.ArgAction.TheVariants.{SetTrue}
use Rattle.clap.specs.declared.builder.value_parser.ValueParser.TheVariants as parser
use Rattle.exchange_limits.specs.declared.limits.TheConstants.{MAX_WORKERS}
use Rattle.command_words.specs.declared.commands.Argument.{Argument}
use Rattle.command_words.specs.declared.commands.Argument.TheVariants.{Shape, File, Batch, Schedule}
use Rattle.command_words.specs.declared.commands.Argument.TheVariants.{Port, PortB, Moves, Image}
use Rattle.command_words.specs.declared.commands.Argument.TheVariants.{Record, Scripts, Clients}
use Rattle.command_words.specs.declared.commands.Argument.TheVariants.{Shaped, ImageIn, RecordOut}
use Rattle.command_words.specs.declared.commands.Argument.TheVariants.{Resume, Sync, ImageOut}
use Rattle.command_words.specs.declared.commands.Argument.TheVariants.{Settings, Prices, Scheduled}
use Rattle.command_words.specs.declared.commands.Argument.TheVariants.{Wiring, Switches}
use Rattle.command_words.specs.declared.commands.Argument.TheVariants.{FromSetting, FirstEntries}
use Rattle.command_words.specs.declared.commands.Argument.TheVariants.{Module, Steady, GoOn}
use Rattle.command_words.specs.declared.commands.Argument.TheVariants.{Workers, Quiet}
use Rattle.command_words.specs.declared.commands.CommandName.{CommandName}
use Rattle.command_words.specs.declared.commands.CommandName.TheVariants.{Plan, Check, Draw, Switch}
use Rattle.command_words.specs.declared.commands.CommandName.TheVariants.{Orders, Drive, C004}
use Rattle.command_words.specs.declared.commands.CommandName.TheVariants.{Direct, Apply, Run, Serve}
use Rattle.command_words.specs.declared.commands.CommandName.TheVariants.{Host, Talk, Replay}
use Rattle.command_words.specs.declared.limits.TheConstants.{LAST_MODULE, MAX_CLIENTS, MAX_NUMBER}

-- ---- what a command takes

-- an argument that has to be there
abbrev pub one_argument : List ℕ → Rule
one_argument id = record (new_rule id) { required = true }

-- an argument that has to be there, and may be there so many times
abbrev pub client_arguments : List ℕ → Rule
client_arguments id =
    record (one_argument id)
    { range = Some (record { start_inclusive = 1; end_inclusive = MAX_CLIENTS }) }

-- an option with a value, as `--image FILE`, which may be left out
abbrev pub option : List ℕ → Rule
option id = record (new_rule id) { long = Some id; value_names = 1 }

-- an option with a number from the one to the other, as `--module M`, which may be left out
abbrev pub number_option : List ℕ → ℕ → ℕ → Rule
number_option id low high = record (option id) {
  parser = Some (parser.Signed (pos low) (pos high));
}

-- an option with no value, as `--quiet`, which may be left out
abbrev pub flag : List ℕ → Rule
flag id = record (new_rule id) { long = Some id; action = Some SetTrue }

-- what clap reads of an argument
abbrev pub rule_for : Argument → Rule
rule_for Shape = one_argument (codes "SHAPE")
rule_for File = one_argument (codes "FILE")
rule_for Batch = one_argument (codes "BATCH")
rule_for Schedule = one_argument (codes "SCHEDULE")
rule_for Port = one_argument (codes "PORT")
rule_for PortB = new_rule (codes "PORT_B")
rule_for Moves = one_argument (codes "MOVES")
rule_for Image = one_argument (codes "IMAGE")
rule_for Record = one_argument (codes "RECORD")
rule_for Scripts = client_arguments (codes "SCRIPT")
rule_for Clients = client_arguments (codes "CLIENT")
rule_for Shaped = option (codes "shape")
rule_for ImageIn = option (codes "image")
rule_for RecordOut = option (codes "record")
rule_for Resume = flag (codes "resume")
rule_for Sync = flag (codes "sync")
rule_for ImageOut = option (codes "image-out")
rule_for Settings = option (codes "settings")
rule_for Prices = flag (codes "prices")
rule_for Scheduled = option (codes "schedule")
rule_for Wiring = option (codes "wiring")
rule_for Switches = number_option (codes "switches") 2 2
rule_for FromSetting = record (number_option (codes "from") 0 MAX_NUMBER)
    { defaults = codes "0" ∷ [] }
rule_for FirstEntries = number_option (codes "first") 0 MAX_NUMBER
rule_for Module = number_option (codes "module") 0 LAST_MODULE
rule_for Steady = flag (codes "steady")
rule_for GoOn = flag (codes "go-on")
rule_for Workers = record (number_option (codes "workers") 1 MAX_WORKERS)
    { defaults = codes "1" ∷ [] }
rule_for Quiet = flag (codes "quiet")

-- ---- the commands

-- all of them, in their order
abbrev pub commands : List CommandName
commands =
    Plan ∷ Check ∷ Draw ∷ Switch ∷ Orders ∷ Drive ∷ C004 ∷ Direct ∷ Apply ∷ Run ∷ Serve ∷ Host
    ∷ Talk ∷ Replay ∷ []

-- the word that calls a command, and what it takes, in this order
abbrev pub sheet_of : CommandName → List ℕ × List Argument
sheet_of Plan = (codes "plan", File ∷ Steady ∷ Workers ∷ Quiet ∷ [])
sheet_of Check = (codes "check", Batch ∷ Schedule ∷ Quiet ∷ [])
sheet_of Draw = (codes "draw", Batch ∷ Schedule ∷ Settings ∷ Prices ∷ Quiet ∷ [])
sheet_of Switch =
    (codes "switch", Batch ∷ Scheduled ∷ Steady ∷ Workers ∷ Wiring ∷ Switches ∷ Quiet ∷ [])
sheet_of Orders =
    (codes "orders", Batch ∷ Scheduled ∷ Steady ∷ Workers ∷ Module ∷ Quiet ∷ [])
sheet_of Drive = (
  codes "drive",
  Batch ∷ Port ∷ PortB ∷ Scheduled ∷ Steady ∷ Workers ∷ Wiring ∷ FromSetting ∷ GoOn
      ∷ Quiet ∷ [],
)
sheet_of C004 = (codes "c004", Quiet ∷ [])
sheet_of Direct = (codes "direct", Moves ∷ Quiet ∷ [])
sheet_of Apply = (codes "apply", Shape ∷ Batch ∷ Image ∷ Workers ∷ Quiet ∷ [])
sheet_of Run =
    (codes "run", Shape ∷ Batch ∷ ImageIn ∷ Scheduled ∷ Steady ∷ Workers ∷ Quiet ∷ [])
sheet_of Serve =
    (codes "serve", Shape ∷ Scripts ∷ ImageIn ∷ RecordOut ∷ ImageOut ∷ Workers ∷ Quiet ∷ [])
sheet_of Host = (
  codes "host",
  Shape ∷ Clients ∷ ImageIn ∷ RecordOut ∷ Resume ∷ Sync ∷ ImageOut ∷ Workers ∷ Quiet ∷ [],
)
sheet_of Talk =
    (codes "talk", Shape ∷ ImageIn ∷ RecordOut ∷ Resume ∷ Sync ∷ ImageOut ∷ Quiet ∷ [])
sheet_of Replay = (codes "replay", Record ∷ Shaped ∷ ImageIn ∷ FirstEntries ∷ Quiet ∷ [])

abbrev pub command_word : CommandName → List ℕ
command_word name = (sheet_of name).0

abbrev pub arguments_of : CommandName → List Argument
arguments_of name = (sheet_of name).1

-- a command with these arguments more
abbrev pub with_arguments : App → List Argument → App
with_arguments = fold (λ app argument. with_rule app (rule_for argument))

-- a command, with what it takes
abbrev pub command : CommandName → App
command name = with_arguments (new_app (command_word name)) (arguments_of name)

-- the program's name, which a command has to follow, or `--version`
abbrev pub top : App
top =
    let new = new_app (codes "exchange") in
    record new { top = record new.top { subcommand_required = true; has_version = true } }

-- one command more below the program
abbrev pub with_command : App → CommandName → App
with_command app name = with_subcommand app (command name).top

-- the whole program
abbrev pub program : App
program = fold with_command top commands

-- ---- clap's arguments and commands

-- clap's argument is this one, and no command below shares it
pub record IsArgument (wanted : Rule) (arg : Arg) : Type 0 where
  pub rule : rule_of arg ≡ wanted
  pub local : arg.global ≡ false

-- the command has no argument that the commands below it share
abbrev pub IsLocal : Command → Type 0
IsLocal command = (fields_of command).has_globals ≡ false

-- clap's command is this one
pub record IsCommand (wanted : App) (command : Command) : Type 0 where
  pub app : app_of command ≡ wanted
  pub local : IsLocal command
