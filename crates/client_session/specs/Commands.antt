-- The lines that are commands. The grammar is this project's choice.
use Rattle.std.specs.Prelude.{◌≡◌, ◌≢◌, ℕ, List, ◌∷◌, ◌++◌, codes, Bool, true, false, Option, Some}
use Rattle.std.specs.Prelude.{None}
use Rattle.std.specs.Fmt.{decimal}
use Rattle.batch.specs.Text.{IsNumber, number, space}
use Rattle.line_words.specs.HexWords.{IsWord, hex8}
use Rattle.client_session.specs.declared.command.SessionCommand.{SessionCommand}
use Rattle.client_session.specs.declared.command.SessionCommand.TheVariants.{Batch, Plan, Run, Show}
use Rattle.client_session.specs.declared.command.SessionCommand.TheVariants.{Drop, Peek, Poke}
use Rattle.client_session.specs.declared.command.SessionCommand.TheVariants.{Progress, Bye}

-- the line of a command, without its line feed
abbrev pub line_of : SessionCommand → List ℕ
line_of (Batch count) = codes "batch " ++ decimal count
line_of (Plan id) = codes "plan " ++ decimal id
line_of (Run id) = codes "run " ++ decimal id
line_of (Show id) = codes "show " ++ decimal id
line_of (Drop id) = codes "drop " ++ decimal id
line_of (Peek «module» address) = codes "peek " ++ number «module» space ++ hex8 address
line_of (Poke «module» address word) =
    codes "poke " ++ (number «module» space ++ (hex8 address ++ space ∷ hex8 word))
line_of Progress = codes "progress"
line_of Bye = codes "bye"

-- it waits for nobody long: nothing is planned, and no run is made
abbrev pub is_immediate : SessionCommand → Bool
is_immediate (Plan id) = false
is_immediate (Run id) = false
is_immediate command = true

-- the numbers of a command are such as a line can hold
abbrev pub CanBeSpelled : SessionCommand → Type 0
CanBeSpelled (Batch count) = IsNumber count
CanBeSpelled (Plan id) = IsNumber id
CanBeSpelled (Run id) = IsNumber id
CanBeSpelled (Show id) = IsNumber id
CanBeSpelled (Drop id) = IsNumber id
CanBeSpelled (Peek «module» address) = IsNumber «module» × IsWord address
CanBeSpelled (Poke «module» address word) = IsNumber «module» × IsWord address × IsWord word
CanBeSpelled command = Unit {0}

-- what a line means: the command whose line it is, or none where it is no command's line
abbrev pub Means : List ℕ → Option SessionCommand → Type 0
Means line (Some command) = CanBeSpelled command × (line ≡ line_of command)
Means line None = (command : SessionCommand) → CanBeSpelled command → line ≢ line_of command
