-- The bytes that can't stand where they come. That they are refused is this project's choice.
use Rattle.std.specs.Prelude.{◌≡◌, ◌≢◌, ◌<◌, ◌≤◌, ◌↔◌, ℕ, List, [], Option, Result}
use Rattle.std.specs.Result.{IsErrOf}
use Rattle.c004_commands.specs.declared.port.TheConstants.{PORTS}
use Rattle.c004_commands.specs.declared.command.Command.{Command}
use Rattle.c004_commands.specs.declared.reader.CommandFault.{CommandFault}
use Rattle.c004_commands.specs.declared.reader.CommandFault.TheVariants.{UnknownCommand, BadPort}

-- where a command is due, a byte above the last command's; inside one, a number that no port has
abbrev pub IsFault : List ℕ → ℕ → CommandFault → Type 0
IsFault rest byte (UnknownCommand refused) = (rest ≡ []) × (6 < byte) × (refused ≡ byte)
IsFault rest byte (BadPort refused) = (rest ≢ []) × (PORTS ≤ byte) × (refused ≡ byte)

-- an answer is a fault just where the byte has it
abbrev pub TellsFaults : Result (Option Command) CommandFault → List ℕ → ℕ → Type 0
TellsFaults answer rest byte =
    (fault : CommandFault) → IsErrOf answer fault ↔ IsFault rest byte fault
