-- What goes over the configuration link: command bytes to the switch, and a byte back for each
-- enquiry.
-- Source: INMOS IMS C004 data sheet. That a port takes whole commands at a time is this project's
-- choice.
use Rattle.std.specs.Prelude.{◌≡◌, ℕ, List}
use Rattle.c004_commands.specs.Commands.{text, AreCommands, Spells}
use Rattle.c004_commands.specs.declared.command.Command.{Command}
use Rattle.crossbar.specs.Switch.{Switch, after_all, answers, enquiries}

-- the bytes are whole commands, and so many of these are enquiries
pub record IsConversation (bytes : List ℕ) (replies : ℕ) : Type 0 where
  pub commands : List Command
  pub ports : AreCommands commands
  pub whole : bytes ≡ text commands
  pub count : enquiries commands ≡ replies

-- the commands that the bytes spell were carried out, in order, and answered
abbrev pub CarriesOut : List ℕ → Switch → Switch → List ℕ → Type 0
CarriesOut bytes old new replies =
    (commands : List Command) → AreCommands commands → bytes ≡ text commands
    → (new ≡ after_all commands old) × (replies ≡ answers commands old)

-- the commands that are whole within the bytes were carried out, in order
abbrev pub CarriesOutWhole : List ℕ → Switch → Switch → Type 0
CarriesOutWhole bytes old new =
    (commands : List Command) (rest : List ℕ) → Spells bytes commands rest
    → new ≡ after_all commands old

-- the bytes are commands, of which the last may not be whole
pub record IsFront (bytes : List ℕ) : Type 0 where
  pub commands : List Command
  pub rest : List ℕ
  pub spells : Spells bytes commands rest
