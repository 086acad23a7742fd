-- How contracts see a reader: the bytes of the command that was begun.
use Rattle.std.specs.Prelude.{◌≡◌, ℕ, List, [], ◌∷◌, ◌++◌, drop, Option}
use Rattle.std.specs.Option.{option_to_list}
use Rattle.c004_commands.specs.Commands.{text, ArePorts, AreCommands, Spells}
use Rattle.c004_commands.specs.declared.command.Command.{Command}
use Rattle.c004_commands.specs.declared.reader.PartialCommand.{PartialCommand}
use Rattle.c004_commands.specs.declared.reader.PartialCommand.TheVariants.{Nothing, Connect}
use Rattle.c004_commands.specs.declared.reader.PartialCommand.TheVariants.{ConnectFrom, Join}
use Rattle.c004_commands.specs.declared.reader.PartialCommand.TheVariants.{JoinOf, Enquire, Cut}
use Rattle.c004_commands.specs.declared.reader.PartialCommand.TheVariants.{CutPair, CutPairOf}

-- the bytes that have come of a command
abbrev pub begun_bytes : PartialCommand → List ℕ
begun_bytes Nothing = []
begun_bytes Connect = 0 ∷ []
begun_bytes (ConnectFrom input) = 0 ∷ input ∷ []
begun_bytes Join = 1 ∷ []
begun_bytes (JoinOf link1) = 1 ∷ link1 ∷ []
begun_bytes Enquire = 2 ∷ []
begun_bytes Cut = 5 ∷ []
begun_bytes CutPair = 6 ∷ []
begun_bytes (CutPairOf link1) = 6 ∷ link1 ∷ []

-- the chip has the ports that have come
abbrev pub HasBegunPorts : PartialCommand → Type 0
HasBegunPorts begun = ArePorts (drop 1 (begun_bytes begun))

-- what has come and the byte are the command that is given, if one is, and then what is left
pub record Reads (rest : List ℕ) (byte : ℕ) (given : Option Command) (left : List ℕ) : Type 0 where
  pub whole : rest ++ byte ∷ [] ≡ text (option_to_list given) ++ left
  pub ports : AreCommands (option_to_list given)

-- the same, of what was begun and is begun now
abbrev pub Becomes : PartialCommand → ℕ → Option Command → PartialCommand → Type 0
Becomes begun byte given new = Reads (begun_bytes begun) byte given (begun_bytes new)

-- whatever text has left the rest, with the byte it spells the command that is given as well, and
-- then what is left
abbrev pub GoesOn : List ℕ → ℕ → Option Command → List ℕ → Type 0
GoesOn rest byte given left =
    (bytes : List ℕ) (commands : List Command) → Spells bytes commands rest
    → Spells (bytes ++ byte ∷ []) (commands ++ option_to_list given) left
