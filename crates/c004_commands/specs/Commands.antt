-- The text of a configuration link: commands as bytes, one after another.
-- Source: INMOS IMS C004 data sheet, its table of configuration messages.
use Rattle.std.specs.Prelude.{◌≡◌, ◌<◌, ℕ, List, [], ◌∷◌, ◌++◌, drop}
use Rattle.std.specs.List.{flat_map, AllByRecursion}
use Rattle.c004_commands.specs.declared.port.TheConstants.{PORTS}
use Rattle.c004_commands.specs.declared.command.Command.{Command}
use Rattle.c004_commands.specs.declared.command.Command.TheVariants.{Connect, Join, Enquire, Settle}
use Rattle.c004_commands.specs.declared.command.Command.TheVariants.{Reset, Cut, CutPair}

-- the bytes of a command: which it is, and then the ports that it names
abbrev pub row : Command → List ℕ
row (Connect input output) = 0 ∷ input ∷ output ∷ []
row (Join link1 link2) = 1 ∷ link1 ∷ link2 ∷ []
row (Enquire output) = 2 ∷ output ∷ []
row Settle = 3 ∷ []
row Reset = 4 ∷ []
row (Cut output) = 5 ∷ output ∷ []
row (CutPair link1 link2) = 6 ∷ link1 ∷ link2 ∷ []

-- each byte is the number of a port
abbrev pub ArePorts : List ℕ → Type 0
ArePorts bytes = AllByRecursion (λ byte. byte < PORTS) bytes

-- the chip has the ports that a command names
abbrev pub HasPorts : Command → Type 0
HasPorts command = ArePorts (drop 1 (row command))

-- the chip has the ports that the commands name
abbrev pub AreCommands : List Command → Type 0
AreCommands commands = AllByRecursion HasPorts commands

-- the bytes of commands, one after another
abbrev pub text : List Command → List ℕ
text commands = flat_map row commands

-- less than a whole command: the bytes that a command begins with, without its last, at least
pub record IsCommandFront (rest : List ℕ) : Type 0 where
  pub command : Command
  pub ports : HasPorts command
  pub next : ℕ
  pub more : List ℕ
  pub row_is : row command ≡ rest ++ next ∷ more

-- the bytes are these commands, and then less than a whole one
pub record Spells (bytes : List ℕ) (commands : List Command) (rest : List ℕ) : Type 0 where
  pub whole : bytes ≡ text commands ++ rest
  pub ports : AreCommands commands
  pub partial : IsCommandFront rest

-- however the bytes are read, they are the same commands and the same rest
abbrev pub HasOneReading : List ℕ → Type 0
HasOneReading bytes =
    (commands others : List Command) (rest left : List ℕ) → Spells bytes commands rest
    → Spells bytes others left → (commands ≡ others) × (rest ≡ left)
