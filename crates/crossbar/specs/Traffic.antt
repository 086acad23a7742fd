-- The bytes that pass over the configuration links, in order. That a reply is heard before the next
-- command is sent, and that a conversation which fails may break off anywhere, is this project's
-- choice.
use Rattle.std.specs.Prelude.{◌≡◌, ℕ, List, [], ◌∷◌, ◌++◌, map, length, take, drop, Option, Some}
use Rattle.std.specs.Prelude.{None}
use Rattle.std.specs.List.{flat_map}
use Rattle.std.specs.declared.snapshot.Snapshot.{Snapshot}
use Rattle.c004_commands.specs.Commands.{row, text, AreCommands}
use Rattle.c004_commands.specs.declared.command.Command.{Command}
use Rattle.crossbar.specs.Switch.{enquiries}
use Rattle.crossbar.specs.declared.chip.Chip.{Chip}
use Rattle.crossbar.specs.declared.chip.Chip.TheVariants.{A, B}
use Rattle.crossbar.specs.declared.traffic.Passing.{Passing}
use Rattle.crossbar.specs.declared.traffic.Direction.{Direction}
use Rattle.crossbar.specs.declared.traffic.Direction.TheVariants.{Sent, Heard}

-- those before the last byte, and then that byte; none where there is no last one
abbrev pub all_passed : Option (Snapshot (List Passing) × Snapshot Passing) → List Passing
all_passed None = []
all_passed (Some last) = last.0.value ++ last.1.value ∷ []

-- a byte that was sent to a chip, and one that was heard from it
abbrev pub sent_byte : Chip → ℕ → Passing
sent_byte chip byte = record { chip = chip; direction = Sent; byte = byte }

abbrev pub heard_byte : Chip → ℕ → Passing
heard_byte chip byte = record { chip = chip; direction = Heard; byte = byte }

-- bytes that were sent to a chip, in order
abbrev pub sent_to : Chip → List ℕ → List Passing
sent_to chip bytes = map (sent_byte chip) bytes

-- bytes that were heard from a chip, in order
abbrev pub heard_from : Chip → List ℕ → List Passing
heard_from chip replies = map (heard_byte chip) replies

-- bytes that went to the second of these chips, as far as it is the first
abbrev pub only_to : Chip → Chip → List ℕ → List ℕ
only_to A A bytes = bytes
only_to B B bytes = bytes
only_to A B bytes = []
only_to B A bytes = []

-- a byte that passed, as far as it was sent to the first chip
abbrev pub byte_to : Direction → Chip → Chip → ℕ → List ℕ
byte_to Sent chip at byte = only_to chip at (byte ∷ [])
byte_to Heard chip at byte = []

-- the bytes that a chip was sent, in order
abbrev pub bytes_to : Chip → List Passing → List ℕ
bytes_to chip passed = flat_map (λ p. byte_to p.direction chip p.chip p.byte) passed

-- What passes where a chip is sent commands: each reply is heard after its enquiry, before the
-- next command is sent.
abbrev pub conversed : Chip → List Command → List ℕ → List Passing
conversed chip [] replies = []
conversed chip (command ∷ commands) replies =
    sent_to chip (row command)
    ++ (heard_from chip (take (enquiries (command ∷ [])) replies)
    ++ conversed chip commands (drop (enquiries (command ∷ [])) replies))

-- what is known to have passed grows by this
abbrev pub Passes : Option (List Passing) → Option (List Passing) → List Passing → Type 0
Passes None new more = Unit {0}
Passes (Some old) None more = ⊥
Passes (Some old) (Some new) more = new ≡ old ++ more

-- what is known to have passed grows by the commands that the bytes spell and by their replies
abbrev pub HaveConversed : Chip → List ℕ → List ℕ → Option (List Passing)
    → Option (List Passing) → Type 0
HaveConversed chip bytes replies old new =
    (commands : List Command) → AreCommands commands → bytes ≡ text commands
    → Passes old new (conversed chip commands replies)

-- a front of a conversation in which these commands are sent passed
pub record IsConversationFront (chip : Chip) (commands : List Command) (more : List Passing)
    : Type 0 where
  pub replies : List ℕ
  pub rest : List Passing
  pub all : length replies ≡ enquiries commands
  pub front : conversed chip commands replies ≡ more ++ rest

-- what is known to have passed grows by a front of such a conversation
abbrev pub PassesFront : Chip → List Command → Option (List Passing) → Option (List Passing)
    → Type 0
PassesFront chip commands None new = Unit {0}
PassesFront chip commands (Some old) None = ⊥
PassesFront chip commands (Some old) (Some new) =
    (more : List Passing) × (new ≡ old ++ more) × IsConversationFront chip commands more

-- it grows by a front of the conversation in which the commands that the bytes spell are sent
abbrev pub BreaksOff : Chip → List ℕ → Option (List Passing) → Option (List Passing) → Type 0
BreaksOff chip bytes old new =
    (commands : List Command) → AreCommands commands → bytes ≡ text commands
    → PassesFront chip commands old new
