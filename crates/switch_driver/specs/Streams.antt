-- What passes over the stream to a switch, where its bytes are known.
use Rattle.std.specs.Prelude.{◌≡◌, ℕ, List, [], ◌∷◌, ◌++◌, length, Option}
use Rattle.std.specs.List.{flat_map}
use Rattle.std.specs.Io.KnownBytes.{Appends, Consumes}
use Rattle.c004_commands.specs.Commands.{row}
use Rattle.c004_commands.specs.declared.command.Command.{Command}
use Rattle.crossbar.specs.Switch.{enquiries}
use Rattle.crossbar.specs.Traffic.{sent_to, heard_from}
use Rattle.crossbar.specs.declared.chip.Chip.{Chip}
use Rattle.crossbar.specs.declared.traffic.Direction.{Direction}
use Rattle.crossbar.specs.declared.traffic.Direction.TheVariants.{Sent, Heard}
use Rattle.crossbar.specs.declared.traffic.Passing.{Passing}
use Rattle.switch_driver.specs.declared.stream.SwitchStream.{SwitchStream}

-- a byte, where it went to the switch
abbrev pub where_sent : Direction → ℕ → List ℕ
where_sent Sent byte = byte ∷ []
where_sent Heard byte = []

-- a byte, where it came from the switch
abbrev pub where_heard : Direction → ℕ → List ℕ
where_heard Sent byte = []
where_heard Heard byte = byte ∷ []

-- the bytes that were sent, in order
abbrev pub bytes_sent : List Passing → List ℕ
bytes_sent passed = flat_map (λ p. where_sent p.direction p.byte) passed

-- the bytes that were heard, in order
abbrev pub bytes_heard : List Passing → List ℕ
bytes_heard passed = flat_map (λ p. where_heard p.direction p.byte) passed

-- This passed over a stream, and was noted in the traffic: what was sent was written after what
-- its writer held, and what was heard was read of what its reader had.
pub record StreamCarries {I O : Type 0} (contents : O → Option (List ℕ))
    (remaining : I → Option (List ℕ)) (old new : SwitchStream I O) (before after : List Passing)
    (more : List Passing) : Type 0 where
  pub written : Appends (contents old.writer) (contents new.writer) (bytes_sent more)
  pub read : Consumes (remaining old.reader) (remaining new.reader) (bytes_heard more)
  pub noted : after ≡ before ++ more

-- something passed over a stream
abbrev pub HasPassed : {I O : Type 0} → (O → Option (List ℕ)) → (I → Option (List ℕ))
    → SwitchStream I O → SwitchStream I O → List Passing → List Passing → Type 0
HasPassed contents remaining old new before after =
    (more : List Passing) × StreamCarries contents remaining old new before after more

-- ---- a command

-- a command was sent over a stream, and the reply was heard if it is an enquiry
pub record HasAsked {I O : Type 0} (contents : O → Option (List ℕ))
    (remaining : I → Option (List ℕ)) (chip : Chip) (command : Command) (reply : List ℕ)
    (old new : SwitchStream I O) (before after : List Passing) : Type 0 where
  pub carried :
      StreamCarries contents remaining old new before after
      (sent_to chip (row command) ++ heard_from chip reply)
  pub count : length reply ≡ enquiries (command ∷ [])

-- a front of its bytes was sent, or all, and nothing was heard
pub record HasAskedInVain {I O : Type 0} (contents : O → Option (List ℕ))
    (remaining : I → Option (List ℕ)) (chip : Chip) (command : Command)
    (old new : SwitchStream I O) (before after : List Passing) : Type 0 where
  pub front : List ℕ
  pub left : List ℕ
  pub bytes_are : row command ≡ front ++ left
  pub carried : StreamCarries contents remaining old new before after (sent_to chip front)
