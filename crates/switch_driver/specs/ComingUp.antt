-- What passes as a switch comes up, whatever it was left in. Which commands these are, and how old
-- answers are told from its own, is this project's choice.
use Rattle.std.specs.Prelude.{◌≡◌, ◌<◌, ◌+◌, ◌-◌, ℕ, List, [], ◌∷◌, ◌++◌, length, map, drop, Some}
use Rattle.std.specs.List.{range_with_len}
use Rattle.c004_commands.specs.Answers.{answer_byte}
use Rattle.c004_commands.specs.declared.command.Command.{Command}
use Rattle.c004_commands.specs.declared.command.Command.TheVariants.{Connect, Settle, Reset}
use Rattle.c004_commands.specs.declared.port.TheConstants.{PORTS}
use Rattle.crossbar.specs.Traffic.{conversed, heard_from}
use Rattle.crossbar.specs.declared.chip.Chip.{Chip}
use Rattle.crossbar.specs.declared.traffic.Passing.{Passing}
use Rattle.switch_settings.specs.Pairs.{all_enquiries}

-- What ends whatever command was begun, and resets: of no command are more than two bytes missing,
-- and the byte of the first two is a link's number too.
abbrev pub ending : List Command
ending = Settle ∷ Settle ∷ Reset ∷ []

-- each output is joined to the input of its own number
abbrev pub own_join : ℕ → Command
own_join output = Connect output output

abbrev pub own_joins : List Command
own_joins = map own_join (range_with_len 0 PORTS)

-- what an output then answers
abbrev pub own_answer : ℕ → ℕ
own_answer output = answer_byte (Some output)

-- what the outputs after one answer
abbrev pub answers_after : ℕ → List ℕ
answers_after output = map own_answer (range_with_len (output + 1) (PORTS - (output + 1)))

-- what the outputs up to one answer
abbrev pub answers_up_to : ℕ → List ℕ
answers_up_to output = map own_answer (range_with_len 0 (output + 1))

-- A switch came up: it was sent this, and a byte was read after each enquiry. The last of these
-- bytes are what the outputs up to some one answer. Then the answers of those after it were read.
pub record CameUp (chip : Chip) (before after : List Passing) : Type 0 where
  pub first : List ℕ
  pub all : length first ≡ PORTS
  pub output : ℕ
  pub known : output < PORTS
  pub last : drop (PORTS - 1 - output) first ≡ answers_up_to output
  pub passed :
      after
      ≡ before
      ++ (conversed chip (ending ++ own_joins) []
      ++ (conversed chip all_enquiries first ++ heard_from chip (answers_after output)))
