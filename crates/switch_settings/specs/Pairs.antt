-- The pairs of a setting, and the bytes that set a switch to them. Source of the commands: INMOS
-- IMS C004 data sheet.
use Rattle.std.specs.Prelude.{◌≡◌, ◌+◌, ◌*◌, ℕ, List, map}
use Rattle.std.specs.List.{range_with_len}
use Rattle.c004_commands.specs.declared.command.Command.{Command}
use Rattle.c004_commands.specs.declared.command.Command.TheVariants.{Enquire, Connect}
use Rattle.c004_commands.specs.declared.command.Command.TheVariants.{Cut as CutOutput}
use Rattle.c004_commands.specs.declared.command.Command.TheVariants.{Join as JoinLinks, CutPair}
use Rattle.c004_commands.specs.declared.command.TheConstants.{LONGEST_COMMAND}
use Rattle.c004_commands.specs.declared.port.TheConstants.{PORTS}
use Rattle.c004_commands.specs.Commands.{text, AreCommands}
use Rattle.crossbar.specs.Switch.{Switch, after_all, enquiries}
use Rattle.crossbar.specs.Pairs.{room_of, join, cut, without}
use Rattle.crossbar.specs.declared.chip.Wiring.{Wiring}
use Rattle.crossbar.specs.declared.chip.Wiring.TheVariants.{Both, Forth, Back, Board}
use Rattle.crossbar.specs.declared.pair.Pair.{Pair}
use Rattle.switch_settings.specs.declared.bytes.PairChange.{PairChange}
use Rattle.switch_settings.specs.declared.bytes.PairChange.TheVariants.{Join, Cut}

-- the command that joins or parts a pair
abbrev pub command_of : PairChange → Wiring → Pair → Command
command_of Join wiring pair = join wiring pair
command_of Cut wiring pair = cut wiring pair

-- the command that joins two links, or parts them
abbrev pub both_ways_command : PairChange → ℕ → ℕ → Command
both_ways_command Join link1 link2 = JoinLinks link1 link2
both_ways_command Cut link1 link2 = CutPair link1 link2

-- the command that connects an output to an input, or disconnects it
abbrev pub one_way_command : PairChange → ℕ → ℕ → Command
one_way_command Join input output = Connect input output
one_way_command Cut input output = CutOutput output

-- the commands that join or cut those pairs that aren't among others
abbrev pub commands_of : PairChange → Wiring → List Pair → List Pair → List Command
commands_of way wiring others pairs = map (command_of way wiring) (without others pairs)

-- how many bytes the command has that parts a pair
abbrev pub cut_bytes : Wiring → ℕ
cut_bytes Both = LONGEST_COMMAND
cut_bytes Forth = 2
cut_bytes Back = 2
cut_bytes (Board _) = LONGEST_COMMAND

-- how many bytes the longest setting of a switch has
abbrev pub longest_setting : Wiring → ℕ
longest_setting wiring = LONGEST_COMMAND * room_of wiring + 2

-- how many bytes its longest change has
abbrev pub longest_change : Wiring → ℕ
longest_change wiring = (cut_bytes wiring + LONGEST_COMMAND) * room_of wiring + 1

-- the bytes are commands without an enquiry, which turn the one switch into the other
pub record Turns (bytes : List ℕ) (old new : Switch) : Type 0 where
  pub commands : List Command
  pub ports : AreCommands commands
  pub whole : bytes ≡ text commands
  pub quiet : enquiries commands ≡ 0
  pub turned : after_all commands old ≡ new

-- an enquiry of each output, in order
abbrev pub all_enquiries : List Command
all_enquiries = map Enquire (range_with_len 0 PORTS)
