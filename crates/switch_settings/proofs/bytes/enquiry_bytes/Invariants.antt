use Rattle.std.proofs.Common.{◌≡◌, ◌*◌, take, map, length}
use Rattle.switch_settings.specs.declared.bytes.TheConstants.{ENQUIRY_BYTES}
use Rattle.std.specs.List.{range_with_len}
use Rattle.c004_commands.specs.Commands.{text}
use Rattle.c004_commands.specs.declared.command.Command.TheVariants.{Enquire}
use Rattle.switch_settings.proofs.bytes.enquiry_bytes.Given as goal

abbrev pub invariant-loop-number : goal.invariant-loop-number
invariant-loop-number l = record {
  size : length l.bytes ≡ ENQUIRY_BYTES;
  stand : l.stand ≡ 2 * l.number;
  bytes : take l.stand l.bytes ≡ text (map Enquire (range_with_len 0 l.number));
}
