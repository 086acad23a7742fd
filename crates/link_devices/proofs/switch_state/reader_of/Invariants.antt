use Rattle.std.proofs.Common.{◌≡◌, take}
use Rattle.c004_commands.specs.Commands.{IsCommandFront}
use Rattle.link_devices.proofs.switch_state.reader_of.Given as goal

abbrev pub invariant-loop-byte : goal.invariant-loop-byte
invariant-loop-byte l = record { come : l.reader ≡ take l.byte-index l.begun; front : IsCommandFront l.reader }
