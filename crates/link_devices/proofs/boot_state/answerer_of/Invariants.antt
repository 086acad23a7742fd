use Rattle.std.proofs.Common.{◌≡◌, false, take}
use Rattle.peek_poke.specs.Messages.{IsPartial}
use Rattle.link_devices.proofs.boot_state.answerer_of.Given as goal

abbrev pub invariant-loop-byte : goal.invariant-loop-byte
invariant-loop-byte l =
    record { alive : l.end.failed ≡ false; come : l.end.bytes ≡ take l.byte-index l.begun; partial : IsPartial l.end.bytes }
