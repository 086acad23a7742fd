use Rattle.std.proofs.Common.{◌≡◌, ◌+◌, ◌++◌, take, drop, length}
use Rattle.c004_commands.specs.Commands.{text}
use Rattle.switch_settings.specs.Pairs.{commands_of}
use Rattle.switch_settings.proofs.bytes.put_pairs.Given as goal

-- the bytes so far and those of the pairs that are left are the bytes of all
abbrev pub invariant-loop-pair : goal.invariant-loop-pair
invariant-loop-pair l = record {
  number : l.count + length (text (commands_of l.way l.wiring l.others (drop l.pair-index l.pairs)))
      ≡ l.stand + length (text (commands_of l.way l.wiring l.others l.pairs));
  bytes : take l.count l.out ++ text (commands_of l.way l.wiring l.others (drop l.pair-index l.pairs)) ≡ take l.stand l.fn.out
      ++ text (commands_of l.way l.wiring l.others l.pairs);
}
