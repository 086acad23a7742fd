use Rattle.std.proofs.Common.{◌≡◌, ◌+◌, ◌++◌, take}
use Rattle.switch_settings.proofs.bytes.put.Given as goal

abbrev pub invariant-loop-byte : goal.invariant-loop-byte
invariant-loop-byte l = record {
  stand : l.count ≡ l.stand + l.byte-index;
  bytes : take l.count l.out ≡ take l.stand l.fn.out ++ take l.byte-index l.byte-items;
}
