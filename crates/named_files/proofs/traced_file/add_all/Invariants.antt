use Rattle.std.proofs.Common.{◌≡◌, ◌++◌, drop}
use Rattle.named_files.proofs.traced_file.add_all.Given as goal

abbrev pub invariant-loop-byte : goal.invariant-loop-byte
invariant-loop-byte l = l.sent ++ drop l.byte-index l.bytes ≡ l.fn.sent ++ l.bytes
