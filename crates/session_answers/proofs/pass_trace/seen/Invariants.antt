use Rattle.std.proofs.Common.{◌≡◌, ◌++◌, drop}
use Rattle.session_answers.proofs.pass_trace.seen.Given as goal

abbrev pub invariant-loop-byte : goal.invariant-loop-byte
invariant-loop-byte l = l.bytes ++ drop l.byte-index l.byte-items ≡ l.byte-items
