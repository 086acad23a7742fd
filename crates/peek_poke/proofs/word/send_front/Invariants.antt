use Rattle.std.proofs.Common.{◌≡◌, ◌++◌, take, false}
use Rattle.peek_poke.proofs.word.send_front.Given as goal

abbrev pub invariant-loop-count : goal.invariant-loop-count
invariant-loop-count g l = record {
  kept : l.answerer ≡ record { failed = false; bytes = take l.count l.bytes; taken = l.fn.answerer.taken ++ take l.count l.bytes };
  carried : g.W.Wire.carried l.wire ≡ g.W.Wire.carried l.fn.wire ++ take l.count l.bytes;
  unfailed : g.W.Wire.failures l.wire ≡ g.W.Wire.failures l.fn.wire;
  stays_sure : g.W.Wire.never_fails l.fn.wire → g.W.Wire.never_fails l.wire;
}
