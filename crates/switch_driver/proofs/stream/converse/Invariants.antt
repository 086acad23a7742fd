use Rattle.std.proofs.Common.{take}
use Rattle.switch_driver.proofs.Conversing.{SoFar}
use Rattle.switch_driver.proofs.stream.converse.Given as goal

abbrev pub invariant-loop-byte : goal.invariant-loop-byte
invariant-loop-byte g l = SoFar g.O.Write.contents g.I.Read.remaining l.chip (take l.byte-index l.bytes) l.reader l.replies l.heard l.initial.stream l.stream
    l.initial.traffic l.traffic
