use Rattle.std.proofs.Common.{take}
use Rattle.crossbar.specs.Traffic.{sent_to}
use Rattle.switch_driver.specs.Streams.{StreamCarries}
use Rattle.switch_driver.proofs.stream.send.Given as goal

abbrev pub invariant-loop-byte : goal.invariant-loop-byte
invariant-loop-byte g l = StreamCarries g.O.Write.contents g.I.Read.remaining l.initial.stream l.stream l.initial.traffic l.traffic
    (sent_to l.chip (take l.byte-index l.byte-items))
