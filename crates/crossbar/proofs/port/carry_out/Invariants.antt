use Rattle.std.proofs.Common.{take}
use Rattle.crossbar.proofs.Carrying.{Carried}
use Rattle.crossbar.proofs.port.carry_out.Given as goal

-- the commands that the bytes so far spell are carried out and answered
abbrev pub invariant-loop-byte : goal.invariant-loop-byte
invariant-loop-byte l = Carried (take l.byte-index l.bytes) l.reader l.fn.crossbar l.crossbar l.replies l.answered
