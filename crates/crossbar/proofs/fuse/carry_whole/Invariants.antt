use Rattle.std.proofs.Common.{take}
use Rattle.crossbar.proofs.Carrying.{Ran}
use Rattle.crossbar.proofs.fuse.carry_whole.Given as goal

-- the commands that the bytes so far spell are carried out
abbrev pub invariant-loop-byte : goal.invariant-loop-byte
invariant-loop-byte l = Ran (take l.byte-index l.bytes) l.reader l.fn.crossbar l.crossbar
