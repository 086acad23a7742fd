use Rattle.std.proofs.Common.{rules}
use Rattle.peek_poke.proofs.fuse.FuseWire.new.Goals as goal

pub returns : goal.returns
returns c = search rules
