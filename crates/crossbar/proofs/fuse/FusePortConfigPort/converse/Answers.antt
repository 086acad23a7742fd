use Rattle.std.proofs.Common.{rules}
use Rattle.crossbar.proofs.Fronts.{front_of_conversation}
use Rattle.crossbar.proofs.fuse.FusePortConfigPort.converse.Goals as goal

pub carry_whole-requires : goal.carry_whole-requires
carry_whole-requires c = front_of_conversation c.args.bytes.now _ _ c.requires

pub returns-then-bytes-remaining-clause-remaining : goal.returns-then-bytes-remaining-clause-remaining
returns-then-bytes-remaining-clause-remaining c = search rules

pub returns-clause-within : goal.returns-clause-within
returns-clause-within c = search rules

pub returns-clause-whole : goal.returns-clause-whole
returns-clause-whole c = search rules

pub returns-clause-ends : goal.returns-clause-ends
returns-clause-ends c = search rules

pub returns-clause-replies : goal.returns-clause-replies
returns-clause-replies c = search rules

pub returns-in_default-clause-replies : goal.returns-in_default-clause-replies
returns-in_default-clause-replies c = search rules
