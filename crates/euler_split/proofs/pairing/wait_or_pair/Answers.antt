use Rattle.std.proofs.Common.{rules}
use Rattle.euler_split.proofs.pairing.wait_or_pair.Goals as goal

pub returns-in-Some : goal.returns-in-Some
returns-in-Some c = search rules
