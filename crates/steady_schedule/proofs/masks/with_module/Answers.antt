use Rattle.std.proofs.lemmas.Nat.{one_shl}
use Rattle.steady_schedule.proofs.Bits.{bit_added}
use Rattle.steady_schedule.proofs.masks.with_module.Goals as goal

pub returns : goal.returns
returns c m = rw (one_shl c.args.module 32 c.requires) (bit_added c.args.mask c.args.module m)
