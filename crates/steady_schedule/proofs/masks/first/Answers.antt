use Rattle.std.proofs.Common.{arith, refl, rules}
use Rattle.steady_schedule.proofs.Bits.{highest_bit}
use Rattle.steady_schedule.proofs.masks.first.Goals as goal

pub returns-in-Falling : goal.returns-in-Falling
returns-in-Falling c =
    let most = highest_bit 32 c.args.mask c.requires (search rules) in
    record { within = omega arith; has = rw most refl }
