use Rattle.std.proofs.Common.{arith}
use Rattle.std.proofs.lemmas.Bool.Decides.{nat_tests}
use Rattle.std.proofs.lemmas.Nat.Bits.{shr_and_one}
use Rattle.link_graph.specs.Masks.{has_bit}
use Rattle.steady_schedule.proofs.PartnerMasks.{count_more, bits_set_is}
use Rattle.steady_schedule.proofs.partners.bits_set.Goals as goal

pub loop-module-preserved : goal.loop-module-preserved
loop-module-preserved c = grind (arith, nat_tests, shr_and_one c.args.mask c.loop-module.module, count_more c.loop-module.module (λ m. has_bit c.args.mask m))

pub returns : goal.returns
returns c = rw c.loop-module.invariant.0 (bits_set_is c.args.mask c.loop-module.module (omega arith))
