use Rattle.euler_split.specs.Evenness.{HasBits}
use Rattle.euler_split.proofs.evenly.all_bits.Given as goal

abbrev pub invariant-loop-count : goal.invariant-loop-count
invariant-loop-count l = HasBits l.counts l.count-index l.bits
