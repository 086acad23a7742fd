use Rattle.std.proofs.Common.{◌≡◌, length, arith}
use Rattle.euler_split.proofs.Evenness.{no_bits, more_bits}
use Rattle.euler_split.proofs.evenly.all_bits.Goals as goal

pub loop-count-init : goal.loop-count-init
loop-count-init c = no_bits c.args.counts.now

pub loop-count-preserved : goal.loop-count-preserved
loop-count-preserved c = more_bits c.args.counts.now c.loop-count.bits c.loop-count.count-index c.loop-count.invariant

pub returns : goal.returns
returns c =
    let all : c.loop-count.count-index ≡ length c.args.counts.now = omega arith in
    rw all at c.loop-count.invariant
