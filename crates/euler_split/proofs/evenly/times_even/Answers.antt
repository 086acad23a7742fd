use Rattle.std.proofs.Common.{length, inl, inr, arith}
use Rattle.euler_split.proofs.Numbers.{few}
use Rattle.euler_split.proofs.Evenness.{halved_by_bits, most_by_bits, none_by_bits, bits_of_none}
use Rattle.euler_split.proofs.evenly.times_even.Goals as goal

pub count_pairs-requires-clause-few : goal.count_pairs-requires-clause-few
count_pairs-requires-clause-few c = omega (
  arith,
  few (length c.args.graph.now) c.args.members.now c.requires.known c.requires.distinct,
  c.len.ensures.batch.few,
)

pub returns-then-bits-eq0-clause-most : goal.returns-then-bits-eq0-clause-most
returns-then-bits-eq0-clause-most c times even =
    inr (none_by_bits c.args.graph.now c.args.members.now c.count_pairs.result c.all_bits-bits.result c.len.ensures.batch c.requires.known
    c.count_pairs.ensures.counts c.all_bits-bits.ensures c.if-bits-eq0.true)

pub returns-clause-halved : goal.returns-clause-halved
returns-clause-halved c = halved_by_bits c.args.graph.now c.args.members.now c.count_pairs.result c.all_bits-bits.result c.len.ensures.batch c.requires.known
    c.count_pairs.ensures.counts c.all_bits-bits.ensures (omega (arith, c.if-bits-eq0.false)) c.all_bits-bits.type_inv

pub returns-clause-most : goal.returns-clause-most
returns-clause-most c times even = inl (most_by_bits c.args.graph.now c.args.members.now c.count_pairs.result c.all_bits-bits.result c.len.ensures.batch
    c.requires.known c.count_pairs.ensures.counts c.all_bits-bits.ensures (omega (arith, c.if-bits-eq0.false)) c.all_bits-bits.type_inv times even)

pub returns-clause-none : goal.returns-clause-none
returns-clause-none c empty =
    absurd (c.if-bits-eq0.false (bits_of_none c.args.graph.now c.args.members.now c.count_pairs.result c.all_bits-bits.result c.len.ensures.batch
    c.requires.known c.count_pairs.ensures.counts c.all_bits-bits.ensures empty))
