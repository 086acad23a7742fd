use Rattle.link_bytes.proofs.DataBits.{low_bits_set, low_bits_clear, bit_or_range}
use Rattle.link_bytes.proofs.reader.with_bit.Goals as goal

pub returns-then-bit-clause-bits : goal.returns-then-bit-clause-bits
returns-then-bit-clause-bits c = rw c.if-bit.true (low_bits_set c.args.value c.args.count c.requires.room)

pub returns-then-bit-clause-range : goal.returns-then-bit-clause-range
returns-then-bit-clause-range c = bit_or_range c.args.value c.args.count c.requires.room c.requires.range

pub returns-else-bit-clause-bits : goal.returns-else-bit-clause-bits
returns-else-bit-clause-bits c = rw c.if-bit.false (low_bits_clear c.args.value c.args.count c.requires.range)
