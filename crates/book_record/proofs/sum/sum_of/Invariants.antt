use Rattle.std.proofs.Common.{◌≡◌, ◌<◌, drop}
use Rattle.book_record.specs.Sums.{adler, sums}
use Rattle.book_record.proofs.sum.sum_of.Given as goal

abbrev pub invariant-loop-byte : goal.invariant-loop-byte
invariant-loop-byte l = record {
  low : l.low < 65521;
  high : l.high < 65521;
  sums : sums (drop l.byte-index l.image) l.low l.high ≡ adler l.image;
}
