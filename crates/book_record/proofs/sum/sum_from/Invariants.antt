use Rattle.std.proofs.Common.{◌≡◌, ◌<◌, ◌^◌, drop}
use Rattle.book_record.specs.Sums.{summing}
use Rattle.book_record.proofs.sum.sum_from.Given as goal

abbrev pub invariant-loop-byte : goal.invariant-loop-byte
invariant-loop-byte l = record {
  below : l.sum < 2 ^ 32;
  sums : summing l.sum (drop l.byte-index l.lines) ≡ summing l.fn.start l.lines;
}
