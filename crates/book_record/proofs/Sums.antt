-- The sum of an image is a word, and a count that wraps begins a sum as well.
use Rattle.std.proofs.Common.{◌≡◌, ℕ, ◌+◌, ◌%◌, ◌<◌, List, [], ◌∷◌, ap, arith}
use Rattle.line_words.specs.HexWords.{IsWord}
use Rattle.book_record.specs.Sums.{adler, numbered, sum_at, summing, sums}

sums_below : (bytes : List ℕ) (low high : ℕ) → low < 65521 → high < 65521 → IsWord (sums bytes low high)
sums_below [] low high few less = omega (arith, few, less)
sums_below (b ∷ bytes) low high few less = sums_below bytes ((low + b) % 65521) ((high + (low + b) % 65521) % 65521) (omega arith) (omega arith)

pub sum_is_word : (bytes : List ℕ) → IsWord (adler bytes)
sum_is_word bytes = sums_below bytes 1 0 (omega arith) (omega arith)

pub sum_wraps : (n m : ℕ) (bytes : List ℕ) → m ≡ numbered n → sum_at m bytes ≡ sum_at n bytes
sum_wraps n m bytes is =
    let same : m % 4294967296 ≡ n % 4294967296 = omega (arith, is) in
    ap (λ (k : ℕ). summing k bytes) same
