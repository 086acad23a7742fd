-- Where a byte changes, the sum does: what a sum is multiplied by is odd.
use Rattle.std.proofs.Common.{◌≡◌, ◌<◌, ℕ, ◌+◌, ◌*◌, ◌%◌, List, [], ◌∷◌, ◌++◌, arith}
use Rattle.book_record.specs.FrontLaws.{SeesBytes}
use Rattle.book_record.specs.Sums.{summing}

one_before : (s t b : ℕ) → s < 4294967296 → t < 4294967296 → (s * 2891336453 + b) % 4294967296 ≡ (t * 2891336453 + b) % 4294967296 → s ≡ t
one_before s t b fewer less same = omega (arith, fewer, less, same)

one_byte : (s b c : ℕ) → b < 256 → c < 256 → (s * 2891336453 + b) % 4294967296 ≡ (s * 2891336453 + c) % 4294967296 → b ≡ c
one_byte s b c fewer less same = omega (arith, fewer, less, same)

one_start : (s t : ℕ) (bytes : List ℕ) → s < 4294967296 → t < 4294967296 → summing s bytes ≡ summing t bytes → s ≡ t
one_start s t [] fewer less same = same
one_start s t (b ∷ bytes) fewer less same =
    one_before s t b fewer less
    (one_start ((s * 2891336453 + b) % 4294967296) ((t * 2891336453 + b) % 4294967296) bytes (omega arith) (omega arith) same)

one_line : (s b c : ℕ) (before after : List ℕ) → b < 256 → c < 256 → summing s (before ++ b ∷ after) ≡ summing s (before ++ c ∷ after) → b ≡ c
one_line s b c [] after fewer less same =
    one_byte s b c fewer less
    (one_start ((s * 2891336453 + b) % 4294967296) ((s * 2891336453 + c) % 4294967296) after (omega arith) (omega arith) same)
one_line s b c (x ∷ before) after fewer less same = one_line ((s * 2891336453 + x) % 4294967296) b c before after fewer less same

pub sees_bytes : SeesBytes
sees_bytes = (
  λ n b c before after fewer less other same. other (one_line (n % 4294967296) b c before after fewer less same),
  λ n k bytes fewer less other same. other (omega (arith, fewer, less, one_start (n % 4294967296) (k % 4294967296) bytes (omega arith) (omega arith) same)),
)
