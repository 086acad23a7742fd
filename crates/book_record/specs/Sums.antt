-- Sums: that of an image, and those of a record.
use Rattle.std.specs.Prelude.{◌≢◌, ℕ, ◌+◌, ◌*◌, ◌%◌, List, [], ◌∷◌, ◌++◌, All}
use Rattle.batch.specs.Text.{line_feed}
use Rattle.line_words.specs.HexWords.{hex8}

-- ---- the sum of an image: Adler-32, as RFC 1950 has it

-- that of the bytes so far, and that of all these sums
abbrev pub sums : List ℕ → ℕ → ℕ → ℕ
sums [] low high = high * 65536 + low
sums (b ∷ bytes) low high = sums bytes ((low + b) % 65521) ((high + (low + b) % 65521) % 65521)

abbrev pub adler : List ℕ → ℕ
adler bytes = sums bytes 1 0

-- ---- the sums of a record, which are this project's choice

-- What goes on from this. The factor is odd, so that changing one byte makes another sum.
abbrev pub summing : ℕ → List ℕ → ℕ
summing sum [] = sum
summing sum (b ∷ bytes) = summing ((sum * 2891336453 + b) % 4294967296) bytes

-- The sum of the lines of an entry that follows n others. It begins with their number, so that an
-- entry has another sum at another place.
abbrev pub sum_at : ℕ → List ℕ → ℕ
sum_at n bytes = summing (n % 4294967296) bytes

-- the count of n entries: no record has 2 ^ 64
abbrev pub numbered : ℕ → ℕ
numbered n = n % 18446744073709551616

-- ---- the line of a sum

-- `=`, with which the line of a sum begins; no other line after the head has it
abbrev pub sum_mark : ℕ
sum_mark = 61

abbrev pub HasNoMark : List ℕ → Type 0
HasNoMark bytes = All (λ b. b ≢ sum_mark) bytes

-- `=SUM`
abbrev pub sum_line : ℕ → List ℕ
sum_line sum = sum_mark ∷ (hex8 sum ++ line_feed ∷ [])

-- these lines, and that of their sum, after n entries
abbrev pub summed : ℕ → List ℕ → List ℕ
summed n bytes = bytes ++ sum_line (sum_at n bytes)
