-- Masks: a bit for each module.
use Rattle.std.specs.Prelude.{ℕ, List, Bool, ◌==◌, slice_index_or}
use Rattle.std.specs.Int.{bit_at}

-- whether module m is in the mask
abbrev pub has_bit : ℕ → ℕ → Bool
has_bit mask m = bit_at mask m == 1

-- whether module m is in the mask that stands at a place
abbrev pub has_pair : List ℕ → ℕ → ℕ → Bool
has_pair masks place m = has_bit (slice_index_or masks place 0) m
