-- The addresses of a shape are those of its words, and a write changes one word.
use Rattle.std.proofs.Common.{ℕ, ◌≡◌, ◌+◌, ◌-◌, ◌*◌, ◌/◌, ◌%◌, arith}
use Rattle.module_memory.specs.declared.address.TheConstants.{WORD_BYTES}

pub by_four : (start x : ℕ) → (start + WORD_BYTES * x - start) / WORD_BYTES ≡ x
by_four start x = omega arith

pub four_divides : (start x : ℕ) → start % WORD_BYTES ≡ 0 → (start + WORD_BYTES * x) % WORD_BYTES ≡ 0
four_divides start x e = omega arith
