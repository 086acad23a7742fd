use Rattle.std.proofs.Common.{◌≡◌, ◌/◌, map, length, arith, rules, ap, ◌∙◌}
use Rattle.std.specs.Simd.{first_chunks}
use Rattle.module_memory.specs.Images.{bytes_of_block, word_of_bytes}
use Rattle.module_memory.proofs.Images.{bytes_again}
use Rattle.module_memory.proofs.block.Block.of_bytes.Goals as goal

pub returns-clause-bytes : goal.returns-clause-bytes
returns-clause-bytes c =
    let bytes = c.args.bytes.now in
    let read : c.in_ok-words.words.items ≡ map word_of_bytes (first_chunks 4 (length bytes / 4) bytes) = search rules in
    ap bytes_of_block read ∙ bytes_again (length bytes / 4) bytes (omega (arith, c.requires)) (λ i. omega (arith, c.type_inv.bytes i))
