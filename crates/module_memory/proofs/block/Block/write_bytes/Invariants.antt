use Rattle.std.proofs.Common.{◌≡◌, ◌++◌, take}
use Rattle.module_memory.specs.Images.{bytes_of_block}
use Rattle.module_memory.proofs.block.Block.write_bytes.Given as goal

abbrev pub invariant-loop-word : goal.invariant-loop-word
invariant-loop-word l = l.bytes.items ≡ l.initial.bytes.items ++ bytes_of_block (take l.word-index l.word-items)
