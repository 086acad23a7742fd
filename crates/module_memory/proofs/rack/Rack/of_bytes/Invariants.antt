use Rattle.std.proofs.Common.{◌≡◌, ◌+◌, ◌*◌, ◌++◌, length}
use Rattle.std.specs.List.{flat_map}
use Rattle.module_memory.specs.Images.{bytes_of_block}
use Rattle.module_memory.proofs.Images.{AreRead}
use Rattle.module_memory.proofs.rack.Rack.of_bytes.Given as goal

abbrev pub invariant-loop : goal.invariant-loop
invariant-loop l = record {
  read : AreRead l.shape.words l.counter l.blocks.items;
  image : flat_map bytes_of_block l.blocks.items ++ l.rest ≡ l.bytes;
  left : length l.rest + 4 * l.shape.words * l.counter ≡ length l.bytes;
}
