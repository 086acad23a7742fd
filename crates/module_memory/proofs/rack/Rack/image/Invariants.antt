use Rattle.std.proofs.Common.{◌≡◌, take}
use Rattle.std.specs.List.{flat_map}
use Rattle.module_memory.specs.Images.{bytes_of_block}
use Rattle.module_memory.proofs.Images.{AreSmall}
use Rattle.module_memory.proofs.rack.Rack.image.Given as goal

abbrev pub invariant-loop-block : goal.invariant-loop-block
invariant-loop-block l = record {
  bytes : l.bytes.items ≡ flat_map bytes_of_block (take l.block-index l.block-items);
  words : AreSmall (take l.block-index l.block-items);
}
