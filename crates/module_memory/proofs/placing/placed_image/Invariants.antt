use Rattle.std.proofs.Common.{◌≡◌, take}
use Rattle.std.specs.List.{flat_map}
use Rattle.module_memory.specs.Images.{bytes_of_block}
use Rattle.module_memory.proofs.PlacedImages.{placed_blocks}
use Rattle.module_memory.proofs.placing.placed_image.Given as goal

abbrev pub invariant-loop-source : goal.invariant-loop-source
invariant-loop-source l = l.placed.items ≡ flat_map bytes_of_block (placed_blocks l.fn.shape l.image (take l.source-index l.source-items))
