use Rattle.std.proofs.Common.{◌≡◌, [], replicate}
use Rattle.module_memory.proofs.Copies.{AreCopiesUpTo}
use Rattle.module_memory.proofs.rack.Rack.copies.Given as goal

abbrev pub invariant-loop-block : goal.invariant-loop-block
invariant-loop-block l = l.copies.items ≡ replicate l.block-index []

abbrev pub invariant-loop-place : goal.invariant-loop-place
invariant-loop-place l = AreCopiesUpTo l.self l.held l.place-index l.copies.items
