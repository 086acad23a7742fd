use Rattle.module_memory.proofs.PlacedImages.{AreSourcesUpTo}
use Rattle.module_memory.proofs.placing.sources_of.Given as goal

abbrev pub invariant-loop-transfer : goal.invariant-loop-transfer
invariant-loop-transfer l = AreSourcesUpTo l.shape l.batch l.transfer-index l.sources.items
