use Rattle.std.proofs.Common.{sym, ◌∙◌}
use Rattle.batch.specs.declared.limits.TheConstants.{MAX_MODULES}
use Rattle.link_graph.proofs.Masks.{no_pair}
use Rattle.euler_split.proofs.pairs.Pairs.none.Goals as goal

pub invariant_of-result : goal.invariant_of-result
invariant_of-result c = record { mirrored = λ u v. no_pair MAX_MODULES v u ∙ sym (no_pair MAX_MODULES u v) }

pub returns : goal.returns
returns c u v = no_pair MAX_MODULES u v
