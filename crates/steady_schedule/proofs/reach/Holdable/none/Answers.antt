use Rattle.batch.specs.declared.limits.TheConstants.{MAX_MODULES}
use Rattle.link_graph.proofs.Masks.{no_pair}
use Rattle.steady_schedule.proofs.reach.Holdable.none.Goals as goal

pub returns-clause-near : goal.returns-clause-near
returns-clause-near c u v = no_pair MAX_MODULES u v
