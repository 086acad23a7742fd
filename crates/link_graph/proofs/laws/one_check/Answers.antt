use Rattle.link_graph.proofs.OneFault.{none_wrong, same_fault}
use Rattle.link_graph.proofs.laws.one_check.Goals as goal

pub returns-clause-right : goal.returns-clause-right
returns-clause-right c = none_wrong

pub returns-clause-fault : goal.returns-clause-fault
returns-clause-fault c = same_fault
