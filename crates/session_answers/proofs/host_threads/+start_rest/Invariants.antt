use Rattle.std.proofs.Common.{length}
use Rattle.std.specs.Vec.Iter.{into_iter_items}
use Rattle.session_answers.proofs.host_threads.+start_rest.Given as goal

abbrev pub decreases-start_rest : goal.decreases-start_rest
decreases-start_rest g l = length (into_iter_items l.left)
