use Rattle.std.proofs.Common.{length, arith}
use Rattle.std.proofs.lemmas.Iterator.{YieldsList-from_range, items_from_collect}
use Rattle.schedule_certificate.proofs.planning.all_transfers.Goals as goal

pub returns-clause-all : goal.returns-clause-all
returns-clause-all c = items_from_collect c.collect.result c.collect.ensures.ran
    (YieldsList-from_range 0 c.len.result (length c.args.graph.now) (cc) (omega (arith, c.len.ensures.value)))
