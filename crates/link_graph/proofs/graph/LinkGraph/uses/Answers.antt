use Rattle.std.proofs.Common.{sym, rules}
use Rattle.link_graph.proofs.Tables.{uses_outside}
use Rattle.link_graph.proofs.graph.LinkGraph.uses.Goals as goal

pub returns-else-link-lt-MAX_MODULES : goal.returns-else-link-lt-MAX_MODULES
returns-else-link-lt-MAX_MODULES c = rw (← c.self.view_is) (sym (uses_outside _ c.args.link c.self.invariant.batch_fits c.if-link-lt-MAX_MODULES.false))

pub returns-then-link-lt-MAX_MODULES : goal.returns-then-link-lt-MAX_MODULES
returns-then-link-lt-MAX_MODULES c = search rules
