use Rattle.std.proofs.Common.{All, take}
use Rattle.link_graph.specs.Checks.{UsesNamed}
use Rattle.link_graph.proofs.checking.first_stray.Given as goal

abbrev pub invariant-loop-t : goal.invariant-loop-t
invariant-loop-t l = All (UsesNamed l.batch l.link) (take l.t-index l.transfers)
