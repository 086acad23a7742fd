use Rattle.std.proofs.Common.{◌<◌, All, take}
use Rattle.link_graph.proofs.checking.unknown_in.Given as goal

abbrev pub invariant-loop-t : goal.invariant-loop-t
invariant-loop-t l = All (λ t. t < l.count) (take l.t-index l.setting)
