use Rattle.std.proofs.Common.{◌<◌, All, take}
use Rattle.std.specs.List.{concat}
use Rattle.link_graph.specs.Schedules.{lists_of}
use Rattle.link_graph.proofs.checking.first_unknown.Given as goal

abbrev pub invariant-loop-setting : goal.invariant-loop-setting
invariant-loop-setting l = All (λ t. t < l.count) (concat (take l.setting-index (lists_of l.lists)))
