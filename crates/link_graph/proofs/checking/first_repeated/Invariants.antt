use Rattle.std.proofs.Common.{take}
use Rattle.std.specs.List.{concat}
use Rattle.link_graph.specs.Schedules.{lists_of}
use Rattle.link_graph.specs.Certificates.{AreDistinct}
use Rattle.link_graph.specs.Marks.{AreMarks}
use Rattle.link_graph.proofs.checking.first_repeated.Given as goal

abbrev pub invariant-loop-setting : goal.invariant-loop-setting
invariant-loop-setting l = record {
  marks : AreMarks l.marks (concat (take l.setting-index (lists_of l.lists)));
  distinct : AreDistinct (concat (take l.setting-index (lists_of l.lists)));
}
