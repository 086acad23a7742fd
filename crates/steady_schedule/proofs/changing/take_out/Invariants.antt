use Rattle.std.proofs.Common.{drop}
use Rattle.std.specs.List.{IsDistinct}
use Rattle.link_graph.specs.Marks.{members}
use Rattle.steady_schedule.specs.Joined.{HaveResponders}
use Rattle.steady_schedule.proofs.Joined.{same_start}
use Rattle.steady_schedule.proofs.changing.take_out.Given as goal

abbrev pub invariant-loop-place : goal.invariant-loop-place
invariant-loop-place l =
    HaveResponders (members l.graph (drop l.place l.setting)) l.joined
    × IsDistinct same_start (members l.graph (drop l.place l.setting))
