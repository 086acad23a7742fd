use Rattle.std.proofs.Common.{take}
use Rattle.link_graph.specs.Marks.{members}
use Rattle.steady_schedule.specs.Joined.{HaveResponders}
use Rattle.steady_schedule.proofs.changing.put_in.Given as goal

abbrev pub invariant-loop-place : goal.invariant-loop-place
invariant-loop-place l = HaveResponders (members l.graph (take l.place l.setting)) l.joined
