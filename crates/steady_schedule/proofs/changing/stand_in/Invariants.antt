use Rattle.std.proofs.Common.{◌≡◌, List, drop}
use Rattle.batch.specs.declared.transfer.Transfer.{Transfer}
use Rattle.link_graph.specs.Marks.{members}
use Rattle.steady_schedule.specs.Changes.{join_within}
use Rattle.steady_schedule.specs.Joined.{HaveResponders}
use Rattle.steady_schedule.proofs.changing.stand_in.Given as goal

abbrev pub invariant-loop-place : goal.invariant-loop-place
invariant-loop-place l =
    (others : List Transfer) → HaveResponders others l.joined
    → join_within (members l.graph l.setting) others ≡ join_within (members l.graph (drop l.place l.setting)) others
