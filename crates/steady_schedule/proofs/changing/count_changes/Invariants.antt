use Rattle.std.proofs.Common.{◌≡◌, ◌+◌, ◌-◌, ◌≤◌, [], get_or, drop}
use Rattle.link_graph.specs.Marks.{members}
use Rattle.steady_schedule.specs.Changes.{changes_after, changes}
use Rattle.steady_schedule.specs.Joined.{HaveResponders}
use Rattle.steady_schedule.proofs.changing.count_changes.Given as goal

abbrev pub invariant-loop-k : goal.invariant-loop-k
invariant-loop-k l = record {
  counted : l.count + changes_after l.graph (get_or l.schedule (l.k - 1) []) (drop l.k l.schedule) ≡ changes l.graph l.schedule;
  few : l.count ≤ l.k;
  before : l.before ≡ get_or l.schedule (l.k - 1) [];
  joined : HaveResponders (members l.graph (get_or l.schedule (l.k - 1) [])) l.joined;
}
