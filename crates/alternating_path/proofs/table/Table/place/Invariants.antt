use Rattle.std.proofs.Common.{◌≡◌, ◌+◌, ◌*◌, ◌<◌, ◌≤◌}
use Rattle.batch.specs.declared.limits.TheConstants.{MAX_MODULES}
use Rattle.link_graph.specs.Links.{other_end}
use Rattle.alternating_path.proofs.Path.{still}
use Rattle.alternating_path.proofs.AlternatingPath.{IsOnPath}
use Rattle.alternating_path.proofs.table.Table.place.Given as goal

abbrev pub invariant-path : goal.invariant-path
invariant-path l = record {
  on_path : IsOnPath l.initial.self.batch l.initial.self.colours l.initial.self.colour l.t l.self.colour l.hand l.end (other_end l.end) l.colour l.other;
  rest : l.self ≡ record l.initial.self { colour = l.self.colour };
  colour_in : l.colour < l.initial.self.colours;
  other_in : l.other < l.initial.self.colours;
  few : l.steps + still l.colour l.other l.self.colour l.initial.self.colour ≤ l.initial.steps + 2 * MAX_MODULES;
}

abbrev pub decreases-path : goal.decreases-path
decreases-path l = still l.colour l.other l.self.colour l.initial.self.colour
