use Rattle.euler_split.proofs.Modules.{ends_modules}
use Rattle.euler_split.proofs.halving.take_turn.Goals as goal

pub returns-clause-turn : goal.returns-clause-turn
returns-clause-turn c =
    let ends = ends_modules c.args.graph.now _ c.ends_of.result c.requires.known c.ends_of.ensures in
    rw (← ends.0, ← ends.1) c.has_module-is_left.ensures

pub returns-clause-next : goal.returns-clause-next
returns-clause-next c =
    let ends = ends_modules c.args.graph.now _ c.ends_of.result c.requires.known c.ends_of.ensures in
    rw (← ends.0, ← ends.1) c.toggle.ensures.toggled
