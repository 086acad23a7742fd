use Rattle.std.proofs.Common.{ap, sym, ◌∙◌}
use Rattle.alternating_path.specs.Cells.{place_at}
use Rattle.alternating_path.proofs.Links.{ends_places}
use Rattle.alternating_path.proofs.table.place_at.Goals as goal

pub returns-in-Zero-clause-place : goal.returns-in-Zero-clause-place
returns-in-Zero-clause-place c = c.index.ensures.index
    ∙ (ends_places c.args.graph.now c.args.t c.unwrap.result c.requires.known (sym c.ends.ensures ∙ c.unwrap.ensures)).0
    ∙ ap (place_at c.args.graph.now c.args.t) (sym c.in-Zero.is)

pub returns-in-Three-clause-place : goal.returns-in-Three-clause-place
returns-in-Three-clause-place c = c.index-in-Three.ensures.index
    ∙ (ends_places c.args.graph.now c.args.t c.unwrap.result c.requires.known (sym c.ends.ensures ∙ c.unwrap.ensures)).1
    ∙ ap (place_at c.args.graph.now c.args.t) (sym c.in-Three.is)
