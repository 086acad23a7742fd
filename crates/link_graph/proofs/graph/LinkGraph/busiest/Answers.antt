use Rattle.std.proofs.Common.{refl}
use Rattle.link_graph.proofs.Tables.{busiest_is, none_used}
use Rattle.link_graph.proofs.graph.LinkGraph.busiest.Goals as goal

pub returns-then-self-most-eq0-clause-none : goal.returns-then-self-most-eq0-clause-none
returns-then-self-most-eq0-clause-none c = rw (← c.self.view_is) (
  λ _. none_used _ _ _ c.self.invariant c.place_of_most-most.ensures c.if-self-most-eq0.true,
  λ _. refl,
)

pub returns-clause-most : goal.returns-clause-most
returns-clause-most c = rw (← c.self.view_is) (busiest_is _ _ _ _ c.self.invariant c.place_of_most-most.ensures c.if-self-most-eq0.false c.at.ensures.index
    c.at.ensures.«module»)
