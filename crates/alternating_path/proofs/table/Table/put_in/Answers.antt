use Rattle.std.proofs.Common.{ℕ, List, Option, ap}
use Rattle.alternating_path.specs.Colouring.{Colouring}
use Rattle.alternating_path.specs.Cells.{shown_colours}
use Rattle.alternating_path.proofs.Shown.{cells_after_put, show, shown-is, cells_proper}
use Rattle.alternating_path.proofs.table.Table.put_in.Goals as goal

pub invariant_of-self : goal.invariant_of-self
invariant_of-self c =
    let s = c.self.inside in
    let r = rw (← c.self.view_is) at c.requires in
    rw (c.place_at-zero.ensures.place, c.place_at-three.ensures.place)
    (show _ _ _ _ (cells_after_put s.graph.now s.colours _ s.cells.items c.args.t c.args.colour c.self.invariant r.known r.in_range r.out r.zero_free
    r.three_free))

pub returns-clause-proper : goal.returns-clause-proper
returns-clause-proper c =
    let s = c.self.inside in
    let r = rw (← c.self.view_is) at c.requires in
    rw (c.place_at-zero.ensures.place, c.place_at-three.ensures.place)
    (cells_proper _ _ _ _
    (show _ _ _ _ (cells_after_put s.graph.now s.colours _ s.cells.items c.args.t c.args.colour c.self.invariant r.known r.in_range r.out r.zero_free
    r.three_free)))

pub returns-clause-written : goal.returns-clause-written
returns-clause-written c =
    let s = c.self.inside in
    let r = rw (← c.self.view_is) at c.requires in
    rw (← c.self.view_is, c.place_at-zero.ensures.place, c.place_at-three.ensures.place)
    (ap (λ (f : List (Option ℕ)). let v : Colouring = record { batch = s.graph.now; colours = s.colours; colour = f; inserted = s.inserted } in v)
    (shown-is _ _ _ _ (cells_after_put s.graph.now s.colours (shown_colours s.graph.now s.colours s.cells.items) s.cells.items c.args.t c.args.colour
    c.self.invariant r.known r.in_range r.out r.zero_free r.three_free)))
