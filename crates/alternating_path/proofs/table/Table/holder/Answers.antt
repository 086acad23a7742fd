use Rattle.std.proofs.Common.{◌≡◌, None, Some, sym, ◌∙◌, ap}
use Rattle.alternating_path.specs.Cells.{holder_at, place_at}
use Rattle.alternating_path.proofs.Shown.{held_by, read_cell}
use Rattle.alternating_path.proofs.table.Table.holder.Goals as goal

pub returns-in_err-holder : goal.returns-in_err-holder
returns-in_err-holder c =
    let s = c.self.inside in
    let r = rw (← c.self.view_is) at c.requires in
    let read : c.index.result.now ≡ holder_at s.cells.items c.args.colour c.place_at-place.result = read_cell s.cells.items s.colours c.args.colour _ _
    c.self.invariant.rows r.in_range c.place_at-place.ensures.below c.index.ensures in
    let none : None ≡ holder_at s.cells.items c.args.colour (place_at s.graph.now c.args.t c.args.end) = sym c.in_err-holder.was ∙ read
    ∙ ap (holder_at s.cells.items c.args.colour) c.place_at-place.ensures.place in
    rw (← c.self.view_is, c.from_residual.ensures) (held_by s.graph.now s.colours _ s.cells.items c.args.t c.args.colour c.args.end None c.self.invariant none)

pub returns : goal.returns
returns c =
    let s = c.self.inside in
    let r = rw (← c.self.view_is) at c.requires in
    let read : c.index.result.now ≡ holder_at s.cells.items c.args.colour c.place_at-place.result = read_cell s.cells.items s.colours c.args.colour _ _
    c.self.invariant.rows r.in_range c.place_at-place.ensures.below c.index.ensures in
    let some : Some c.in_ok-holder.holder ≡ holder_at s.cells.items c.args.colour (place_at s.graph.now c.args.t c.args.end) = sym c.in_ok-holder.was ∙ read
    ∙ ap (holder_at s.cells.items c.args.colour) c.place_at-place.ensures.place in
    rw (← c.self.view_is, c.from.ensures) (held_by s.graph.now s.colours _ s.cells.items c.args.t c.args.colour c.args.end (Some c.in_ok-holder.holder)
    c.self.invariant some)
